-- Worked blocks of a trace: several faulty modules, several differing copies, and a repair beside a fault.
use Rattle.std.proofs.Common.{◌≡◌, ℕ, List, [], ◌∷◌, refl}
use Rattle.std.specs.Prelude.{codes}
use Rattle.std.specs.Fmt.{digits}
use Rattle.lvdc_word.specs.Cell.{with_stuck}
use Rattle.lvdc_vote.specs.Bits.{majority, flipped}
use Rattle.lvdc_text.specs.Numbers.{octal_text}
use Rattle.lvdc_map.specs.Address.{Spot}
use Rattle.lvdc_map.specs.Hop.{hop_of}
use Rattle.lvdc_fault.specs.declared.event.Event.{Event}
use Rattle.lvdc_fault.specs.declared.event.Event.TheVariants.{Flip, Damage}
use Rattle.lvdc_model.specs.Trial.{Trial}
use Rattle.lvdc_machine.specs.declared.mode.Mode.{Mode}
use Rattle.lvdc_machine.specs.declared.mode.Mode.TheVariants.{Guarded, Through}
use Rattle.lvdc_lines.specs.Noted.{lines_below}
use Rattle.lvdc_trace.specs.Traces.{trace_text}

-- location 000 or 001 of a sector of bank 0
at : ℕ → ℕ → Spot
at sector loc = record { pair = 0; sector = sector; loc = loc }

-- CLA 000 and ADD 001 in sector 00, and their words in sector 01, under a script, without devices
trial : List Event → Trial
trial script =
    record {
      opening =
          record {
            image =
                record { at = at 0 0; word = 0o17000 } ∷ record { at = at 0 1; word = 0o07001 } ∷ record { at = at 1 0; word = 0o177777777 }
                ∷ record { at = at 1 1; word = 1 } ∷ [];
            banks = 0;
            start = hop_of 0o16;
            unplugs = [];
            devices = [];
          };
      script = script;
    }

-- the trace of one step of a run of two times
step_of : Mode → List Event → ℕ → List ℕ
step_of mode script step = trace_text mode (trial script) 2 (record { first = step; count = 1 })

-- copy 2 of DECODER and copy 1 of ACCUMULATOR lose a bit, and copy 3 of EXCHANGE fails without a trace: each has a FAULT line by
-- module, whatever their order in the script, and those that differ have a COPY line
three_faulty_modules : step_of Guarded (Flip 7 3 3 3 0 0 ∷ Flip 5 1 3 3 0 1 ∷ Flip 3 2 3 3 0 1 ∷ []) 3
    ≡ codes "LVDC TRACE\nSTEP 3\nFETCH 0 00 001 000007001\nFAULT 3 2\nFAULT 5 1\nFAULT 7 3\nVOTE 1 000000001 000000000\nVOTE 2 000002004 000000000\nVOTE 3 000007001\nVOTE 4 000000012\nVOTE 5 177777777 177777777\nVOTE 6 000000000 000000000 000000000 000000000 000000000\nVOTE 7 000000000 000000000\nCOPY 3 2 000007000\nCOPY 5 1 177777776 177777777\nMORE\n"
unfolding step_of trial at digits octal_text lines_below with_stuck majority flipped
three_faulty_modules = refl

-- two copies of one module differ each in another bit, and the vote is right
two_differing_copies : step_of Through (Flip 3 2 4 4 0 2 ∷ Flip 3 1 4 4 0 1 ∷ []) 4
    ≡ codes "LVDC TRACE THROUGH\nSTEP 4\nOPERAND 0 01 001 000000001\nFAULT 3 1\nFAULT 3 2\nVOTE 1 000000002 000000000\nVOTE 2 000002004 000000000\nVOTE 3 000007001\nVOTE 4 000000012\nVOTE 5 177777777 000000001\nVOTE 6 000000000 000000000 000000000 000000000 000000000\nVOTE 7 000000000 000000000\nCOPY 3 1 000007000\nCOPY 3 2 000007003\nMORE\n"
unfolding step_of trial at digits octal_text lines_below with_stuck majority flipped
two_differing_copies = refl

-- the twin that isn't selected is repaired, so nothing switches; in the same step copy 2 of ACCUMULATOR latches another OPERAND
a_repair_without_a_switch_beside_a_fault : step_of Guarded (Damage 1 (at 1 0) 0 1 ∷ Flip 5 2 1 1 1 2 ∷ []) 1
    ≡ codes "LVDC TRACE\nSTEP 1\nOPERAND 0 01 000 177777777\nREPAIR 0 01 000 1\nFAULT 5 2\nVOTE 1 000000002 000000000\nVOTE 2 000000004 000000000\nVOTE 3 000017000\nVOTE 4 000000012\nVOTE 5 000000000 177777777\nVOTE 6 000000000 000000000 000000000 000000000 000000000\nVOTE 7 000000000 000000000\nCOPY 5 2 000000000 177777775\nMORE\n"
unfolding step_of trial at digits octal_text lines_below with_stuck majority flipped
a_repair_without_a_switch_beside_a_fault = refl

-- the selected twin is repaired: the other one is selected from then on
a_repair_with_a_switch_beside_a_fault : step_of Guarded (Flip 1 3 0 0 1 4 ∷ Damage 0 (at 0 0) 0 1 ∷ []) 0
    ≡ codes "LVDC TRACE\nSTEP 0\nFETCH 0 00 000 000017000\nREPAIR 0 00 000 0 SWITCH\nFAULT 1 3\nVOTE 1 000000001 000000000\nVOTE 2 000000004 000000000\nVOTE 3 000017000\nVOTE 4 000000012\nVOTE 5 000000000 000000000\nVOTE 6 000000000 000000000 000000000 000000000 000000000\nVOTE 7 000000000 000000000\nCOPY 1 3 000000001 000000004\nMORE\n"
unfolding step_of trial at digits octal_text lines_below with_stuck majority flipped
a_repair_with_a_switch_beside_a_fault = refl
