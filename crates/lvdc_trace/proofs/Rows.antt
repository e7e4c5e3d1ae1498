-- Worked traces, by computing.
use Rattle.std.proofs.Common.{◌≡◌, ℕ, ◌+◌, refl, List, [], ◌∷◌, ◌++◌}
use Rattle.std.specs.Prelude.{codes}
use Rattle.std.specs.Fmt.{digits}
use Rattle.lvdc_word.specs.Cell.{with_stuck}
use Rattle.lvdc_vote.specs.Bits.{majority, flipped}
use Rattle.lvdc_text.specs.Numbers.{octal_text}
use Rattle.lvdc_map.specs.Hop.{hop_of}
use Rattle.lvdc_map.specs.declared.placed.Placed.{Placed}
use Rattle.lvdc_port.specs.Device.{Device}
use Rattle.lvdc_port.specs.declared.device.Kind.TheVariants.{Tape, Recorder}
use Rattle.lvdc_fault.specs.declared.event.Event.{Event}
use Rattle.lvdc_fault.specs.declared.event.Event.TheVariants.{Flip, Damage}
use Rattle.lvdc_model.specs.Trial.{Trial}
use Rattle.lvdc_machine.specs.declared.mode.Mode.TheVariants.{Guarded, Through}
use Rattle.lvdc_lines.specs.Noted.{lines_below}
use Rattle.lvdc_trace.specs.declared.window.Window.{Window}
use Rattle.lvdc_trace.specs.Traces.{trace_text, failed_text}

-- words at the locations of a sector of bank 0, from one location on
abbrev placed : ℕ → ℕ → List ℕ → List Placed
placed sector loc [] = []
placed sector loc (w ∷ ws) = record { at = record { pair = 0; sector = sector; loc = loc }; word = w } ∷ placed sector (loc + 1) ws

-- code in sector 0, words in sector 1, these devices and this script
abbrev trial : List ℕ → List ℕ → List Device → List Event → Trial
trial code words devices script =
    record {
      opening = record { image = placed 0 0 code ++ placed 1 0 words; banks = 0; start = hop_of 0o16; unplugs = []; devices = devices };
      script = script;
    }

-- so many steps from the first on
abbrev window : ℕ → ℕ → Window
window first count = record { first = first; count = count }

-- a sum that wraps at the sign, under a script
abbrev sum : List Event → Trial
sum script = trial (0o17000 ∷ 0o07001 ∷ 0o13002 ∷ 0o10003 ∷ []) (0o177777777 ∷ 1 ∷ []) [] script

-- two copies of INSTR lose a bit in step 4, and the vote makes AND of ADD
abbrev and_for_add : Trial
and_for_add = sum (Flip 3 1 4 4 0 0o1000 ∷ Flip 3 2 4 4 0 0o1000 ∷ [])

-- one copy of ACCUMULATOR after another is wrong
abbrev one_after_another : Trial
one_after_another = sum (Flip 5 1 3 3 0 1 ∷ Flip 5 2 4 4 0 1 ∷ Flip 5 3 5 5 0 1 ∷ [])

-- a word that is loaded again and again, and is damaged in one twin and then in the other
abbrev both_damaged : Trial
both_damaged = trial (0o17000 ∷ 0o10000 ∷ []) (5 ∷ []) [] (Damage 0 (record { pair = 0; sector = 1; loc = 0 }) 0 1 ∷ Damage 1 (record { pair = 0; sector = 1; loc = 0 }) 4 1 ∷ [])

-- a word of a tape goes to the recorder
abbrev ports : Trial
ports = trial (0o12400 ∷ 0o12017 ∷ 0o10000 ∷ []) []
    (record { port = 0; kind = Tape; state = 5 ∷ [] } ∷ record { port = 0o17; kind = Recorder; state = [] } ∷ []) []

-- a shift that is none
abbrev wrong_shift : Trial
wrong_shift = trial (0o16203 ∷ []) [] [] []

-- a module has a VOTE line where its vote changes, in the first step all have one
a_sum_that_wraps : trace_text Guarded (sum []) 3 (window 0 9)
    ≡ codes "LVDC TRACE\nSTEP 0\nFETCH 0 00 000 000017000\nVOTE 1 000000001 000000000\nVOTE 2 000000004 000000000\nVOTE 3 000017000\nVOTE 4 000000012\nVOTE 5 000000000 000000000\nVOTE 6 000000000 000000000 000000000 000000000 000000000\nVOTE 7 000000000 000000000\nSTEP 1\nOPERAND 0 01 000 177777777\nVOTE 1 000000002 000000000\nVOTE 5 000000000 177777777\nSTEP 2\nVOTE 1 000000000 000000000\nVOTE 2 000002004 000000000\nVOTE 5 177777777 177777777\nSTEP 3\nFETCH 0 00 001 000007001\nVOTE 1 000000001 000000000\nVOTE 3 000007001\nSTEP 4\nOPERAND 0 01 001 000000001\nVOTE 1 000000002 000000000\nVOTE 5 177777777 000000001\nSTEP 5\nVOTE 1 000000000 000000000\nVOTE 2 000004004 000000000\nVOTE 5 200000000 000000001\nSTEP 6\nFETCH 0 00 002 000013002\nVOTE 1 000000001 000000000\nVOTE 3 000013002\nSTEP 7\nVOTE 1 000000002 000000000\nVOTE 7 000000000 000004021\nSTEP 8\nSTORE 0 01 002 200000000\nVOTE 1 000000000 000000000\nVOTE 2 000006004 000000000\nVOTE 7 000000000 000000000\nEND DONE\n"
unfolding digits octal_text lines_below with_stuck majority flipped
a_sum_that_wraps = refl

-- a copy that computes from the votes is right again
one_wrong_copy_in_each_step : trace_text Guarded one_after_another 3 (window 3 3)
    ≡ codes "LVDC TRACE\nSTEP 3\nFETCH 0 00 001 000007001\nFAULT 5 1\nVOTE 1 000000001 000000000\nVOTE 2 000002004 000000000\nVOTE 3 000007001\nVOTE 4 000000012\nVOTE 5 177777777 177777777\nVOTE 6 000000000 000000000 000000000 000000000 000000000\nVOTE 7 000000000 000000000\nCOPY 5 1 177777776 177777777\nSTEP 4\nOPERAND 0 01 001 000000001\nFAULT 5 2\nVOTE 1 000000002 000000000\nVOTE 5 177777777 000000001\nCOPY 5 2 177777776 000000001\nSTEP 5\nFAULT 5 3\nVOTE 1 000000000 000000000\nVOTE 2 000004004 000000000\nVOTE 5 200000000 000000001\nCOPY 5 3 200000001 000000001\nMORE\n"
unfolding digits octal_text lines_below with_stuck majority flipped
one_wrong_copy_in_each_step = refl

-- damage is no line of a trace, the repair is
repairs_of_both_twins : trace_text Guarded both_damaged 3 (window 0 8)
    ≡ codes "LVDC TRACE\nSTEP 0\nFETCH 0 00 000 000017000\nVOTE 1 000000001 000000000\nVOTE 2 000000004 000000000\nVOTE 3 000017000\nVOTE 4 000000012\nVOTE 5 000000000 000000000\nVOTE 6 000000000 000000000 000000000 000000000 000000000\nVOTE 7 000000000 000000000\nSTEP 1\nOPERAND 0 01 000 000000005\nREPAIR 0 01 000 0 SWITCH\nVOTE 1 000000002 000000000\nVOTE 5 000000000 000000005\nSTEP 2\nVOTE 1 000000000 000000000\nVOTE 2 000002004 000000000\nVOTE 5 000000005 000000005\nSTEP 3\nFETCH 0 00 001 000010000\nVOTE 1 000000001 000000000\nVOTE 3 000010000\nSTEP 4\nVOTE 1 000000002 000000000\nSTEP 5\nVOTE 1 000000000 000000000\nVOTE 2 000000004 000004016\nSTEP 6\nFETCH 0 00 000 000017000\nVOTE 1 000000001 000000000\nVOTE 3 000017000\nSTEP 7\nOPERAND 0 01 000 000000005\nREPAIR 0 01 000 1 SWITCH\nVOTE 1 000000002 000000000\nMORE\n"
unfolding digits octal_text lines_below with_stuck majority flipped
repairs_of_both_twins = refl

-- the copy that is right differs
two_copies_outvote_the_third : trace_text Through and_for_add 3 (window 3 6)
    ≡ codes "LVDC TRACE THROUGH\nSTEP 3\nFETCH 0 00 001 000007001\nVOTE 1 000000001 000000000\nVOTE 2 000002004 000000000\nVOTE 3 000007001\nVOTE 4 000000012\nVOTE 5 177777777 177777777\nVOTE 6 000000000 000000000 000000000 000000000 000000000\nVOTE 7 000000000 000000000\nSTEP 4\nOPERAND 0 01 001 000000001\nFAULT 3 1\nFAULT 3 2\nVOTE 1 000000002 000000000\nVOTE 3 000006001\nVOTE 5 177777777 000000001\nCOPY 3 3 000007001\nSTEP 5\nVOTE 1 000000000 000000000\nVOTE 2 000004004 000000000\nVOTE 5 000000001 000000001\nSTEP 6\nFETCH 0 00 002 000013002\nVOTE 1 000000001 000000000\nVOTE 3 000013002\nSTEP 7\nVOTE 1 000000002 000000000\nVOTE 7 000000000 000004021\nSTEP 8\nSTORE 0 01 002 000000001\nVOTE 1 000000000 000000000\nVOTE 2 000006004 000000000\nVOTE 7 000000000 000000000\nEND DONE\n"
unfolding digits octal_text lines_below with_stuck majority flipped
two_copies_outvote_the_third = refl

-- the step was begun, and has no lines
a_step_that_is_not_made : trace_text Guarded and_for_add 3 (window 3 6)
    ≡ codes "LVDC TRACE\nSTEP 3\nFETCH 0 00 001 000007001\nVOTE 1 000000001 000000000\nVOTE 2 000002004 000000000\nVOTE 3 000007001\nVOTE 4 000000012\nVOTE 5 177777777 177777777\nVOTE 6 000000000 000000000 000000000 000000000 000000000\nVOTE 7 000000000 000000000\nEND INADMISSIBLE 4 LOGIC 3\n"
unfolding digits octal_text lines_below with_stuck majority flipped
a_step_that_is_not_made = refl

-- what a read of a port brought, and what was written
a_word_in_and_out : trace_text Guarded ports 2 (window 0 6)
    ≡ codes "LVDC TRACE\nSTEP 0\nFETCH 0 00 000 000012400\nVOTE 1 000000001 000000000\nVOTE 2 000000004 000000000\nVOTE 3 000012400\nVOTE 4 000000012\nVOTE 5 000000000 000000000\nVOTE 6 000000000 000000000 000000000 000000000 000000000\nVOTE 7 000000000 000000000\nSTEP 1\nVOTE 1 000000002 000000000\nVOTE 7 000000000 000000004\nSTEP 2\nIN 000 000000005\nVOTE 1 000000000 000000000\nVOTE 2 000002004 000000000\nVOTE 5 000000005 000000000\nVOTE 7 000000000 000000000\nSTEP 3\nFETCH 0 00 001 000012017\nVOTE 1 000000001 000000000\nVOTE 3 000012017\nSTEP 4\nVOTE 1 000000002 000000000\nVOTE 7 000000000 000000173\nSTEP 5\nOUT 017 000000005\nVOTE 1 000000000 000000000\nVOTE 2 000004004 000000000\nVOTE 7 000000000 000000000\nEND DONE\n"
unfolding digits octal_text lines_below with_stuck majority flipped
a_word_in_and_out = refl

-- the window ends before the run
more_is_left : trace_text Guarded (sum []) 3 (window 0 1)
    ≡ codes "LVDC TRACE\nSTEP 0\nFETCH 0 00 000 000017000\nVOTE 1 000000001 000000000\nVOTE 2 000000004 000000000\nVOTE 3 000017000\nVOTE 4 000000012\nVOTE 5 000000000 000000000\nVOTE 6 000000000 000000000 000000000 000000000 000000000\nVOTE 7 000000000 000000000\nMORE\n"
unfolding digits octal_text lines_below with_stuck majority flipped
more_is_left = refl

-- it begins at the last step and goes past it
the_last_step : trace_text Guarded (sum []) 3 (window 8 5)
    ≡ codes "LVDC TRACE\nSTEP 8\nSTORE 0 01 002 200000000\nVOTE 1 000000000 000000000\nVOTE 2 000006004 000000000\nVOTE 3 000013002\nVOTE 4 000000012\nVOTE 5 200000000 000000001\nVOTE 6 000000000 000000000 000000000 000000000 000000000\nVOTE 7 000000000 000000000\nEND DONE\n"
unfolding digits octal_text lines_below with_stuck majority flipped
the_last_step = refl

-- it begins after the last step
after_the_last_step : trace_text Guarded (sum []) 3 (window 9 1)
    ≡ codes "LVDC TRACE\nEND DONE\n"
unfolding digits octal_text lines_below with_stuck majority flipped
after_the_last_step = refl

-- it begins after a run that ended early
after_an_end : trace_text Guarded and_for_add 3 (window 3000000 100000)
    ≡ codes "LVDC TRACE\nEND INADMISSIBLE 4 LOGIC 3\n"
unfolding digits octal_text lines_below with_stuck majority flipped
after_an_end = refl

-- it begins where the run ends
at_the_step_that_is_not_made : trace_text Guarded and_for_add 3 (window 4 1)
    ≡ codes "LVDC TRACE\nEND INADMISSIBLE 4 LOGIC 3\n"
unfolding digits octal_text lines_below with_stuck majority flipped
at_the_step_that_is_not_made = refl

-- the step of a stop is made
a_stop : trace_text Guarded wrong_shift 5 (window 2 1)
    ≡ codes "LVDC TRACE\nSTEP 2\nVOTE 1 000000000 000000000\nVOTE 2 000000004 000000000\nVOTE 3 000016203\nVOTE 4 000000012\nVOTE 5 000000000 000000000\nVOTE 6 000000000 000000000 000000000 000000000 000000000\nVOTE 7 000000001 000000000\nEND STOPPED 2 SHIFT\n"
unfolding digits octal_text lines_below with_stuck majority flipped
a_stop = refl

-- a run of no times is done
no_times : trace_text Guarded (trial [] [] [] []) 0 (window 0 1)
    ≡ codes "LVDC TRACE\nEND DONE\n"
unfolding digits octal_text lines_below with_stuck majority flipped
no_times = refl

-- a device fails in the exchange of step 2: the step isn't made
a_failed_device : failed_text Guarded ports (window 1 5) 2 0
    ≡ codes "LVDC TRACE\nSTEP 1\nVOTE 1 000000002 000000000\nVOTE 2 000000004 000000000\nVOTE 3 000012400\nVOTE 4 000000012\nVOTE 5 000000000 000000000\nVOTE 6 000000000 000000000 000000000 000000000 000000000\nVOTE 7 000000000 000000004\nEND DEVICE 2 000\n"
unfolding digits octal_text lines_below with_stuck majority flipped
a_failed_device = refl
