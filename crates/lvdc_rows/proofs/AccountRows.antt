-- A worked report of an account: its parts in their order; which words are recoverable in one, and the step of a stop.
use Rattle.std.proofs.Common.{◌≡◌, ℕ, [], ◌∷◌, true, false, not, ◌==◌, Some, refl}
use Rattle.std.specs.Prelude.{codes}
use Rattle.std.specs.Fmt.{digits}
use Rattle.lvdc_word.specs.Cell.{with_stuck}
use Rattle.lvdc_map.specs.Address.{Spot, number_of}
use Rattle.lvdc_map.specs.Hop.{hop_of}
use Rattle.lvdc_map.specs.declared.placed.Placed.{Placed}
use Rattle.lvdc_text.specs.Numbers.{octal_text}
use Rattle.lvdc_port.specs.declared.device.Kind.TheVariants.{Latch}
use Rattle.lvdc_vote.specs.Bits.{majority}
use Rattle.lvdc_model.specs.Trial.{Trial, plain_at}
use Rattle.lvdc_model.specs.Voted.{Voted, voted_start}
use Rattle.lvdc_plain.specs.declared.records.PlainEnd.TheVariants as plain
use Rattle.lvdc_plain.specs.declared.records.Stop.TheVariants.{Exm}
use Rattle.lvdc_fault.specs.declared.event.Event.TheVariants.{Damage}
use Rattle.lvdc_model.specs.declared.outcome.Outcome.TheVariants.{Done, Stopped}
use Rattle.lvdc_lines.specs.Noted.{lines_of, lines_below}
use Rattle.lvdc_report.specs.Voted.{counts_below}
use Rattle.lvdc_command_run.specs.Accounts.{Account, whole_account, begun_account}
use Rattle.lvdc_command_run.specs.Answers.{account_text, plain_end_by}

-- location 000 of a sector of bank 0
place : ℕ → Spot
place sector = record { pair = 0; sector = sector; loc = 0 }

holds : ℕ → ℕ → Placed
holds loc word = record { at = record { pair = 0; sector = 0; loc = loc }; word = word }

-- PIO 000 writes A, and TRA 000 goes back
ports : Trial
ports =
    record {
      opening = record { image = holds 0 0o12000 ∷ holds 1 0o10000 ∷ []; banks = 0; start = hop_of 0o16; unplugs = []; devices = [] };
      script = [];
    }

-- after one time, where location 001 can't be recovered
told : Account
told = record { end = Done; plain = plain_at ports 1; devices = []; recoverable = λ at. not (number_of at == 1) }

-- copy 2 of module 1 differed three times, and one cell was mended
noted : Voted
noted =
    record (voted_start ports) {
      counts = (0 ∷ 3 ∷ 0 ∷ []) ∷ (0 ∷ 0 ∷ 0 ∷ []) ∷ (0 ∷ 0 ∷ 0 ∷ []) ∷ (0 ∷ 0 ∷ 0 ∷ []) ∷ (0 ∷ 0 ∷ 0 ∷ []) ∷ (0 ∷ 0 ∷ 0 ∷ []) ∷ (0 ∷ 0 ∷ 0 ∷ []) ∷ [];
      repairs = record { step = 3; at = record { pair = 0; sector = 0; loc = 0 }; twin = 1; switched = true } ∷ [];
    }

parts_in_order : account_text ports told noted
    ≡ codes "LVDC RUN\nEND DONE\nTIMES 1\nPLACE 0 00 0 001\nDATA 0 01\nDUP 1 1\nA 000000000\nPQ 000000000\nSAVER 000000000\nOUT 0 000 000000000\nMEM 0 00 000 000012000\nMEM 0 00 001 ?\nWRONG 1 2 3\nREPAIR 3 0 00 000 1 SWITCH\n"
unfolding told noted ports holds digits octal_text lines_of lines_below majority counts_below
parts_in_order = refl

-- ---- which words can be recovered, and the step of a stop

-- a word at location 000 of a sector that nothing reads, damaged in both twins in this step, while TRA 000 goes round
lost_in : ℕ → ℕ → Trial
lost_in sector step =
    record {
      opening = record { image = holds 0 0o10000 ∷ []; banks = 0; start = hop_of 0o16; unplugs = []; devices = [] };
      script = Damage 0 (place sector) step 1 ∷ Damage 1 (place sector) step 1 ∷ [];
    }

-- so many times have three steps each, from step 0 on
words_of_whole_times : ((whole_account (lost_in 2 3) 1).recoverable (place 2) ≡ true) × ((whole_account (lost_in 2 3) 2).recoverable (place 2) ≡ false)
    × ((whole_account (lost_in 2 5) 2).recoverable (place 2) ≡ false) × ((whole_account (lost_in 2 6) 2).recoverable (place 2) ≡ true)
unfolding lost_in holds place with_stuck
words_of_whole_times = (refl, refl, refl, refl)

-- the damage of a step that was begun is done
words_of_a_step_begun : ((begun_account (lost_in 2 4) 4 Done).recoverable (place 2) ≡ false) × ((begun_account (lost_in 2 5) 4 Done).recoverable (place 2) ≡ true)
unfolding lost_in holds place with_stuck
words_of_a_step_begun = (refl, refl)

-- CLA 000 twice, then EXM in time 2, which is the third one, and its last step is 8
stopping : Trial
stopping =
    record {
      opening = record { image = holds 0 0o17000 ∷ holds 1 0o17000 ∷ holds 2 0o16600 ∷ []; banks = 0; start = hop_of 0o16; unplugs = []; devices = [] };
      script = [];
    }

stop_of_the_third_time : ((whole_account stopping 4).end ≡ Stopped 8 Exm) × (plain_end_by (Some Exm) 3 ≡ plain.Stopped 8 Exm)
unfolding stopping holds
stop_of_the_third_time = (refl, refl)

-- TRA 000 goes round; step 7 is of time 2, at which the latch is taken away
losing : Trial
losing =
    record {
      opening = record {
        image = holds 0 0o10000 ∷ [];
        banks = 0;
        start = hop_of 0o16;
        unplugs = record { port = 0o14; time = 2 } ∷ [];
        devices = record { port = 0o14; kind = Latch; state = [] } ∷ [];
      };
      script = [];
    }

devices_of_a_step_begun : (begun_account losing 7 Done).devices ≡ []
unfolding losing holds
devices_of_a_step_begun = refl
