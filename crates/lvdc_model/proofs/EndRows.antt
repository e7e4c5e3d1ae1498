-- Worked rows of ports, of ends, of a hold, and of which bad step is named.
use Rattle.std.proofs.Common.{◌≡◌, ℕ, refl, true, false, List, [], ◌∷◌}
use Rattle.std.specs.declared.option.Option.TheVariants.{None, Some}
use Rattle.lvdc_word.specs.Cell.{with_stuck}
use Rattle.lvdc_port.specs.declared.device.Kind.TheVariants.{Tape, Recorder}
use Rattle.lvdc_vote.specs.Bits.{majority, flipped}
use Rattle.lvdc_plain.specs.declared.records.Stop.TheVariants as stops
use Rattle.lvdc_plain.specs.declared.records.Unplug.{Unplug}
use Rattle.lvdc_fault.specs.declared.event.Event.TheVariants.{Flip, Damage}
use Rattle.lvdc_fault.specs.declared.verdict.Verdict.TheVariants as verdicts
use Rattle.lvdc_model.specs.declared.outcome.Outcome.TheVariants as outcomes
use Rattle.lvdc_model.specs.Exchanges.{stop_of}
use Rattle.lvdc_model.specs.Judging.{first_bad, is_begun, is_recoverable_after}
use Rattle.lvdc_model.specs.Runs.{through, guarded}
use Rattle.lvdc_model.specs.Trial.{Trial, plugged_in, read_at}
use Rattle.lvdc_model.specs.Voted.{voted_bus}
use Rattle.lvdc_model.proofs.LedgerRows.{trial, sum, load, at}
use Rattle.lvdc_model.proofs.VotedRows.{a_of}

-- ---- ports

-- two reads of a tape at port 0, then a write to a recorder at 017; devices are unplugged by these lines
abbrev ported : List Unplug → Trial
ported unplugs =
    let o = trial (0o12400 ∷ 0o12400 ∷ 0o12017 ∷ []) [] (Flip 7 1 1 1 1 0o3777 ∷ []) in
    record o {
      opening = record o.opening {
        unplugs = unplugs;
        devices = record { port = 0; kind = Tape; state = 0o10 ∷ 0o20 ∷ [] } ∷ record { port = 0o17; kind = Recorder; state = [] } ∷ [];
      };
    }

-- a wrong copy of REQUEST asks no port
ports_of_a_guarded_run : ((guarded (ported []) 9).log ≡ record { time = 0; port = 0; reading = true; word = 0o10 }
    ∷ record { time = 1; port = 0; reading = true; word = 0o20 } ∷ record { time = 2; port = 0o17; reading = false; word = 0o20 } ∷ [])
    × ((guarded (ported []) 9).devices ≡ record { port = 0; kind = Tape; state = [] } ∷ record { port = 0o17; kind = Recorder; state = 0o20 ∷ [] } ∷ [])
unfolding with_stuck majority flipped
ports_of_a_guarded_run = (refl, refl)

-- in each step of a time they are those before its exchange
devices_of_a_step : (plugged_in (ported []) 2 ≡ record { port = 0; kind = Tape; state = 0o10 ∷ 0o20 ∷ [] }
    ∷ record { port = 0o17; kind = Recorder; state = [] } ∷ [])
    × (plugged_in (ported []) 3 ≡ record { port = 0; kind = Tape; state = 0o20 ∷ [] } ∷ record { port = 0o17; kind = Recorder; state = [] } ∷ [])
devices_of_a_step = (refl, refl)

-- from its time on an unplugged tape answers 0
a_tape_is_unplugged : ((guarded (ported (record { port = 0; time = 1 } ∷ [])) 6).log ≡ record { time = 0; port = 0; reading = true; word = 0o10 }
    ∷ record { time = 1; port = 0; reading = true; word = 0 } ∷ [])
    × ((guarded (ported (record { port = 0; time = 1 } ∷ [])) 6).devices ≡ record { port = 0o17; kind = Recorder; state = [] } ∷ [])
unfolding with_stuck majority flipped
a_tape_is_unplugged = (refl, refl)

-- it is taken away as the first step of that time begins
unplugged_with_the_first_step : (guarded (ported (record { port = 0; time = 1 } ∷ [])) 4).devices ≡ record { port = 0o17; kind = Recorder; state = [] } ∷ []
unfolding with_stuck majority flipped
unplugged_with_the_first_step = refl

-- ---- stops

wrong_shift_stops : ((guarded (trial (0o16203 ∷ []) [] []) 6).end ≡ Some (outcomes.Stopped 2 stops.Shift))
    × ((guarded (trial (0o16203 ∷ []) [] []) 6).steps ≡ 3)
unfolding with_stuck majority flipped
wrong_shift_stops = (refl, refl)

exm_stops : (guarded (trial (0o16600 ∷ []) [] []) 6).end ≡ Some (outcomes.Stopped 2 stops.Exm)
unfolding with_stuck majority flipped
exm_stops = refl

stop_3_is_exm : (stop_of 3 8 ≡ Some (outcomes.Stopped 8 stops.Exm)) × (stop_of 0 8 ≡ None)
stop_3_is_exm = (refl, refl)

-- ---- a hold

-- a half is loaded, and MPH squares it
abbrev squared : Trial
squared = trial (0o17000 ∷ 0o05000 ∷ 0o10002 ∷ []) (0o100000000 ∷ []) []

four_times_are_held : ((voted_bus (through squared 6) 0 0).timer.hold ≡ 4) × ((voted_bus (through squared 15) 0 0).timer.hold ≡ 1)
    × (a_of (through squared 17) ≡ 0o100000000) × (a_of (through squared 18) ≡ 0o040000000)
    × ((voted_bus (through squared 18) 0 0).locator.place ≡ 0o4004)
unfolding with_stuck majority flipped
four_times_are_held = (refl, refl, refl, refl, refl)

nothing_is_read_in_a_hold : (read_at squared 6 ≡ None) × (read_at squared 7 ≡ None) × (read_at squared 18 ≡ Some (at 0 2))
nothing_is_read_in_a_hold = (refl, refl, refl)

-- ---- which bad step is named

-- the first one, wherever its lines stand
the_first_of_two_bad_steps : first_bad (sum (Flip 2 1 7 7 0 1 ∷ Flip 2 2 7 7 0 1 ∷ Flip 3 1 4 4 0 1 ∷ Flip 3 2 4 4 0 1 ∷ [])) 3 ≡ verdicts.Logic 4 3
unfolding with_stuck
the_first_of_two_bad_steps = refl

the_run_ends_there : (guarded (sum (Flip 2 1 7 7 0 1 ∷ Flip 2 2 7 7 0 1 ∷ Flip 3 1 4 4 0 1 ∷ Flip 3 2 4 4 0 1 ∷ [])) 9).end
    ≡ Some (outcomes.Inadmissible (verdicts.Logic 4 3))
unfolding with_stuck majority flipped
the_run_ends_there = refl

a_module_before_an_address : first_bad (load (Damage 0 (at 1 0) 0 3 ∷ Flip 2 1 1 1 0 0 ∷ Flip 2 2 1 1 0 0 ∷ [])) 1 ≡ verdicts.Logic 1 2
unfolding with_stuck
a_module_before_an_address = refl

-- the step of a stop is judged as well, and none after it
abbrev bad_and_stopped : ℕ → Trial
bad_and_stopped step = trial (0o16203 ∷ []) [] (Flip 3 1 step step 0 1 ∷ Flip 3 2 step step 0 1 ∷ [])

a_bad_step_that_stops : (first_bad (bad_and_stopped 2) 1 ≡ verdicts.Logic 2 3)
    × ((guarded (bad_and_stopped 2) 3).end ≡ Some (outcomes.Inadmissible (verdicts.Logic 2 3)))
unfolding with_stuck majority flipped
a_bad_step_that_stops = (refl, refl)

a_bad_step_after_the_stop : (first_bad (bad_and_stopped 3) 2 ≡ verdicts.Admissible)
    × ((guarded (bad_and_stopped 3) 6).end ≡ Some (outcomes.Stopped 2 stops.Shift))
unfolding with_stuck majority flipped
a_bad_step_after_the_stop = (refl, refl)

-- the last step of the time that stops is begun, and none after it
begun_up_to_the_stop : (is_begun (bad_and_stopped 2) 2 ≡ true) × (is_begun (bad_and_stopped 2) 3 ≡ false)
begun_up_to_the_stop = (refl, refl)

-- ---- which words can be recovered at an end

-- damage of the last step made counts, and of none after it
damage_in_the_last_step : (is_recoverable_after (load (Damage 0 (at 1 0) 5 3 ∷ [])) 6 (at 1 0) ≡ false)
    × (is_recoverable_after (load (Damage 0 (at 1 0) 6 3 ∷ [])) 6 (at 1 0) ≡ true)
unfolding with_stuck
damage_in_the_last_step = (refl, refl)
