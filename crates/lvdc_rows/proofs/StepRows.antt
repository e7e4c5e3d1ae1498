-- Worked parts of the voted machine's step: what was made, what devices are told and which are left, what twins hold, and what copies keep.
use Rattle.std.proofs.Common.{◌≡◌, ℕ, List, [], ◌∷◌, bit_xor, false, true, Some, None, Ok, map, slice_set, refl}
use Rattle.lvdc_word.specs.Cell.{code_of, with_stuck}
use Rattle.lvdc_twin.specs.Cells.{are_rising}
use Rattle.lvdc_vote.specs.Bits.{majority, flipped}
use Rattle.lvdc_vote.specs.Copies.{settled}
use Rattle.lvdc_map.specs.Address.{Spot}
use Rattle.lvdc_map.specs.Hop.{hop_of}
use Rattle.lvdc_map.specs.Memory.{word_at}
use Rattle.lvdc_map.specs.declared.placed.Placed.{Placed}
use Rattle.lvdc_port.specs.Device.{Device}
use Rattle.lvdc_port.specs.declared.device.Kind.TheVariants.{Tape, Latch}
use Rattle.lvdc_modules.specs.Rows.{bus_of}
use Rattle.lvdc_modules.specs.declared.wanted.Wanted.TheVariants.{Fetch}
use Rattle.lvdc_plain.specs.declared.records.Stop.TheVariants as stops
use Rattle.lvdc_fault.specs.declared.event.Event.{Event}
use Rattle.lvdc_fault.specs.declared.event.Event.TheVariants.{Damage, Stick, Dead, Lag}
use Rattle.lvdc_fault.specs.declared.verdict.Verdict.TheVariants as verdicts
use Rattle.lvdc_machine.specs.Made.{made_next}
use Rattle.lvdc_machine.specs.Resumed.{run_to, state_from}
use Rattle.lvdc_machine.specs.View.{registers_on}
use Rattle.lvdc_machine.specs.declared.mode.Mode.TheVariants.{Guarded}
use Rattle.lvdc_model.specs.CellsBefore.{is_dead_at, mended, overwritten}
use Rattle.lvdc_model.specs.Exchanges.{device_time, logged, stop_after}
use Rattle.lvdc_model.specs.Judging.{first_bad, is_recoverable_after}
use Rattle.lvdc_model.specs.Known.{last_made, last_begun}
use Rattle.lvdc_model.specs.Listing.{three_at, counts_of}
use Rattle.lvdc_model.specs.Runs.{read_of_wish}
use Rattle.lvdc_model.specs.Trial.{Trial, plugged_at, devices_left, plugged_in}
use Rattle.lvdc_model.specs.Twins.{Twins, read_answer, switched_by, after_store, twins_at_start, cell_at}
use Rattle.lvdc_model.specs.Voted.{Voted, voted_bus, inputs, next_three, voted_start}
use Rattle.lvdc_model.specs.declared.outcome.Outcome.TheVariants as outcomes

at : ℕ → ℕ → Spot
at pair sector = record { pair = pair; sector = sector; loc = 0 }

holds_word : ℕ → ℕ → ℕ → Placed
holds_word pair sector word = record { at = at pair sector; word = word }

-- from location 000 of sector 00 on, with these simplex pairs and without devices
trial : ℕ → List Placed → List Event → Trial
trial banks image script =
    record { opening = record { image = image; banks = banks; start = hop_of 0o16; unplugs = []; devices = [] }; script = script }

-- CLA 000, and the word 5 that it loads in step 1
load : List Event → Trial
load script = trial 0 (holds_word 0 0 0o17000 ∷ holds_word 0 1 5 ∷ []) script

-- after so many steps
after_steps : ℕ → Voted
after_steps steps = record (voted_start (load [])) { steps = steps }

-- ---- times: a device is told them modulo 2 ^ 26, and the log has them whole

time_of_a_device : device_time (after_steps 301989904) ≡ 33554437
unfolding after_steps load trial holds_word at
time_of_a_device = refl

time_of_the_log : logged (after_steps 14) 0o14 true 7 ≡ record { time = 4; port = 0o14; reading = true; word = 7 } ∷ []
unfolding after_steps load trial holds_word at
time_of_the_log = refl

-- ---- an end by the low two bits of STOP, which three copies have

stopping : ℕ → Voted
stopping stop = record (after_steps 9) { copies = slice_set (after_steps 9).copies 6 (settled (stop ∷ 0 ∷ []) (stop ∷ 0 ∷ []) (stop ∷ 0 ∷ [])) }

stops_of_copies : (stop_after 9 (stopping 5) ≡ Some (outcomes.Stopped 9 stops.Shift)) × (stop_after 9 (stopping 3) ≡ Some (outcomes.Stopped 9 stops.Exm))
    × (stop_after 9 (stopping 4) ≡ None)
unfolding stopping after_steps load trial holds_word at majority
stops_of_copies = (refl, refl, refl)

-- ---- the last step that was begun: where a device or a memory without a good cell ended the run, it wasn't made

begun : last_begun (Some (outcomes.Device 5 0o14)) 7 ∷ last_begun (Some (outcomes.Stopped 5 (stops.Memory (at 0 1)))) 7 ∷ last_begun (Some (outcomes.Stopped 6 stops.Shift)) 7
    ∷ last_begun None 7 ∷ last_made 7 ∷ last_made 0 ∷ []
    ≡ Some 7 ∷ Some 7 ∷ Some 6 ∷ Some 6 ∷ Some 6 ∷ None ∷ []
unfolding at
begun = refl

a_fetch_is_read : read_of_wish (Fetch (at 0 1)) ≡ Some (at 0 1)
unfolding at
a_fetch_is_read = refl

-- ---- the start: nothing has differed, and twin 0 is selected in each pair

at_the_start : ((voted_start (load [])).counts ≡ (0 ∷ 0 ∷ 0 ∷ []) ∷ (0 ∷ 0 ∷ 0 ∷ []) ∷ (0 ∷ 0 ∷ 0 ∷ []) ∷ (0 ∷ 0 ∷ 0 ∷ []) ∷ (0 ∷ 0 ∷ 0 ∷ []) ∷ (0 ∷ 0 ∷ 0 ∷ []) ∷ (0 ∷ 0 ∷ 0 ∷ []) ∷ [])
    × ((twins_at_start (load [])).selected ≡ 0 ∷ 0 ∷ 0 ∷ 0 ∷ [])
unfolding load trial holds_word at
at_the_start = (refl, refl)

-- ---- lists of latches and counts

three_copies_of_two : three_at (1 ∷ 2 ∷ 3 ∷ 4 ∷ 5 ∷ 6 ∷ 7 ∷ 8 ∷ 9 ∷ 10 ∷ []) 4 2 ≡ settled (5 ∷ 6 ∷ []) (7 ∷ 8 ∷ []) (9 ∷ 10 ∷ [])
three_copies_of_two = refl

seven_modules : counts_of (1 ∷ 2 ∷ 3 ∷ 4 ∷ 5 ∷ 6 ∷ 7 ∷ 8 ∷ 9 ∷ 10 ∷ 11 ∷ 12 ∷ 13 ∷ 14 ∷ 15 ∷ 16 ∷ 17 ∷ 18 ∷ 19 ∷ 20 ∷ 21 ∷ [])
    ≡ (1 ∷ 2 ∷ 3 ∷ []) ∷ (4 ∷ 5 ∷ 6 ∷ []) ∷ (7 ∷ 8 ∷ 9 ∷ []) ∷ (10 ∷ 11 ∷ 12 ∷ []) ∷ (13 ∷ 14 ∷ 15 ∷ []) ∷ (16 ∷ 17 ∷ 18 ∷ []) ∷ (19 ∷ 20 ∷ 21 ∷ []) ∷ []
seven_modules = refl

-- ---- devices: a latch that is taken away at time 2, and a tape from which each time of the run takes a word

latch : Device
latch = record { port = 0o14; kind = Latch; state = 3 ∷ [] }

taken_away : (plugged_at (record { port = 0o14; time = 2 } ∷ []) 7 (latch ∷ []) ≡ []) × (devices_left (record { port = 0o14; time = 2 } ∷ []) 6 (latch ∷ []) ≡ [])
    × (devices_left (record { port = 0o14; time = 2 } ∷ []) 8 (latch ∷ []) ≡ latch ∷ [])
unfolding latch
taken_away = (refl, refl, refl)

-- PIO 400 in each location
reads_a_tape : Trial
reads_a_tape =
    record {
      opening =
          record {
            image =
                record { at = record { pair = 0; sector = 0; loc = 0 }; word = 0o12400 } ∷ record { at = record { pair = 0; sector = 0; loc = 1 }; word = 0o12400 }
                ∷ record { at = record { pair = 0; sector = 0; loc = 2 }; word = 0o12400 } ∷ [];
            banks = 0;
            start = hop_of 0o16;
            unplugs = record { port = 0o14; time = 2 } ∷ [];
            devices = record { port = 0; kind = Tape; state = 5 ∷ 6 ∷ 7 ∷ 8 ∷ [] } ∷ latch ∷ [];
          };
      script = [];
    }

in_step_7 : plugged_in reads_a_tape 7 ≡ record { port = 0; kind = Tape; state = 7 ∷ 8 ∷ [] } ∷ []
unfolding reads_a_tape latch
in_step_7 = refl

-- ---- verdicts

-- two copies are wrong in the first step after one time
after_the_time : first_bad (load (Lag 3 1 3 3 ∷ Lag 3 2 3 3 ∷ [])) 1 ≡ verdicts.Admissible
unfolding load trial holds_word at with_stuck majority flipped
after_the_time = refl

-- what sticks in the last step counts, in each twin and in its own step; damage of the next step doesn't
recoverable_after : (is_recoverable_after (load (Damage 0 (at 0 1) 0 1 ∷ Damage 1 (at 0 1) 0 1 ∷ [])) 0 (at 0 1) ≡ true)
    × (is_recoverable_after (load (Stick 0 (at 0 1) 1 1 1 0 ∷ Stick 1 (at 0 1) 1 1 1 0 ∷ [])) 2 (at 0 1) ≡ false)
    × (is_recoverable_after (load (Damage 0 (at 0 1) 2 1 ∷ Damage 1 (at 0 1) 2 1 ∷ [])) 2 (at 0 1) ≡ true)
unfolding load trial holds_word at with_stuck
recoverable_after = (refl, refl, refl)

-- ---- cells before a step

dead_in_its_step : (is_dead_at (load (Dead 1 0 2 2 ∷ [])) 2 1 (at 0 1) ≡ true) × (is_dead_at (load (Dead 1 0 2 2 ∷ [])) 2 0 (at 1 1) ≡ false)
unfolding load trial holds_word at
dead_in_its_step = (refl, refl)

-- in step 1 twin 0 shows a stuck bit, and twin 1 doesn't
mended_where_bad : (mended (load (Stick 0 (at 0 1) 1 1 1 0 ∷ [])) 1 0 (at 0 1) (code_of 7) ≡ code_of 5) × (mended (load (Stick 0 (at 0 1) 1 1 1 0 ∷ [])) 1 1 (at 0 1) (code_of 7) ≡ code_of 7)
unfolding load trial holds_word at with_stuck
mended_where_bad = (refl, refl)

-- twin 1 of pair 0 is dead: it shows 0, and keeps what it stores at a read and at a store
a_dead_twin_keeps_its_cell : (mended (load (Dead 1 0 0 9 ∷ [])) 1 1 (at 0 1) (code_of 7) ≡ code_of 7)
    × (overwritten (load (Dead 1 0 0 9 ∷ [])) 5 1 (at 0 1) (Some (record { at = at 0 1; word = 7 })) 9 ≡ 9)
    × (overwritten (load (Dead 1 0 0 9 ∷ [])) 5 0 (at 0 1) (Some (record { at = at 0 1; word = 7 })) 9 ≡ code_of 7)
unfolding load trial holds_word at with_stuck
a_dead_twin_keeps_its_cell = (refl, refl, refl)

-- two changed bits of a half show good, and so they stay
not_mended_where_good : mended (load []) 1 0 (at 0 1) (bit_xor (code_of 5) 3) ≡ bit_xor (code_of 5) 3
unfolding load trial holds_word at with_stuck
not_mended_where_good = refl

-- STO 000 stores 0 in time 0, and CLA 000 reads it in step 4
stored_before : Trial
stored_before =
    trial 0 (holds_word 0 0 0o13000 ∷ record { at = record { pair = 0; sector = 0; loc = 1 }; word = 0o17000 } ∷ holds_word 0 1 5 ∷ []) []

mended_by_the_word_of_its_time : mended stored_before 4 0 (at 0 1) 1 ≡ code_of 0
unfolding stored_before trial holds_word at with_stuck
mended_by_the_word_of_its_time = refl

-- pair 1 is simplex: twin 0 holds its even module, and takes what is stored there
a_store_by_holder : (overwritten (trial 2 [] []) 5 0 (at 1 1) (Some (record { at = at 1 1; word = 7 })) 9 ≡ code_of 7)
    × (overwritten (trial 2 [] []) 5 1 (at 1 1) (Some (record { at = at 1 1; word = 7 })) 9 ≡ 9)
unfolding trial at
a_store_by_holder = (refl, refl)

-- ---- twins

-- pair 2 is simplex, and twin 1 holds bank 6
bank_6 : read_answer (trial 4 (holds_word 6 1 5 ∷ []) []) 0 (twins_at_start (trial 4 (holds_word 6 1 5 ∷ []) [])) (at 6 1)
    ≡ Ok (record { word = 5; repaired = None; switched = false })
unfolding trial holds_word at with_stuck
bank_6 = refl

a_switch_back : (switched_by true (record (twins_at_start (load [])) { selected = 0 ∷ 1 ∷ 0 ∷ 0 ∷ [] }) 1).selected ≡ 0 ∷ 0 ∷ 0 ∷ 0 ∷ []
unfolding load trial holds_word at
a_switch_back = refl

-- what each twin stores at an address of pair 1 after a store of 7 in step 5
each_twin : Trial → List ℕ
each_twin o = map (λ twin. cell_at (after_store o 5 (at 1 1) 7 (twins_at_start o)) twin (at 1 1)) (0 ∷ 1 ∷ [])

stored_by_the_holder : each_twin (trial 2 (holds_word 5 1 3 ∷ []) []) ≡ code_of 7 ∷ code_of 3 ∷ []
unfolding each_twin trial holds_word at
stored_by_the_holder = refl

stored_by_no_dead_twin : each_twin (trial 0 (holds_word 1 1 3 ∷ []) (Dead 0 1 5 5 ∷ Dead 1 1 5 5 ∷ [])) ≡ code_of 3 ∷ code_of 3 ∷ []
unfolding each_twin trial holds_word at
stored_by_no_dead_twin = refl

-- ---- copies

-- a deaf copy has the words from memory and port too
heard_by_a_deaf_copy : ((inputs true (after_steps 0).copies 1 (voted_bus (after_steps 0) 5 6)).memory ≡ 5) × ((inputs true (after_steps 0).copies 1 (voted_bus (after_steps 0) 5 6)).port ≡ 6)
unfolding after_steps load trial holds_word at majority
heard_by_a_deaf_copy = (refl, refl)

-- a copy that lags keeps what is its own
two_lag : next_three (Lag 1 2 0 0 ∷ Lag 1 3 0 0 ∷ []) 0 1 (λ bus. 9 ∷ []) (settled (1 ∷ []) (2 ∷ []) (3 ∷ [])) [] (voted_bus (after_steps 0) 0 0) ≡ settled (9 ∷ []) (2 ∷ []) (3 ∷ [])
unfolding after_steps load trial holds_word at majority flipped
two_lag = refl

-- ---- a run from a state, and what a report shows

-- the run comes to step 5 from a state that 3 steps are behind
to_step_5 : ((run_to Guarded (load []) (run_to Guarded (load []) (voted_start (load [])) 3) 5).steps ≡ 5)
    × ((state_from (Some (outcomes.Device 5 0o14)) Guarded (load []) (run_to Guarded (load []) (voted_start (load [])) 3) 4).steps ≡ 5)
    × ((state_from (Some (outcomes.Device 5 0o14)) Guarded (load []) (run_to Guarded (load []) (voted_start (load [])) 3) 4).end ≡ Some (outcomes.Device 5 0o14))
unfolding load trial holds_word at with_stuck majority flipped
to_step_5 = (refl, refl, refl)

after_an_end : made_next Guarded (load []) (record (voted_start (load [])) { end = Some (outcomes.Device 5 0o14) }) ≡ None
unfolding load trial holds_word at
after_an_end = refl

-- PQ is the first latch of MULTIPLIER
pq_of_a_report : (registers_on (bus_of ((0 ∷ 0 ∷ []) ∷ (0 ∷ 0 ∷ []) ∷ (0 ∷ []) ∷ (0 ∷ []) ∷ (0 ∷ 0 ∷ []) ∷ (5 ∷ 6 ∷ 7 ∷ 8 ∷ 9 ∷ []) ∷ (0 ∷ 0 ∷ []) ∷ []) 0 0) 9).pq ≡ 5
pq_of_a_report = refl

-- ---- no cells stand in order

no_cells : are_rising [] ≡ true
no_cells = refl
