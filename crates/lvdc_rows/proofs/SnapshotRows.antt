-- Worked snapshots: which state one means, and which notes are from before it.
use Rattle.std.proofs.Common.{◌≡◌, ℕ, List, [], ◌∷◌, ◌++◌, true, None, replicate, refl}
use Rattle.lvdc_word.specs.Cell.{code_of}
use Rattle.lvdc_map.specs.Address.{Spot}
use Rattle.lvdc_map.specs.Memory.{word_at}
use Rattle.lvdc_port.specs.Device.{Device}
use Rattle.lvdc_port.specs.declared.device.Kind.TheVariants.{Latch}
use Rattle.lvdc_vote.specs.Bits.{majority}
use Rattle.lvdc_model.specs.Voted.{Voted, count_of}
use Rattle.lvdc_logic.specs.Logic.{latch_of}
use Rattle.lvdc_snapshot.specs.Snapshot.{voted_in, meant}
use Rattle.lvdc_snapshot.specs.declared.snapshot.Snapshot.{Snapshot}

-- location 005 of a sector of pair 0
place : ℕ → Spot
place sector = record { pair = 0; sector = sector; loc = 5 }

-- each latch holds its own place in the list
latches : List ℕ
latches =
    0 ∷ 1 ∷ 2 ∷ 3 ∷ 4 ∷ 5 ∷ 6 ∷ 7 ∷ 8 ∷ 9 ∷ 10 ∷ 11 ∷ 12 ∷ 13 ∷ 14 ∷ 15 ∷ 16 ∷ 17 ∷ 18 ∷ 19 ∷ 20 ∷ 21 ∷ 22 ∷ 23 ∷ 24 ∷ 25 ∷ 26 ∷ 27 ∷ 28 ∷ 29 ∷ 30
    ∷ 31 ∷ 32 ∷ 33 ∷ 34 ∷ 35 ∷ 36 ∷ 37 ∷ 38 ∷ 39 ∷ 40 ∷ 41 ∷ 42 ∷ 43 ∷ 44 ∷ []

-- after six steps: copy 3 of module 7 differed four times, twin 1 is selected in pair 2 and stores another cell at 0 01 005, a word was
-- stored at 0 02 005, and a word was read at port 014
snapshot : Snapshot
snapshot =
    record {
      steps = 6;
      latches = latches;
      differed = replicate 20 0 ++ 4 ∷ [];
      selected = 0 ∷ 0 ∷ 1 ∷ 0 ∷ [];
      cells = record { twin = 1; at = place 1; cell = 0o7 } ∷ [];
      words = record { at = place 2; word = 0o77 } ∷ [];
      log = record { time = 1; port = 0o14; reading = true; word = 0o5 } ∷ [];
      repairs = record { step = 4; at = place 1; twin = 0; switched = true } ∷ [];
      banks = 0;
    }

latch : Device
latch = record { port = 0o14; kind = Latch; state = 0o5 ∷ [] }

state : Voted
state = meant snapshot (latch ∷ [])

-- ---- the state

steps_and_end : (state.steps ≡ 6) × (state.end ≡ None)
unfolding state snapshot latches
steps_and_end = (refl, refl)

latches_by_module_and_copy : (latch_of state.copies 2 3 0 ≡ 10) × (latch_of state.copies 6 1 4 ≡ 28) × (latch_of state.copies 7 3 1 ≡ 44)
unfolding state snapshot latches
latches_by_module_and_copy = (refl, refl, refl)

counts_by_module_and_copy : (count_of state.counts 7 3 ≡ 4) × (count_of state.counts 7 2 ≡ 0) × (count_of state.counts 1 1 ≡ 0)
unfolding state snapshot latches
counts_by_module_and_copy = (refl, refl, refl)

-- a cell stands in its own twin, and where the list has none the cell is that of the word 0
cells_by_twin : (word_at (state.twins.cells 1) (place 1) ≡ 0o7) × (word_at (state.twins.cells 0) (place 1) ≡ code_of 0) × (word_at (state.twins.cells 1) (place 2) ≡ code_of 0)
unfolding state snapshot latches place
cells_by_twin = (refl, refl, refl)

selections : state.twins.selected ≡ 0 ∷ 0 ∷ 1 ∷ 0 ∷ []
unfolding state snapshot latches
selections = refl

-- the intended words are apart from the cells
words : (word_at state.intended (place 2) ≡ 0o77) × (word_at state.intended (place 1) ≡ 0)
unfolding state snapshot latches place
words = (refl, refl)

log_and_repairs_and_devices : (state.log ≡ record { time = 1; port = 0o14; reading = true; word = 0o5 } ∷ [])
    × (state.repairs ≡ record { step = 4; at = place 1; twin = 0; switched = true } ∷ []) × (state.devices ≡ latch ∷ [])
unfolding state snapshot latches place latch
log_and_repairs_and_devices = (refl, refl, refl)

-- ---- the votes over the copies, bit by bit: of 0, 2 and 4 it is 0, of 39, 41 and 43 it is 43, and of 40, 42 and 44 it is 40

votes_of_the_copies : ((voted_in snapshot).timer.phase ≡ 0) × ((voted_in snapshot).exchange.stop ≡ 43) × ((voted_in snapshot).exchange.request ≡ 40)
unfolding snapshot latches majority
votes_of_the_copies = (refl, refl, refl)
