-- Worked parts of a snapshot: the latches of copies, the cells of twins, the words of a memory, and the words of devices.
use Rattle.std.proofs.Common.{◌≡◌, ℕ, [], ◌∷◌, ◌+◌, ◌*◌, ◌==◌, ◌&&◌, if◌then◌else◌, map, refl}
use Rattle.lvdc_command_save.specs.Snapshots.{latches_in, cell_at, cells_in, placed_in}
use Rattle.lvdc_command_save.specs.States.{states_of}
use Rattle.lvdc_map.specs.Address.{Spot, number_of}
use Rattle.lvdc_model.specs.Twins.{Twins}
use Rattle.lvdc_port.specs.declared.device.Kind.TheVariants.{Tape, Recorder}
use Rattle.lvdc_vote.specs.Copies.{settled}

latches_of_two_modules : latches_in (settled (1 ∷ 2 ∷ []) (3 ∷ 4 ∷ []) (5 ∷ 6 ∷ []) ∷ settled (7 ∷ []) (8 ∷ []) (9 ∷ []) ∷ [])
    ≡ 1 ∷ 2 ∷ 3 ∷ 4 ∷ 5 ∷ 6 ∷ 7 ∷ 8 ∷ 9 ∷ []
latches_of_two_modules = refl

-- twins that hold these cells
twins : (ℕ → Spot → ℕ) → Twins
twins cells = record { cells = cells; selected = 0 ∷ 0 ∷ 0 ∷ 0 ∷ [] }

-- each cell is the number of its place, and for twin 1 a million more
numbered : ℕ → Spot → ℕ
numbered twin at = 1000000 * twin + number_of at

-- the last cell of twin 0, and the first and the last one of twin 1
cells_by_slot : map (cell_at (twins numbered)) (16383 ∷ 16384 ∷ 32767 ∷ [])
    ≡ record { twin = 0; at = record { pair = 3; sector = 15; loc = 255 }; cell = 16383 }
    ∷ record { twin = 1; at = record { pair = 0; sector = 0; loc = 0 }; cell = 1000000 }
    ∷ record { twin = 1; at = record { pair = 3; sector = 15; loc = 255 }; cell = 1016383 } ∷ []
unfolding twins numbered
cells_by_slot = refl

-- only the last cell of twin 1 isn't the code of 0
last_alone : ℕ → Spot → ℕ
last_alone twin at = if twin == 1 && number_of at == 16383 then 9 else 0o1000020000

last_cell : cells_in (twins last_alone) ≡ record { twin = 1; at = record { pair = 3; sector = 15; loc = 255 }; cell = 9 } ∷ []
unfolding cells_in twins last_alone
last_cell = refl

-- only the last word of bank 7 isn't 0
last_of_bank_7 : Spot → ℕ
last_of_bank_7 at = if number_of at == 32767 then 9 else 0

last_word : placed_in last_of_bank_7 ≡ record { at = record { pair = 7; sector = 15; loc = 255 }; word = 9 } ∷ []
unfolding placed_in last_of_bank_7
last_word = refl

-- ports rise from 000 to 377, and a device has its words in their order
words_by_port : states_of (record { port = 255; kind = Tape; state = 7 ∷ 6 ∷ [] } ∷ record { port = 0; kind = Recorder; state = 5 ∷ [] } ∷ [])
    ≡ record { port = 0; word = 5 } ∷ record { port = 255; word = 7 } ∷ record { port = 255; word = 6 } ∷ []
unfolding states_of
words_by_port = refl
