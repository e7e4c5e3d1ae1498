-- Worked values of the definitions.
use Rattle.std.proofs.Common.{◌≡◌, ℕ, refl, Ok, Some, None, true, false, ◌∷◌, []}
use Rattle.lvdc_word.specs.Cell.{code_of}
use Rattle.lvdc_map.specs.Address.{Spot}
use Rattle.lvdc_map.specs.Memory.{word_at}
use Rattle.lvdc_twin.specs.Calls.{answer_by_one, answer_by_two}
use Rattle.lvdc_twin.specs.Cells.{cells_of, are_rising}
use Rattle.lvdc_twin.specs.Store.{slot_of, survives}
use Rattle.lvdc_twin.specs.declared.held.Held.{Held}

-- ---- reads

a_good_cell_beside_a_bad_one : answer_by_two 0 (code_of 0o17) 0 ≡ Ok (record { word = 0o17; repaired = Some 1; switched = false })
a_good_cell_beside_a_bad_one = refl

the_selected_twin_is_bad : answer_by_two 1 0 (code_of 0o17) ≡ Ok (record { word = 0o17; repaired = Some 1; switched = true })
the_selected_twin_is_bad = refl

two_good_cells_that_differ : answer_by_two 1 (code_of 2) (code_of 3) ≡ Ok (record { word = 2; repaired = None; switched = false })
two_good_cells_that_differ = refl

a_good_cell_of_a_simplex_pair : answer_by_one (code_of 0o17) ≡ Ok (record { word = 0o17; repaired = None; switched = false })
a_good_cell_of_a_simplex_pair = refl

beside_a_bad_cell : survives (code_of 2) 0 (code_of 2) ≡ true
beside_a_bad_cell = refl

beside_another_good_cell : survives (code_of 2) (code_of 3) (code_of 2) ≡ false
beside_another_good_cell = refl

in_no_twin : survives (code_of 2) 0 0 ≡ false
in_no_twin = refl

-- ---- lists of cells

-- a place in pair 1, sector 03
abbrev in_three : ℕ → Spot
in_three loc = record { pair = 1; sector = 3; loc = loc }

-- a cell there
abbrev held : ℕ → ℕ → ℕ → Held
held twin loc cell = record { twin = twin; at = in_three loc; cell = cell }

-- 16,384 cells of twin 0 come first; pair 1 has 4,096 before it and sector 03 has 768
slot_of_twin_one : slot_of 1 (in_three 5) ≡ 21253
slot_of_twin_one = refl

twin_zero_comes_first : are_rising (held 0 0o377 1 ∷ held 1 0 1 ∷ held 1 1 1 ∷ []) ≡ true
twin_zero_comes_first = refl

the_same_place_twice : are_rising (held 0 5 1 ∷ held 0 5 2 ∷ []) ≡ false
the_same_place_twice = refl

the_third_falls : are_rising (held 0 5 1 ∷ held 1 5 1 ∷ held 0 6 1 ∷ []) ≡ false
the_third_falls = refl

the_later_cell_of_two : word_at (cells_of (held 1 5 0o17 ∷ held 1 5 0o21 ∷ []) 1) (in_three 5) ≡ 0o21
the_later_cell_of_two = refl

that_of_zero_in_the_other_twin : word_at (cells_of (held 1 5 0o17 ∷ []) 0) (in_three 5) ≡ 0o1000020000
that_of_zero_in_the_other_twin = refl

that_of_zero_at_another_place : word_at (cells_of (held 1 5 0o17 ∷ []) 1) (in_three 6) ≡ 0o1000020000
that_of_zero_at_another_place = refl
