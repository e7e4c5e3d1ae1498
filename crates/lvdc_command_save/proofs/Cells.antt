-- The cells that the twins store are the list of them.
use Rattle.std.proofs.Common.{◌≡◌, ◌≢◌, ℕ, suc, ◌/◌, ◌%◌, ◌<◌, ◌≤◌, Bool, true, false, cond, not, ◌&&◌, List, [], ◌∷◌, All, get_or, refl, sym, ap, ◌∙◌, arith}
use Rattle.std.specs.Prelude.{◌==◌, nat_lt}
use Rattle.std.proofs.lemmas.Bool.{eq-eqb, ne_eqb, ltb-true, and_parts, and_from}
use Rattle.std.proofs.lemmas.List.Elements.{All-nil, All-cons}
use Rattle.lvdc_word.specs.Cell.{code_of}
use Rattle.lvdc_map.specs.Address.{Spot, is_same, spot_at}
use Rattle.lvdc_map.specs.Memory.{Memory, filled_with, stored, word_at}
use Rattle.lvdc_twin.specs.Cells.{NamesPlace, laid, cells_of, are_rising}
use Rattle.lvdc_map.specs.Banks.{IsPlace}
use Rattle.lvdc_twin.specs.Store.{slot_of}
use Rattle.lvdc_twin.specs.declared.held.Held.{Held}
use Rattle.lvdc_twin.proofs.Places.{slot_of_place, same-from}
use Rattle.lvdc_model.specs.Twins.{Twins}
use Rattle.lvdc_command_save.specs.Snapshots.{cell_at, is_other_cell, cells_in}
use Rattle.lvdc_command_save.proofs.Gathering.{Rises, none_before, gathered}

-- the slot of a cell
abbrev pub slot : Held → ℕ
slot h = slot_of h.twin h.at

-- ---- rising cells

rises_from : (least : ℕ) (h : Held) (held : List Held) → least ≤ slot h → are_rising (h ∷ held) ≡ true → Rises slot least (h ∷ held)
rises_from least h [] from rising = (from, tt)
rises_from least h (k ∷ held) from rising =
    let parts = and_parts (nat_lt (slot h) (slot k)) (are_rising (k ∷ held)) rising in
    (from, rises_from (suc (slot h)) k held (ltb-true (slot h) (slot k) parts.0) parts.1)

pub cells_rise : (held : List Held) → are_rising held ≡ true → Rises slot 0 held
cells_rise [] rising = tt
cells_rise (h ∷ held) rising = rises_from 0 h held (omega arith) rising

-- ---- what a list means

two_tests : (a b : Bool) (m : Memory) (at place : Spot) (cell : ℕ) → (a && is_same place at) ≡ b → cond a (stored m at cell) m place ≡ cond b cell (m place)
two_tests true b m at place cell e = ap (λ (t : Bool). cond t cell (m place)) e
two_tests false b m at place cell e = ap (λ (t : Bool). cond t cell (m place)) e

-- a cell more, at another place and at its own
laid_elsewhere : (cells : ℕ → Memory) (h : Held) (twin : ℕ) (place : Spot) → slot h ≢ slot_of twin place
    → cond (twin == h.twin) (stored (cells twin) h.at h.cell) (cells twin) place ≡ cells twin place
laid_elsewhere cells h twin place other = by_case (twin == h.twin && is_same place h.at) refl
  where
    by_case : (b : Bool) → (twin == h.twin && is_same place h.at) ≡ b
        → cond (twin == h.twin) (stored (cells twin) h.at h.cell) (cells twin) place ≡ cells twin place
    by_case true e = absurd (other (sym (slot_of_place twin h.twin place h.at e)))
    by_case false e = two_tests (twin == h.twin) false (cells twin) h.at place h.cell e

laid_here : (cells : ℕ → Memory) (h : Held) → cond (h.twin == h.twin) (stored (cells h.twin) h.at h.cell) (cells h.twin) h.at ≡ h.cell
laid_here cells h =
    two_tests (h.twin == h.twin) true (cells h.twin) h.at h.at h.cell
    (and_from (h.twin == h.twin) (is_same h.at h.at) (eq-eqb h.twin h.twin refl) (same-from h.at h.at refl refl refl))

-- a list leaves every slot that it doesn't name
laid_others : (held : List Held) (cells : ℕ → Memory) (twin : ℕ) (place : Spot) → All (λ h. slot h ≢ slot_of twin place) held
    → laid held cells twin place ≡ cells twin place
laid_others [] cells twin place none = refl
laid_others (h ∷ held) cells twin place none =
    laid_others held (λ w. cond (w == h.twin) (stored (cells w) h.at h.cell) (cells w)) twin place
    (λ k d less. none (suc k) d (omega (arith, less)))
    ∙ laid_elsewhere cells h twin place (none 0 h (omega arith))

-- and has its own cells in theirs
laid_own : (held : List Held) (cells : ℕ → Memory) (least : ℕ) → Rises slot least held → All (λ h. laid held cells h.twin h.at ≡ h.cell) held
laid_own [] cells least rises = All-nil (λ (h : Held). cells h.twin h.at ≡ h.cell)
laid_own (h ∷ held) cells least rises =
    let next : ℕ → Memory = λ w. cond (w == h.twin) (stored (cells w) h.at h.cell) (cells w) in
    All-cons (λ k. laid held next k.twin k.at ≡ k.cell) h held
    (laid_others held next h.twin h.at (none_before slot (slot h) (suc (slot h)) held (omega arith) rises.1) ∙ laid_here cells h)
    (laid_own held next (suc (slot h)) rises.1)

-- ---- by slots

slot_is : (m : ℕ) → slot_of (m / 16384) (spot_at (m % 16384)) ≡ m
slot_is m = omega arith

is_place : (m : ℕ) → IsPlace (spot_at (m % 16384))
is_place m = record { pair = omega arith; sector = omega arith; loc = omega arith }

names_place : (h : Held) → NamesPlace h → IsPlace h.at
names_place h n = record { pair = n.pair; sector = n.sector; loc = n.loc }

twin_is : (h : Held) → NamesPlace h → slot h / 16384 ≡ h.twin
twin_is h n = omega (arith, n.twin, n.pair, n.sector, n.loc)

spot_is : (h : Held) → NamesPlace h → spot_at (slot h % 16384) ≡ h.at
spot_is h n =
    let pair : slot h % 16384 / 4096 ≡ h.at.pair = omega (arith, n.twin, n.pair, n.sector, n.loc) in
    let sector : slot h % 16384 / 256 % 16 ≡ h.at.sector = omega (arith, n.twin, n.pair, n.sector, n.loc) in
    let loc : slot h % 16384 % 256 ≡ h.at.loc = omega (arith, n.twin, n.pair, n.sector, n.loc) in
    λ i. record { pair = pair i; sector = sector i; loc = loc i }

module _ (twins : Twins) (held : List Held) (rises : Rises slot 0 held) (places : All NamesPlace held)
    (same : (twin : ℕ) → twin < 2 → (place : Spot) → IsPlace place → word_at (twins.cells twin) place ≡ word_at (cells_of held twin) place) where
  -- each cell stands in its slot
  own_cell : (h : Held) → NamesPlace h → laid held (λ twin. filled_with (code_of 0)) h.twin h.at ≡ h.cell → cell_at twins (slot h) ≡ h
  own_cell h n own =
      let t = twin_is h n in
      let p = spot_is h n in
      let cell : word_at (twins.cells (slot h / 16384)) (spot_at (slot h % 16384)) ≡ h.cell =
      (λ i. word_at (twins.cells (t i)) (p i)) ∙ same h.twin n.twin h.at (names_place h n) ∙ own in
      λ i. record { twin = t i; at = p i; cell = cell i }

  -- and every other slot has that of the word 0
  no_cell : (m : ℕ) → m < 32768 → All (λ h. slot h ≢ m) held → (cell_at twins m).cell ≡ code_of 0
  no_cell m small none =
      same (m / 16384) (omega (arith, small)) (spot_at (m % 16384)) (is_place m)
      ∙ laid_others held (λ twin. filled_with (code_of 0)) (m / 16384) (spot_at (m % 16384))
      (λ k d less is. none k d less (is ∙ slot_is m))

  pub cells_left : All (λ h. h.cell ≢ code_of 0) held → cells_in twins ≡ held
  unfolding cells_in
  cells_left differ =
      gathered slot (cell_at twins) is_other_cell 32768 0 held rises
      (λ k d less. let n = places k d less in omega (arith, n.twin, n.pair, n.sector, n.loc))
      (λ k d less. own_cell (get_or held k d) (places k d less) (laid_own held (λ twin. filled_with (code_of 0)) 0 rises k d less))
      (λ k d less. ap not (ne_eqb (get_or held k d).cell (code_of 0) (differ k d less)))
      (λ m small none from. ap not (eq-eqb (cell_at twins m).cell (code_of 0) (no_cell m small none)))
