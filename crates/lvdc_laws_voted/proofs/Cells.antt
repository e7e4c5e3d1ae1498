-- What damage, a store and a step with neither leave of the twins' cells.
use Rattle.std.proofs.Common.{◌≡◌, ℕ, zero, suc, ◌<◌, Bool, true, false, cond, not, ◌&&◌, List, [], ◌∷◌, slice_index, refl, sym, ap, ◌∙◌, arith, bit_xor}
use Rattle.std.specs.Prelude.{◌==◌}
use Rattle.std.specs.declared.option.Option.TheVariants.{None, Some}
use Rattle.std.proofs.Math.Bool.{and-false}
use Rattle.std.proofs.lemmas.Bool.{true≢false, eqb-true, eqb-false, eq-eqb, ne_eqb}
use Rattle.lvdc_word.specs.Cell.{code_of}
use Rattle.lvdc_map.specs.Address.{Spot, is_same}
use Rattle.lvdc_map.specs.Banks.{home, holds}
use Rattle.lvdc_map.specs.Memory.{word_at, stored}
use Rattle.lvdc_fault.specs.Damage.{damaged, damaged_by}
use Rattle.lvdc_fault.specs.declared.event.Event.{Event}
use Rattle.lvdc_fault.specs.declared.event.Event.TheVariants.{Damage}
use Rattle.lvdc_model.specs.Trial.{Trial, read_at, store_at}
use Rattle.lvdc_model.specs.CellsBefore.{cell_before, damaged_at, is_dead_at}
use Rattle.lvdc_model.specs.Twins.{Twins, cell_at, with_place, with_cell, with_held, after_store}
use Rattle.lvdc_model.specs.Exchanges.{damages, damages_by}
use Rattle.lvdc_laws_voted.specs.Cells.{StoresBefore, StoresDamaged}
use Rattle.lvdc_laws_voted.proofs.Places.{SameLaw, same_home}

-- ---- one cell stored

-- the cell at an address once a cell was stored at a place: that one at its home, else the old one
pub placed-cell : (t : Twins) (twin : ℕ) (place : Spot) (cell w : ℕ) (other : Spot)
    → cell_at (with_place t twin place cell) w other ≡ cond (w == twin && is_same (home other) place) cell (cell_at t w other)
placed-cell t twin place cell w other = by_twin (w == twin)
  where
    by_twin : (b : Bool) → word_at (cond b (stored (t.cells w) place cell) (t.cells w)) (home other) ≡ cond (b && is_same (home other) place) cell (cell_at t w other)
    by_twin true = refl
    by_twin false = refl

-- ---- damage

-- where a place is the one named, it may be written either way
same_place : SameLaw → (w twin : ℕ) (at spot : Spot) (P : ℕ → Spot → ℕ) (x : ℕ)
    → cond (w == twin && is_same at spot) (P twin spot) x ≡ cond (twin == w && is_same at spot) (P w at) x
same_place same w twin at spot P x = by_twin (twin == w) refl
  where
    by_place : (b : Bool) → is_same at spot ≡ b → twin ≡ w → cond b (P twin spot) x ≡ cond b (P w at) x
    by_place true e p = ap (λ (n : ℕ). P n spot) p ∙ sym (ap (P w) (same at spot e))
    by_place false e p = refl

    by_twin : (b : Bool) → (twin == w) ≡ b → cond (w == twin && is_same at spot) (P twin spot) x ≡ cond (b && is_same at spot) (P w at) x
    by_twin true e =
        let p : twin ≡ w = eqb-true twin w e in
        let q : (w == twin) ≡ true = eq-eqb w twin (sym p) in
        rw q (by_place (is_same at spot) refl p)
    by_twin false e =
        let q : (w == twin) ≡ false = ne_eqb w twin (λ p. eqb-false twin w e (sym p)) in
        rw q refl

-- damage is seen in the cell at the place that it names
damage-cell : SameLaw → (b : Bool) (t : Twins) (twin : ℕ) (place : Spot) (mask w : ℕ) (at : Spot)
    → cell_at (cond b (with_place t twin place (bit_xor (word_at (t.cells twin) place) mask)) t) w at
    ≡ cond (b && twin == w && is_same (home at) place) (bit_xor (cell_at t w at) mask) (cell_at t w at)
damage-cell same true t twin place mask w at =
    placed-cell t twin place (bit_xor (word_at (t.cells twin) place) mask) w at
    ∙ same_place same w twin (home at) place (λ v a. bit_xor (word_at (t.cells v) a) mask) (cell_at t w at)
damage-cell same false t twin place mask w at = refl

-- the same of one event, and of a script
damage-cell_by : SameLaw → (step : ℕ) (e : Event) (t : Twins) (w : ℕ) (at : Spot) → cell_at (damages_by step e t) w at ≡ damaged_by step w (home at) e (cell_at t w at)
damage-cell_by same step (Damage twin place n mask) t w at = damage-cell same (n == step) t twin place mask w at
damage-cell_by same step _ t w at = refl

damages-cell : SameLaw → (step : ℕ) (es : List Event) (t : Twins) (w : ℕ) (at : Spot) → cell_at (damages step es t) w at ≡ damaged step w (home at) es (cell_at t w at)
damages-cell same step [] t w at = refl
damages-cell same step (e ∷ es) t w at =
    damages-cell same step es (damages_by step e t) w at ∙ ap (damaged step w (home at) es) (damage-cell_by same step e t w at)

-- damage selects no other twin
damage-selected : (b : Bool) (t : Twins) (twin : ℕ) (place : Spot) (cell : ℕ) → (cond b (with_place t twin place cell) t).selected ≡ t.selected
damage-selected true t twin place cell = refl
damage-selected false t twin place cell = refl

damage-selected_by : (step : ℕ) (e : Event) (t : Twins) → (damages_by step e t).selected ≡ t.selected
damage-selected_by step (Damage twin place n mask) t = damage-selected (n == step) t twin place _
damage-selected_by step _ t = refl

pub damages-selected : (step : ℕ) (es : List Event) (t : Twins) → (damages step es t).selected ≡ t.selected
damages-selected step [] t = refl
damages-selected step (e ∷ es) t = damages-selected step es (damages_by step e t) ∙ damage-selected_by step e t

-- a step begins: the twins store the damaged cells
pub damages-stored : SameLaw → (o : Trial) (step : ℕ) (t : Twins) → StoresBefore o step t → StoresDamaged o step (damages step o.script t)
damages-stored same o step t h =
    record {
      cells = λ twin two at held. damages-cell same step o.script t twin at ∙ ap (damaged_at o step twin at) (h.cells twin two at held);
      selected = λ pair. rw (damages-selected step o.script t) (h.selected pair);
    }

-- ---- a step without a read or a store

-- a step without a read or a store leaves the damaged cells
pub untouched : (o : Trial) (step : ℕ) (t : Twins) → read_at o step ≡ None → store_at o step ≡ None → StoresDamaged o step t → StoresBefore o (suc step) t
untouched o step t reading storing h =
    record { cells = λ twin two at held. rw (storing, reading) (h.cells twin two at held); selected = h.selected }

-- ---- a store

-- the cell at an address once a twin that holds one has stored a word
held-cell : (o : Trial) (step : ℕ) (t : Twins) (twin : ℕ) (at : Spot) (w v : ℕ) (other : Spot)
    → cell_at (with_held o step twin at w t) v other
    ≡ cond ((v == twin && (holds o.opening.banks twin at && not (is_dead_at o step twin at))) && is_same (home other) (home at)) (code_of w) (cell_at t v other)
held-cell o step t twin at w v other = by_case (holds o.opening.banks twin at) (is_dead_at o step twin at)
  where
    none : (b : Bool) → cell_at t v other ≡ cond ((b && false) && is_same (home other) (home at)) (code_of w) (cell_at t v other)
    none true = refl
    none false = refl

    it : (b : Bool) → cond (b && is_same (home other) (home at)) (code_of w) (cell_at t v other)
        ≡ cond ((b && true) && is_same (home other) (home at)) (code_of w) (cell_at t v other)
    it true = refl
    it false = refl

    by_case : (held dead : Bool) → cell_at (cond held (cond dead t (with_cell t twin at (code_of w))) t) v other
        ≡ cond ((v == twin && (held && not dead)) && is_same (home other) (home at)) (code_of w) (cell_at t v other)
    by_case false dead = none (v == twin)
    by_case true true = none (v == twin)
    by_case true false = placed-cell t twin (home at) (code_of w) v other ∙ it (v == twin)

-- a store selects no other twin
word-selected : (dead : Bool) (t : Twins) (twin : ℕ) (at : Spot) (cell : ℕ) → (cond dead t (with_cell t twin at cell)).selected ≡ t.selected
word-selected true t twin at cell = refl
word-selected false t twin at cell = refl

pub held-selected : (held dead : Bool) (t : Twins) (twin : ℕ) (at : Spot) (cell : ℕ) → (cond held (cond dead t (with_cell t twin at cell)) t).selected ≡ t.selected
held-selected true dead t twin at cell = word-selected dead t twin at cell
held-selected false dead t twin at cell = refl

-- the guard of a store is that of the definition, at an address that the twin holds
stored-guard : (held killed homes same mine dead : Bool) (c x : ℕ) → (held ≡ true → homes ≡ same) → (same ≡ true → (held ≡ mine) × (killed ≡ dead)) → mine ≡ true
    → cond ((held && not killed) && homes) c x ≡ cond ((same && mine) && not dead) c x
stored-guard held killed homes same false dead c x h e m = absurd (true≢false (sym m))
stored-guard true killed homes true true dead c x h e m = rw (h refl, (e refl).1) (by_dead dead)
  where
    by_dead : (dead : Bool) → cond (not dead && true) c x ≡ cond (not dead) c x
    by_dead true = refl
    by_dead false = refl
stored-guard true killed homes false true dead c x h e m = rw (h refl, and-false (not killed)) refl
stored-guard false killed homes true true dead c x h e m = absurd (true≢false (sym (e refl).0))
stored-guard false killed homes false true dead c x h e m = refl

-- a step with a store leaves the cells that the definition has
pub stores-stored : SameLaw → (o : Trial) (step : ℕ) (t : Twins) (at : Spot) (w : ℕ) → StoresDamaged o step t
    → read_at o step ≡ None → store_at o step ≡ Some (record { at = at; word = w })
    → StoresBefore o (suc step) (after_store o step at w t)
stores-stored same o step t at w h reading storing = record { cells = cells; selected = selected }
  where
    banks : ℕ
    banks = o.opening.banks

    goes : ℕ → Bool
    goes twin = holds banks twin at && not (is_dead_at o step twin at)

    u : Twins
    u = with_held o step 0 at w t

    is : (twin : ℕ) → twin < 2 → (other : Spot) → cell_at (after_store o step at w t) twin other ≡ cond (goes twin && is_same (home other) (home at)) (code_of w) (cell_at t twin other)
    is zero two other = held-cell o step u 1 at w 0 other ∙ held-cell o step t 0 at w 0 other
    is (suc zero) two other =
        held-cell o step u 1 at w 1 other ∙ ap (cond (goes 1 && is_same (home other) (home at)) (code_of w)) (held-cell o step t 0 at w 1 other)
    is (suc (suc twin)) two other = absurd (omega arith)

    one : (twin : ℕ) (other : Spot) → holds banks twin other ≡ true → cond (goes twin && is_same (home other) (home at)) (code_of w) (cell_at t twin other)
        ≡ cond ((is_same other at && holds banks twin other) && not (is_dead_at o step twin other)) (code_of w) (cell_at t twin other)
    one twin other held =
        stored-guard (holds banks twin at) (is_dead_at o step twin at) (is_same (home other) (home at)) (is_same other at)
        (holds banks twin other) (is_dead_at o step twin other) (code_of w) (cell_at t twin other)
        (λ there. same_home banks twin other at held there)
        (λ e. (sym (ap (holds banks twin) (same other at e)), sym (ap (is_dead_at o step twin) (same other at e))))
        held

    cells : (twin : ℕ) → twin < 2 → (other : Spot) → holds banks twin other ≡ true → cell_at (after_store o step at w t) twin other ≡ cell_before o twin other (suc step)
    cells twin two other held =
        is twin two other ∙ one twin other held
        ∙ ap (cond ((is_same other at && holds banks twin other) && not (is_dead_at o step twin other)) (code_of w)) (h.cells twin two other held)
        ∙ rw (storing, reading) refl

    selected : (pair : ℕ) → slice_index (after_store o step at w t).selected pair < 2
    selected pair =
        rw (held-selected (holds banks 1 at) (is_dead_at o step 1 at) u 1 at (code_of w), held-selected (holds banks 0 at) (is_dead_at o step 0 at) t 0 at (code_of w))
        (h.selected pair)
