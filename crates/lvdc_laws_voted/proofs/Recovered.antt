-- What a read of a recoverable address finds and leaves, whichever twin is selected.
use Rattle.std.proofs.Common.{◌≡◌, ℕ, suc, ◌-◌, ◌/◌, ◌%◌, ◌^◌, ◌<◌, Bool, true, false, cond, not, ◌&&◌, List, slice_index, slice_set, length, inl, inr, subst, refl, sym, ap, ◌∙◌, arith, Option, Ok}
use Rattle.std.specs.Prelude.{◌==◌}
use Rattle.std.specs.declared.option.Option.TheVariants.{None, Some}
use Rattle.std.proofs.Math.Bool.{and-false}
use Rattle.std.proofs.lemmas.Bool.{true≢false, eqb-true, eq-eqb, cases_eq, cases_lt}
use Rattle.std.proofs.lemmas.List.{get_or-set_same, get_or-set_other, set_past}
use Rattle.lvdc_word.specs.Cell.{is_good, code_of}
use Rattle.lvdc_map.specs.Address.{Spot, is_same}
use Rattle.lvdc_map.specs.Banks.{is_simplex, home, holds, HasBank}
use Rattle.lvdc_map.specs.Memory.{word_at}
use Rattle.lvdc_twin.specs.Store.{survives}
use Rattle.lvdc_twin.specs.Calls.{answer_by_one, answer_by_two, is_repaired, Finds}
use Rattle.lvdc_twin.specs.declared.read_out.ReadOut.{ReadOut}
use Rattle.lvdc_fault.specs.Recoverable.{recovers_by, is_recovered}
use Rattle.lvdc_model.specs.Trial.{Trial, plain_in, read_at, store_at}
use Rattle.lvdc_model.specs.CellsBefore.{cell_before, shown_at, shown_with, damaged_at, is_dead_at}
use Rattle.lvdc_model.specs.Twins.{Twins, cell_at, with_cell, with_selected, shows, answer_by, rewritten, after_read}
use Rattle.lvdc_model.specs.Judging.{is_recoverable}
use Rattle.lvdc_laws_voted.specs.Cells.{StoresBefore, StoresDamaged, ReadsPlain}
use Rattle.lvdc_laws_voted.proofs.Places.{SameLaw, DuplexLaw, same_home, holds_simplex}
use Rattle.lvdc_laws_voted.proofs.Cells.{placed-cell}

-- what a read of one and of two cells answers
abbrev pub OneLaw : Type 0
OneLaw = (w : ℕ) → w < 2 ^ 26 → answer_by_one (code_of w) ≡ Ok (record { word = w; repaired = None; switched = false })

abbrev pub TwoLaw : Type 0
TwoLaw = (w selected : ℕ) (shown : ℕ → ℕ) → selected < 2 → w < 2 ^ 26 → survives (code_of w) (shown 0) (shown 1) ≡ true
    → Finds w shown (answer_by_two selected (shown selected) (shown (1 - selected)))

-- ---- the cells after a read

-- a twin is rewritten where it is to be, and is not dead
rewriting : (is killed dead same : Bool) (c x : ℕ) → (is ≡ true → killed ≡ dead) → cond killed x (cond (is && same) c x) ≡ cond ((is && not dead) && same) c x
rewriting false killed dead same c x h = by_killed killed
  where
    by_killed : (b : Bool) → cond b x x ≡ x
    by_killed true = refl
    by_killed false = refl
rewriting true killed dead same c x h = rw (h refl) (by_dead dead)
  where
    by_dead : (b : Bool) → cond b x (cond same c x) ≡ cond (not b && same) c x
    by_dead true = refl
    by_dead false = refl

-- the cell at an address once a word was stored, unless the twin is dead
word-cell : (killed : Bool) (t u : Twins) (w : ℕ) (at : Spot) → cell_at (cond killed t u) w at ≡ cond killed (cell_at t w at) (cell_at u w at)
word-cell true t u w at = refl
word-cell false t u w at = refl

-- the cells once a twin was repaired
rewritten-cell : (r : Option ℕ) (o : Trial) (step : ℕ) (t : Twins) (at : Spot) (w twin : ℕ) (other : Spot)
    → cell_at (rewritten r o step t at w) twin other
    ≡ cond ((is_repaired r twin && not (is_dead_at o step twin at)) && is_same (home other) (home at)) (code_of w) (cell_at t twin other)
rewritten-cell None o step t at w twin other = refl
rewritten-cell (Some v) o step t at w twin other =
    word-cell (is_dead_at o step v at) t (with_cell t v at (code_of w)) twin other
    ∙ ap (cond (is_dead_at o step v at) (cell_at t twin other)) (placed-cell t v (home at) (code_of w) twin other)
    ∙ rewriting (twin == v) (is_dead_at o step v at) (is_dead_at o step twin at) (is_same (home other) (home at)) (code_of w) (cell_at t twin other)
    (λ e. ap (λ (n : ℕ). is_dead_at o step n at) (sym (eqb-true twin v e)))

-- the cells after a read
read-cell : (o : Trial) (step : ℕ) (t : Twins) (at : Spot) (r : ReadOut) (twin : ℕ) (other : Spot)
    → cell_at (after_read o step t at r) twin other
    ≡ cond ((is_repaired r.repaired twin && not (is_dead_at o step twin at)) && is_same (home other) (home at)) (code_of r.word) (cell_at t twin other)
read-cell o step t at r twin other = switching r.switched ∙ rewritten-cell r.repaired o step t at r.word twin other
  where
    u : Twins
    u = rewritten r.repaired o step t at r.word

    switching : (b : Bool) → cell_at (cond b (with_selected u (at.pair % 4) (1 - slice_index u.selected (at.pair % 4))) u) twin other ≡ cell_at u twin other
    switching true = refl
    switching false = refl

-- the guard of a rewriting is that of the definition
mended-guard : (bad dead_there homes same simplex dead good : Bool) (c d x : ℕ) → homes ≡ same → (same ≡ true → simplex ≡ false)
    → (same ≡ true → (dead_there ≡ dead) × ((bad ≡ not good) × (c ≡ d)))
    → cond ((bad && not dead_there) && homes) c x ≡ cond (((same && not simplex) && not dead) && not good) d x
mended-guard bad dead_there homes false simplex dead good c d x h s e = rw (h, and-false (bad && not dead_there)) refl
mended-guard bad dead_there homes true simplex dead good c d x h s e =
    let it = e refl in rw (h, s refl, it.0, it.1.0, it.1.1) (turned dead good)
  where
    turned : (dead good : Bool) → cond ((not good && not dead) && true) d x ≡ cond (not dead && not good) d x
    turned true true = refl
    turned true false = refl
    turned false true = refl
    turned false false = refl

-- a read of a simplex pair mends nothing
quiet : (same simplex dead good : Bool) (d x : ℕ) → (same ≡ true → simplex ≡ true) → x ≡ cond (((same && not simplex) && not dead) && not good) d x
quiet false simplex dead good d x e = refl
quiet true true dead good d x e = refl
quiet true false dead good d x e = absurd (true≢false (sym (e refl)))

-- ---- selections

-- selections stay below 2
set-below : (xs : List ℕ) (i v k : ℕ) → v < 2 → ((j : ℕ) → slice_index xs j < 2) → slice_index (slice_set xs i v) k < 2
set-below xs i v k small h =
    elim (cases_eq k i) [
      | inl e ↦ elim (cases_lt i (length xs)) [
        | inl lt ↦ let P : ℕ → Type 0 = λ n. n < 2 in subst P (sym (ap (slice_index (slice_set xs i v)) e ∙ get_or-set_same xs i v 0 lt)) small
        | inr ge ↦ let P : List ℕ → Type 0 = λ l. slice_index l k < 2 in subst P (sym (set_past xs i v ge)) (h k)
      ]
      | inr ne ↦ let P : ℕ → Type 0 = λ n. n < 2 in subst P (sym (get_or-set_other xs i k v 0 ne)) (h k)
    ]

-- a repair selects no other twin
rewritten-selected : (r : Option ℕ) (o : Trial) (step : ℕ) (t : Twins) (at : Spot) (w : ℕ) → (rewritten r o step t at w).selected ≡ t.selected
rewritten-selected None o step t at w = refl
rewritten-selected (Some twin) o step t at w = by_dead (is_dead_at o step twin at)
  where
    by_dead : (dead : Bool) → (cond dead t (with_cell t twin at (code_of w))).selected ≡ t.selected
    by_dead true = refl
    by_dead false = refl

-- after a read selections are of twins
pub read-selected : (o : Trial) (step : ℕ) (t : Twins) (at : Spot) (r : ReadOut) → ((j : ℕ) → slice_index t.selected j < 2)
    → (pair : ℕ) → slice_index (after_read o step t at r).selected pair < 2
read-selected o step t at r h pair = switching r.switched
  where
    u : Twins
    u = rewritten r.repaired o step t at r.word

    same : (j : ℕ) → slice_index u.selected j < 2
    same j = rw (rewritten-selected r.repaired o step t at r.word) (h j)

    switching : (b : Bool) → slice_index (cond b (with_selected u (at.pair % 4) (1 - slice_index u.selected (at.pair % 4))) u).selected pair < 2
    switching true = set-below u.selected (at.pair % 4) (1 - slice_index u.selected (at.pair % 4)) pair (omega arith) same
    switching false = same pair

-- ---- a read of a recoverable address

-- by whether the pair is simplex
record ReadsBy (b : Bool) (o : Trial) (step : ℕ) (t : Twins) (at : Spot) : Type 0 where
  out : ReadOut
  answer : answer_by b o step t at ≡ Ok out
  word : out.word ≡ word_at (plain_in o step).memory at
  stores : StoresBefore o (suc step) (after_read o step t at out)

-- a read of a simplex pair finds the word that can be recovered
simplex-read : SameLaw → OneLaw → (o : Trial) (step : ℕ) (t : Twins) (at : Spot) → is_simplex o.opening.banks (at.pair % 4) ≡ true → HasBank o.opening.banks at
    → StoresDamaged o step t → read_at o step ≡ Some at → store_at o step ≡ None
    → recovers_by true at.pair (code_of (word_at (plain_in o step).memory at)) (λ twin. shown_at o twin at step) ≡ true
    → word_at (plain_in o step).memory at < 2 ^ 26 → ReadsBy true o step t at
simplex-read same law o step t at simplex bank h reading storing rec small =
    record {
      out = record { word = w; repaired = None; switched = false };
      answer = ap answer_by_one is ∙ law w small;
      word = refl;
      stores = record { cells = cells; selected = h.selected };
    }
  where
    banks : ℕ
    banks = o.opening.banks

    w : ℕ
    w = word_at (plain_in o step).memory at

    holder : (holds banks (at.pair / 4) at ≡ true) × (at.pair / 4 < 2)
    holder = holds_simplex banks at bank simplex

    is : shows o step t (at.pair / 4) at ≡ code_of w
    is = ap (shown_with o step (at.pair / 4) at) (h.cells (at.pair / 4) holder.1 at holder.0) ∙ eqb-true _ _ rec

    cells : (twin : ℕ) → twin < 2 → (other : Spot) → holds banks twin other ≡ true → cell_at t twin other ≡ cell_before o twin other (suc step)
    cells twin two other held =
        h.cells twin two other held
        ∙ quiet (is_same other at) (is_simplex banks (other.pair % 4)) (is_dead_at o step twin other) (is_good (shown_at o twin other step))
        (code_of (word_at (plain_in o step).memory other)) (damaged_at o step twin other (cell_before o twin other step))
        (λ e. ap (λ (a : Spot). is_simplex banks (a.pair % 4)) (same other at e) ∙ simplex)
        ∙ rw (storing, reading) refl

-- a read of a duplex pair finds it too, and mends as the definition does
duplex-read : SameLaw → DuplexLaw → TwoLaw → (o : Trial) (step : ℕ) (t : Twins) (at : Spot) → is_simplex o.opening.banks (at.pair % 4) ≡ false → HasBank o.opening.banks at
    → StoresDamaged o step t → read_at o step ≡ Some at → store_at o step ≡ None
    → recovers_by false at.pair (code_of (word_at (plain_in o step).memory at)) (λ twin. shown_at o twin at step) ≡ true
    → word_at (plain_in o step).memory at < 2 ^ 26 → ReadsBy false o step t at
duplex-read same both law o step t at duplex bank h reading storing rec small =
    record { out = it.out; answer = it.is; word = it.word; stores = record { cells = cells; selected = read-selected o step t at it.out h.selected } }
  where
    banks : ℕ
    banks = o.opening.banks

    w : ℕ
    w = word_at (plain_in o step).memory at

    held_there : (twin : ℕ) → holds banks twin at ≡ true
    held_there twin = both banks twin at bank duplex

    shown_is : (twin : ℕ) → twin < 2 → shows o step t twin at ≡ shown_at o twin at step
    shown_is twin two = ap (shown_with o step twin at) (h.cells twin two at (held_there twin))

    it : Finds w (λ twin. shows o step t twin at) (answer_by false o step t at)
    it = law w (slice_index t.selected (at.pair % 4)) (λ twin. shows o step t twin at) (h.selected (at.pair % 4)) small
        (rw (shown_is 0 (omega arith), shown_is 1 (omega arith)) rec)

    cells : (twin : ℕ) → twin < 2 → (other : Spot) → holds banks twin other ≡ true → cell_at (after_read o step t at it.out) twin other ≡ cell_before o twin other (suc step)
    cells twin two other held =
        read-cell o step t at it.out twin other
        ∙ mended-guard (is_repaired it.out.repaired twin) (is_dead_at o step twin at) (is_same (home other) (home at)) (is_same other at)
        (is_simplex banks (other.pair % 4)) (is_dead_at o step twin other) (is_good (shows o step t twin other))
        (code_of it.out.word) (code_of (word_at (plain_in o step).memory other)) (cell_at t twin other)
        (same_home banks twin other at held (held_there twin))
        (λ e. ap (λ (a : Spot). is_simplex banks (a.pair % 4)) (same other at e) ∙ duplex)
        (λ e.
        let q = sym (same other at e) in (
          ap (is_dead_at o step twin) q,
          (
            it.bad twin two ∙ ap (λ (a : Spot). not (is_good (shows o step t twin a))) q,
            ap code_of (it.word ∙ ap (word_at (plain_in o step).memory) q),
          ),
        ))
        ∙ ap (λ (c : ℕ). cond (((is_same other at && not (is_simplex banks (other.pair % 4))) && not (is_dead_at o step twin other)) && not (is_good (shown_with o step twin other c))) (code_of (word_at (plain_in o step).memory other)) c) (h.cells twin two other held)
        ∙ rw (storing, reading) refl

-- both, by the kind of pair
reads_by : SameLaw → DuplexLaw → OneLaw → TwoLaw → (b : Bool) (o : Trial) (step : ℕ) (t : Twins) (at : Spot) → is_simplex o.opening.banks (at.pair % 4) ≡ b
    → HasBank o.opening.banks at → StoresDamaged o step t → read_at o step ≡ Some at → store_at o step ≡ None
    → recovers_by b at.pair (code_of (word_at (plain_in o step).memory at)) (λ twin. shown_at o twin at step) ≡ true
    → word_at (plain_in o step).memory at < 2 ^ 26 → ReadsBy b o step t at
reads_by same both one two true o step t at e bank h reading storing rec small = simplex-read same one o step t at e bank h reading storing rec small
reads_by same both one two false o step t at e bank h reading storing rec small = duplex-read same both two o step t at e bank h reading storing rec small

-- a read answers the word of the plain run
pub reads-plain : SameLaw → DuplexLaw → OneLaw → TwoLaw → (o : Trial) (step : ℕ) (t : Twins) (at : Spot) → HasBank o.opening.banks at
    → StoresDamaged o step t → read_at o step ≡ Some at → store_at o step ≡ None → is_recoverable o step at ≡ true
    → word_at (plain_in o step).memory at < 2 ^ 26 → ReadsPlain o step t at
reads-plain same both one two o step t at bank h reading storing rec small =
    let it = reads_by same both one two (is_simplex o.opening.banks (at.pair % 4)) o step t at refl bank h reading storing rec small in
    record { out = it.out; answer = it.answer; word = it.word; stores = it.stores }

-- ---- what can be recovered

-- only what the twins show that hold the bank counts
holders-simplex : (bank cell : ℕ) (x y : ℕ → ℕ) → x (bank / 4) ≡ y (bank / 4) → recovers_by true bank cell x ≡ recovers_by true bank cell y
holders-simplex bank cell x y e = ap (λ (shown : ℕ). shown == cell) e

holders-duplex : (bank cell : ℕ) (x y : ℕ → ℕ) → x 0 ≡ y 0 → x 1 ≡ y 1 → recovers_by false bank cell x ≡ recovers_by false bank cell y
holders-duplex bank cell x y zeroth first = λ i. survives cell (zeroth i) (first i)

-- only what the twins that hold the address show counts
pub holders-same : DuplexLaw → (banks : ℕ) (at : Spot) (w : ℕ) (x y : ℕ → ℕ) → HasBank banks at
    → ((twin : ℕ) → twin < 2 → holds banks twin at ≡ true → x twin ≡ y twin) → is_recovered banks at w x ≡ is_recovered banks at w y
holders-same both banks at w x y bank e = by_simplex (is_simplex banks (at.pair % 4)) refl
  where
    by_simplex : (b : Bool) → is_simplex banks (at.pair % 4) ≡ b → recovers_by b at.pair (code_of w) x ≡ recovers_by b at.pair (code_of w) y
    by_simplex true simplex = let holder = holds_simplex banks at bank simplex in holders-simplex at.pair (code_of w) x y (e (at.pair / 4) holder.1 holder.0)
    by_simplex false duplex = holders-duplex at.pair (code_of w) x y (e 0 (omega arith) (both banks 0 at bank duplex)) (e 1 (omega arith) (both banks 1 at bank duplex))

-- where both twins show the code of a word, it can be recovered
pub recovered-code : (banks : ℕ) (at : Spot) (w : ℕ) → is_recovered banks at w (λ twin. code_of w) ≡ true
recovered-code banks at w = by_simplex (is_simplex banks (at.pair % 4))
  where
    by_simplex : (b : Bool) → recovers_by b at.pair (code_of w) (λ twin. code_of w) ≡ true
    by_simplex true = eq-eqb (code_of w) (code_of w) refl
    by_simplex false = rw (eq-eqb (code_of w) (code_of w) refl) refl
