-- Places and the cells stored there.
use Rattle.std.proofs.Common.{◌≡◌, ℕ, ◌+◌, ◌*◌, ◌<◌, Bool, true, false, cond, not, ◌&&◌, List, get_or, set, length, refl, sym, ap, ◌∙◌, arith}
use Rattle.std.specs.Prelude.{◌==◌}
use Rattle.std.proofs.lemmas.Bool.{true≢false, eqb-true, eq-eqb, and_parts, and_from}
use Rattle.std.proofs.lemmas.List.{get_or-set_same, get_or-set_other}
use Rattle.lvdc_word.specs.Cell.{code_of}
use Rattle.lvdc_map.specs.Address.{Spot, is_same}
use Rattle.lvdc_map.proofs.Addresses.{same-spot}
use Rattle.lvdc_map.specs.Banks.{IsPlace}
use Rattle.lvdc_twin.specs.Store.{Store, IsStore, nothing, slot_of, stored_in, stuck_in, is_dead, with_cell, with_word, with_stuck_bits, with_dead}
use Rattle.lvdc_twin.specs.declared.stuck.Stuck.{Stuck}

-- ---- places

-- places with the same numbers are the same
pub same-from : (a b : Spot) → a.pair ≡ b.pair → a.sector ≡ b.sector → a.loc ≡ b.loc → is_same a b ≡ true
same-from a b p q r =
    and_from (a.pair == b.pair && a.sector == b.sector) (a.loc == b.loc)
    (and_from (a.pair == b.pair) (a.sector == b.sector) (eq-eqb a.pair b.pair p) (eq-eqb a.sector b.sector q)) (eq-eqb a.loc b.loc r)

-- a slot is within the tables
pub slot-small : (twin : ℕ) (place : Spot) → twin < 2 → IsPlace place → slot_of twin place < 32768
slot-small twin place two h =
    let p : place.pair < 4 = h.pair in
    let s : place.sector < 16 = h.sector in
    let l : place.loc < 256 = h.loc in
    omega arith

-- a slot is of one twin and one place
pub one_slot : (w twin : ℕ) (a b : Spot) → w < 2 → twin < 2 → IsPlace a → IsPlace b → slot_of w a ≡ slot_of twin b → (w == twin && is_same a b) ≡ true
one_slot w twin a b hw ht ha hb e =
    let pa : a.pair < 4 = ha.pair in
    let sa : a.sector < 16 = ha.sector in
    let la : a.loc < 256 = ha.loc in
    let pb : b.pair < 4 = hb.pair in
    let sb : b.sector < 16 = hb.sector in
    let lb : b.loc < 256 = hb.loc in
    and_from (w == twin) (is_same a b) (eq-eqb w twin (omega arith)) (same-from a b (omega arith) (omega arith) (omega arith))

-- ---- tables

-- an entry of a table once one is set
entry_set : {X : Type 0} (xs : List X) (i j : ℕ) (x d : X) (same : Bool) → (same ≡ true → j ≡ i) → (same ≡ false → j ≡ i → ⊥) → i < length xs
    → get_or (set xs i x) j d ≡ cond same x (get_or xs j d)
entry_set xs i j x d true there other small = ap (λ (n : ℕ). get_or (set xs i x) n d) (there refl) ∙ get_or-set_same xs i x d small
entry_set xs i j x d false there other small = get_or-set_other xs i j x d (other refl)

-- the slot of a place, and of no other place
pub slot_of_place : (w twin : ℕ) (a b : Spot) → (w == twin && is_same a b) ≡ true → slot_of w a ≡ slot_of twin b
slot_of_place w twin a b e =
    let parts = and_parts (w == twin) (is_same a b) e in
    ap (λ (n : ℕ). slot_of n a) (eqb-true w twin parts.0) ∙ ap (slot_of twin) (same-spot a b parts.1)

-- an entry of a table by twin and place once one is set
pub slot_set : {X : Type 0} (xs : List X) (w twin : ℕ) (a b : Spot) (x d : X) → w < 2 → twin < 2 → IsPlace a → IsPlace b → length xs ≡ 32768
    → get_or (set xs (slot_of twin b) x) (slot_of w a) d ≡ cond (w == twin && is_same a b) x (get_or xs (slot_of w a) d)
slot_set xs w twin a b x d hw ht ha hb e =
    entry_set xs (slot_of twin b) (slot_of w a) x d (w == twin && is_same a b) (slot_of_place w twin a b)
    (λ no same. true≢false (sym (one_slot w twin a b hw ht ha hb same) ∙ no)) (rw e (slot-small twin b ht hb))

-- what is stuck once bits are stuck at a place
pub stuck-with_stuck_bits : (t : Store) (twin : ℕ) (place : Spot) (bits : Stuck) (w : ℕ) (other : Spot) → IsStore t → twin < 2 → w < 2 → IsPlace place → IsPlace other
    → stuck_in (with_stuck_bits t twin place bits) w other ≡ cond (w == twin && is_same other place) bits (stuck_in t w other)
stuck-with_stuck_bits t twin place bits w other h ht hw hp ho = slot_set t.stuck w twin other place bits nothing hw ht ho hp h.stuck

-- which twins are dead once one is marked
pub dead-with_dead : (t : Store) (twin pair : ℕ) (on : Bool) (w other : ℕ) → IsStore t → twin < 2 → pair < 4 → w < 2 → other < 4
    → is_dead (with_dead t twin pair on) w other ≡ cond (w == twin && other == pair) on (is_dead t w other)
dead-with_dead t twin pair on w other h ht hp hw ho =
    entry_set t.dead (twin * 4 + pair) (w * 4 + other) on false (w == twin && other == pair)
    (λ e.
    let parts = and_parts (w == twin) (other == pair) e in
    let p : w ≡ twin = eqb-true w twin parts.0 in
    let q : other ≡ pair = eqb-true other pair parts.1 in
    omega arith)
    (λ no same. true≢false (sym (and_from (w == twin) (other == pair) (eq-eqb w twin (omega arith)) (eq-eqb other pair (omega arith))) ∙ no)) (rw h.dead (omega arith))

-- ---- stored cells

-- what a twin stores once a twin has stored a cell
pub stored-with_cell : (t : Store) (twin : ℕ) (place : Spot) (cell w : ℕ) (other : Spot) → IsStore t → twin < 2 → w < 2 → IsPlace place → IsPlace other
    → stored_in (with_cell t twin place cell) w other ≡ cond (w == twin && is_same other place) cell (stored_in t w other)
stored-with_cell t twin place cell w other h ht hw hp ho = slot_set t.cells w twin other place cell 0 hw ht ho hp h.cells

-- what a twin stores once a twin has stored a word, unless it is dead
pub stored-with_word : (t : Store) (twin : ℕ) (place : Spot) (v w : ℕ) (other : Spot) → IsStore t → twin < 2 → w < 2 → IsPlace place → IsPlace other
    → stored_in (with_word t twin place v) w other ≡ cond (not (is_dead t twin place.pair) && (w == twin && is_same other place)) (code_of v) (stored_in t w other)
stored-with_word t twin place v w other h ht hw hp ho = by_case (is_dead t twin place.pair)
  where
    by_case : (dead : Bool) → stored_in (cond dead t (with_cell t twin place (code_of v))) w other ≡ cond (not dead && (w == twin && is_same other place)) (code_of v) (stored_in t w other)
    by_case true = refl
    by_case false = stored-with_cell t twin place (code_of v) w other h ht hw hp ho
