-- What a store of a word in each twin that holds an address leaves.
use Rattle.std.proofs.Common.{◌≡◌, ℕ, zero, suc, ◌%◌, ◌<◌, Bool, true, false, cond, not, ◌&&◌, length, refl, ap, ◌∙◌, arith}
use Rattle.std.specs.Prelude.{◌==◌}
use Rattle.std.proofs.lemmas.List.{length-set}
use Rattle.lvdc_word.specs.Cell.{code_of}
use Rattle.lvdc_map.specs.Address.{Spot, is_same}
use Rattle.lvdc_map.specs.Banks.{home, holds, IsPlace}
use Rattle.lvdc_twin.specs.Store.{Store, IsStore, slot_of, stored_in, is_dead, with_cell, with_word}
use Rattle.lvdc_twin.specs.Calls.{with_held, after_write}
use Rattle.lvdc_twin.proofs.Places.{stored-with_word}

pub and_false : (a : Bool) → (a && false) ≡ false
and_false true = refl
and_false false = refl

-- what a stored cell doesn't change, a store of a word doesn't
pub kept-with_word : {X : Type 0} (F : Store → X) → (t : Store) (twin : ℕ) (place : Spot) (v : ℕ) → F (with_cell t twin place (code_of v)) ≡ F t → F (with_word t twin place v) ≡ F t
kept-with_word F t twin place v same = by_case (is_dead t twin place.pair)
  where
    by_case : (dead : Bool) → F (cond dead t (with_cell t twin place (code_of v))) ≡ F t
    by_case true = refl
    by_case false = same

pub kept-with_held : {X : Type 0} (F : Store → X) → (t : Store) (twin : ℕ) (at : Spot) (v : ℕ) → F (with_cell t twin (home at) (code_of v)) ≡ F t → F (with_held t twin at v) ≡ F t
kept-with_held F t twin at v same = by_case (holds t.banks twin at)
  where
    by_case : (held : Bool) → F (cond held (with_word t twin (home at) v) t) ≡ F t
    by_case true = kept-with_word F t twin (home at) v same
    by_case false = refl

pub whole-with_held : (t : Store) (twin : ℕ) (at : Spot) (v : ℕ) → IsStore t → IsStore (with_held t twin at v)
whole-with_held t twin at v h =
    let cells = kept-with_held (λ u. length u.cells) t twin at v (length-set t.cells (slot_of twin (home at)) (code_of v)) in
    let stuck = kept-with_held (λ u. u.stuck) t twin at v refl in
    let dead = kept-with_held (λ u. u.dead) t twin at v refl in
    let selected = kept-with_held (λ u. u.selected) t twin at v refl in
    record {
      cells = cells ∙ h.cells;
      stuck = ap length stuck ∙ h.stuck;
      dead = ap length dead ∙ h.dead;
      pairs = ap length selected ∙ h.pairs;
      selected = λ pair. rw selected (h.selected pair);
    }

-- what a twin stores once a word is stored in a twin that holds the address
stored-with_held : (t : Store) (twin : ℕ) (at : Spot) (v w : ℕ) (other : Spot) → IsStore t → twin < 2 → w < 2 → IsPlace (home at) → IsPlace other
    → stored_in (with_held t twin at v) w other
    ≡ cond (holds t.banks twin at && (not (is_dead t twin (at.pair % 4)) && (w == twin && is_same other (home at)))) (code_of v) (stored_in t w other)
stored-with_held t twin at v w other h ht hw hp ho = by_case (holds t.banks twin at)
  where
    by_case : (held : Bool) → stored_in (cond held (with_word t twin (home at) v) t) w other
        ≡ cond (held && (not (is_dead t twin (at.pair % 4)) && (w == twin && is_same other (home at)))) (code_of v) (stored_in t w other)
    by_case true = stored-with_word t twin (home at) v w other h ht hw hp ho
    by_case false = refl

other_twin : (held dead : Bool) (c x : ℕ) → cond (held && (not dead && false)) c x ≡ x
other_twin false dead c x = refl
other_twin true true c x = refl
other_twin true false c x = refl

-- what a twin stores after a write
pub stored-after_write : (t : Store) (at : Spot) (v w : ℕ) (other : Spot) → IsStore t → w < 2 → IsPlace (home at) → IsPlace other
    → stored_in (after_write t at v) w other
    ≡ cond (holds t.banks w at && (not (is_dead t w (at.pair % 4)) && is_same other (home at))) (code_of v) (stored_in t w other)
stored-after_write t at v zero other h hw hp ho =
    let u = with_held t 0 at v in
    stored-with_held u 1 at v 0 other (whole-with_held t 0 at v h) (omega arith) hw hp ho
    ∙ other_twin (holds u.banks 1 at) (is_dead u 1 (at.pair % 4)) (code_of v) (stored_in u 0 other)
    ∙ stored-with_held t 0 at v 0 other h hw hw hp ho
stored-after_write t at v (suc zero) other h hw hp ho =
    let u = with_held t 0 at v in
    let banks : u.banks ≡ t.banks = kept-with_held (λ s. s.banks) t 0 at v refl in
    let dead : is_dead u 1 (at.pair % 4) ≡ is_dead t 1 (at.pair % 4) = kept-with_held (λ s. is_dead s 1 (at.pair % 4)) t 0 at v refl in
    let same : stored_in u 1 other ≡ stored_in t 1 other =
    stored-with_held t 0 at v 1 other h (omega arith) hw hp ho ∙ other_twin (holds t.banks 0 at) (is_dead t 0 (at.pair % 4)) (code_of v) (stored_in t 1 other) in
    stored-with_held u 1 at v 1 other (whole-with_held t 0 at v h) hw hw hp ho
    ∙ ap (λ b. cond (holds b 1 at && (not (is_dead u 1 (at.pair % 4)) && is_same other (home at))) (code_of v) (stored_in u 1 other)) banks
    ∙ ap (λ d. cond (holds t.banks 1 at && (not d && is_same other (home at))) (code_of v) (stored_in u 1 other)) dead
    ∙ ap (cond (holds t.banks 1 at && (not (is_dead t 1 (at.pair % 4)) && is_same other (home at))) (code_of v)) same
stored-after_write t at v (suc (suc w)) other h hw hp ho = absurd (omega arith)

-- a write leaves the banks as they are
pub banks-after_write : (t : Store) (at : Spot) (v : ℕ) → (after_write t at v).banks ≡ t.banks
banks-after_write t at v =
    kept-with_held (λ u. u.banks) (with_held t 0 at v) 1 at v refl ∙ kept-with_held (λ u. u.banks) t 0 at v refl
