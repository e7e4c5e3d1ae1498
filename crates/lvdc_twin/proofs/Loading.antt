-- The words of an image, stored one after another.
use Rattle.std.proofs.Common.{◌≡◌, ℕ, zero, suc, ◌+◌, ◌*◌, ◌/◌, ◌%◌, ◌<◌, ◌≤◌, Bool, true, false, cond, not, ◌&&◌, List, [], ◌∷◌, ◌++◌, refl, sym, ap, ◌∙◌, arith, get_or, replicate}
use Rattle.std.specs.Prelude.{◌==◌, nat_lt}
use Rattle.std.proofs.lemmas.Bool.{eqb-true, eqb-false, eq-eqb, ne_eqb, ltb-true, ltb-false}
use Rattle.lvdc_word.specs.Cell.{code_of}
use Rattle.lvdc_map.specs.Address.{Spot, is_same}
use Rattle.lvdc_map.specs.Banks.{is_simplex, home, holds, held_at, IsPlace}
use Rattle.lvdc_map.specs.Memory.{Memory, word_at, stored, loaded, memory_of, filled_with}
use Rattle.lvdc_map.specs.declared.placed.Placed.{Placed}
use Rattle.lvdc_twin.specs.Store.{Store, IsStore, stored_in, stuck_in, is_dead}
use Rattle.lvdc_twin.specs.Calls.{Begins, after_write, with_held}
use Rattle.lvdc_twin.proofs.Writes.{and_false, kept-with_held, stored-after_write}

-- one word more
pub loaded-push : (image : List Placed) (p : Placed) (memory : Memory) → loaded (image ++ p ∷ []) memory ≡ stored (loaded image memory) p.at p.word
loaded-push [] p memory = refl
loaded-push (q ∷ image) p memory = loaded-push image p (stored memory q.at q.word)

-- a list of one value past its end too
pub get_or-same : {X : Type 0} (k n : ℕ) (d : X) → get_or (replicate k d) n d ≡ d
get_or-same zero n d = refl
get_or-same (suc k) zero d = refl
get_or-same (suc k) (suc n) d = get_or-same k n d

-- ---- which place of a twin is an address's

same_tests : (a b c d : ℕ) → (a ≡ b → c ≡ d) → (c ≡ d → a ≡ b) → (a == b) ≡ (c == d)
same_tests a b c d there back = by_case (a == b) refl
  where
    by_case : (t : Bool) → (a == b) ≡ t → t ≡ (c == d)
    by_case true e = sym (eq-eqb c d (there (eqb-true a b e)))
    by_case false e = sym (ne_eqb c d (λ same. eqb-false a b e (back same)))

same_order : (a b c d : ℕ) → (a ≡ b → c < d) → (c < d → a ≡ b) → (a == b) ≡ nat_lt c d
same_order a b c d there back = by_case (nat_lt c d) refl
  where
    by_case : (t : Bool) → nat_lt c d ≡ t → (a == b) ≡ t
    by_case true e = eq-eqb a b (back (ltb-true c d e))
    by_case false e = ne_eqb a b (λ same. below (there same) (ltb-false c d e))
      where
        below : c < d → d ≤ c → ⊥
        below h k = absurd (omega arith)

regroup : (h s l : Bool) → ((h && s) && l) ≡ (h && (s && l))
regroup true s l = refl
regroup false s l = refl

-- the bank that a twin holds at a place, by whether the pair is simplex
bank_held : (b : Bool) (twin pair bank : ℕ) → pair < 4 → pair ≡ bank % 4 → (cond b (pair + 4 * twin) pair == bank) ≡ cond b (twin == bank / 4) (nat_lt bank 4)
bank_held true twin pair bank small e = same_tests (pair + 4 * twin) bank twin (bank / 4) (λ s. omega arith) (λ s. omega arith)
bank_held false twin pair bank small e = same_order pair bank bank 4 (λ s. omega arith) (λ s. omega arith)

no_bank : (b : Bool) (twin pair bank : ℕ) → pair < 4 → (pair ≡ bank % 4 → ⊥) → (cond b (pair + 4 * twin) pair == bank) ≡ false
no_bank true twin pair bank small no' = ne_eqb (pair + 4 * twin) bank (λ s. no' (omega arith))
no_bank false twin pair bank small no' = ne_eqb pair bank (λ s. no' (omega arith))

-- an address is held at a place where the twin holds it and that is its place
pub held_there : (banks twin : ℕ) (place at : Spot) → IsPlace place → is_same (held_at banks twin place) at ≡ (holds banks twin at && is_same place (home at))
held_there banks twin place at h = by_case (place.pair == at.pair % 4) refl
  where
    rest : Bool
    rest = place.sector == at.sector

    last : Bool
    last = place.loc == at.loc

    by_case : (q : Bool) → (place.pair == at.pair % 4) ≡ q → ((held_at banks twin place).pair == at.pair && rest && last) ≡ (holds banks twin at && ((q && rest) && last))
    by_case true e =
        let same : place.pair ≡ at.pair % 4 = eqb-true place.pair (at.pair % 4) e in
        ap (λ (b : Bool). b && rest && last) (bank_held (is_simplex banks place.pair) twin place.pair at.pair h.pair same)
        ∙ ap (λ (p : ℕ). cond (is_simplex banks p) (twin == at.pair / 4) (nat_lt at.pair 4) && rest && last) same
        ∙ regroup (holds banks twin at) rest last
    by_case false e =
        ap (λ (b : Bool). b && rest && last) (no_bank (is_simplex banks place.pair) twin place.pair at.pair h.pair (eqb-false place.pair (at.pair % 4) e))
        ∙ sym (and_false (holds banks twin at))

-- ---- one word of the image more

code_by : (b : Bool) (v x : ℕ) → cond b (code_of v) (code_of x) ≡ code_of (cond b v x)
code_by true v x = refl
code_by false v x = refl

kept_by : {X : Type 0} (F : Store → X) → (t : Store) (at : Spot) (v : ℕ) → ((u : Store) (twin : ℕ) → F (with_held u twin at v) ≡ F u) → F (after_write t at v) ≡ F t
kept_by F t at v same = same (with_held t 0 at v) 1 ∙ same t 0

pub begins-more : (banks : ℕ) (image : List Placed) (p : Placed) (t : Store) → IsStore t → IsPlace (home p.at) → Begins banks image t → Begins banks (image ++ p ∷ []) (after_write t p.at p.word)
begins-more banks image p t whole home_place h =
    record {
      banks_are = kept_by (λ u. u.banks) t p.at p.word (λ u twin. kept-with_held (λ s. s.banks) u twin p.at p.word refl) ∙ h.banks_are;
      cells = cells;
      stuck = λ twin place. kept_by (λ u. stuck_in u twin place) t p.at p.word (λ u w. kept-with_held (λ s. stuck_in s twin place) u w p.at p.word refl) ∙ h.stuck twin place;
      dead = λ twin pair. kept_by (λ u. is_dead u twin pair) t p.at p.word (λ u w. kept-with_held (λ s. is_dead s twin pair) u w p.at p.word refl) ∙ h.dead twin pair;
      selected = kept_by (λ u. u.selected) t p.at p.word (λ u w. kept-with_held (λ s. s.selected) u w p.at p.word refl) ∙ h.selected;
    }
  where
    cells : (twin : ℕ) → twin < 2 → (place : Spot) → IsPlace place
        → stored_in (after_write t p.at p.word) twin place ≡ code_of (word_at (memory_of (image ++ p ∷ [])) (held_at banks twin place))
    cells twin two place hp =
        let held = held_at banks twin place in
        stored-after_write t p.at p.word twin place whole two home_place hp
        ∙ ap (λ (d : Bool). cond (holds t.banks twin p.at && (not d && is_same place (home p.at))) (code_of p.word) (stored_in t twin place)) (h.dead twin (p.at.pair % 4))
        ∙ ap (λ (b : ℕ). cond (holds b twin p.at && is_same place (home p.at)) (code_of p.word) (stored_in t twin place)) h.banks_are
        ∙ ap (λ (b : Bool). cond b (code_of p.word) (stored_in t twin place)) (sym (held_there banks twin place p.at hp))
        ∙ ap (cond (is_same held p.at) (code_of p.word)) (h.cells twin two place hp)
        ∙ code_by (is_same held p.at) p.word (word_at (memory_of image) held)
        ∙ ap (λ (m : Memory). code_of (word_at m held)) (sym (loaded-push image p (filled_with 0)))
