-- The cells of the twins, laid out from a list and gathered into one.
use Rattle.std.proofs.Common.{◌≡◌, ◌≢◌, ℕ, zero, suc, ◌+◌, subst, ◌<◌, Bool, true, false, cond, ◌&&◌, not, List, [], ◌∷◌, ◌++◌, All, length, get_or, set, refl, sym, ap, ◌∙◌, arith}
use Rattle.std.specs.Prelude.{◌==◌, nat_lt}
use Rattle.std.proofs.lemmas.Bool.{true≢false, eqb-true, eqb-false, eq-eqb, ltb-true, ltb-false, lt-ltb, and_from, and_parts}
use Rattle.std.proofs.lemmas.List.Elements.{All-nil, All-push, All-tail}
use Rattle.lvdc_word.specs.Cell.{code_of}
use Rattle.lvdc_map.specs.Address.{Spot, is_same}
use Rattle.lvdc_map.specs.Memory.{Memory, filled_with, stored, word_at}
use Rattle.lvdc_twin.specs.declared.held.Held.{Held}
use Rattle.lvdc_twin.specs.Cells.{NamesPlace, laid, cells_of, are_rising, Gathers}
use Rattle.lvdc_map.specs.Banks.{IsPlace}
use Rattle.lvdc_twin.specs.Store.{slot_of}
use Rattle.lvdc_twin.proofs.Places.{one_slot, slot_of_place, slot_set, slot-small}

-- ---- tests

pub differs : (a b : ℕ) → true ≡ not (a == b) → a ≢ b
differs a b e same = true≢false (e ∙ ap not (eq-eqb a b same))

pub same_as : (a b : ℕ) → false ≡ not (a == b) → a ≡ b
same_as a b e = by_case (a == b) refl
  where
    by_case : (t : Bool) → (a == b) ≡ t → a ≡ b
    by_case true f = eqb-true a b f
    by_case false f = absurd (true≢false (sym (e ∙ ap not f)))

-- ---- one cell more at the end of a list

laid-push : (held : List Held) (h : Held) (cells : ℕ → Memory) (twin : ℕ)
    → laid (held ++ h ∷ []) cells twin ≡ cond (twin == h.twin) (stored (laid held cells twin) h.at h.cell) (laid held cells twin)
laid-push [] h cells twin = refl
laid-push (k ∷ held) h cells twin = laid-push held h (λ w. cond (w == k.twin) (stored (cells w) k.at k.cell) (cells w)) twin

two_tests : (a : Bool) (m : Memory) (at place : Spot) (cell : ℕ) → cond a (stored m at cell) m place ≡ cond (a && is_same place at) cell (m place)
two_tests true m at place cell = refl
two_tests false m at place cell = refl

-- what a list with one cell more means
cells-push : (held : List Held) (h : Held) (twin : ℕ) (place : Spot)
    → word_at (cells_of (held ++ h ∷ []) twin) place ≡ cond (twin == h.twin && is_same place h.at) h.cell (word_at (cells_of held twin) place)
cells-push held h twin place =
    ap (λ (m : Memory). m place) (laid-push held h (λ w. filled_with (code_of 0)) twin)
    ∙ two_tests (twin == h.twin) (cells_of held twin) h.at place h.cell

-- ---- laid out

-- a table has the cells that a list means
abbrev pub HasLaid : List Held → List ℕ → Type 0
HasLaid held cells = (twin : ℕ) → twin < 2 → (place : Spot) → IsPlace place → get_or cells (slot_of twin place) 0 ≡ word_at (cells_of held twin) place

pub laid-more : (held : List Held) (h : Held) (cells : List ℕ) → length cells ≡ 32768 → h.twin < 2 → IsPlace h.at → HasLaid held cells
    → HasLaid (held ++ h ∷ []) (set cells (slot_of h.twin h.at) h.cell)
laid-more held h cells whole two here has twin two' place here' =
    slot_set cells twin h.twin place h.at h.cell 0 two' two here' here whole
    ∙ ap (cond (twin == h.twin && is_same place h.at) h.cell) (has twin two' place here')
    ∙ sym (cells-push held h twin place)

-- ---- gathered

pub none_below : (k x d : ℕ) → cond (nat_lt k 0) x d ≡ d
none_below k x d = by_case (nat_lt k 0) refl
  where
    by_case : (b : Bool) → nat_lt k 0 ≡ b → cond b x d ≡ d
    by_case true e = let less = ltb-true k 0 e in absurd (omega (arith, less))
    by_case false e = refl

pub all_below : (k n x d : ℕ) → k < n → cond (nat_lt k n) x d ≡ x
all_below k n x d less = ap (λ (b : Bool). cond b x d) (lt-ltb k n less)

-- one slot more
pub next_below : (k n x d : ℕ) → cond (nat_lt k (suc n)) x d ≡ cond (k == n) x (cond (nat_lt k n) x d)
next_below k n x d = by_case (nat_lt k n) (k == n) refl refl
  where
    by_case : (b same : Bool) → nat_lt k n ≡ b → (k == n) ≡ same → cond (nat_lt k (suc n)) x d ≡ cond same x (cond b x d)
    by_case true true e f = let less = ltb-true k n e in all_below k (suc n) x d (omega (arith, less))
    by_case true false e f = let less = ltb-true k n e in all_below k (suc n) x d (omega (arith, less))
    by_case false true e f = let same = eqb-true k n f in all_below k (suc n) x d (omega (arith, same))
    by_case false false e f = past (nat_lt k (suc n)) refl
      where
        past : (b : Bool) → nat_lt k (suc n) ≡ b → cond b x d ≡ d
        past true g =
            let less = ltb-true k (suc n) g in
            let most = ltb-false k n e in
            absurd (eqb-false k n f (omega (arith, less, most)))
        past false g = refl

pub gathers-none : (cells : List ℕ) → Gathers cells 0 []
gathers-none cells = record {
  rising = refl;
  places = All-nil NamesPlace;
  others = All-nil (λ h. h.cell ≢ code_of 0);
  below = All-nil (λ h. slot_of h.twin h.at < 0);
  cells = λ twin two place here. sym (none_below (slot_of twin place) (get_or cells (slot_of twin place) 0) (code_of 0));
}

-- a cell of the word 0 is left out
pub gathers-other : (cells : List ℕ) (n : ℕ) (held : List Held) → get_or cells n 0 ≡ code_of 0 → Gathers cells n held → Gathers cells (suc n) held
gathers-other cells n held none g = record {
  rising = g.rising;
  places = g.places;
  others = g.others;
  below = λ k d less. let before = g.below k d less in omega (arith, before);
  cells = λ twin two place here. g.cells twin two place here ∙ same (slot_of twin place) (slot_of twin place == n) refl ∙ sym (next_below (slot_of twin place) n (get_or cells (slot_of twin place) 0) (code_of 0));
}
  where
    same : (k : ℕ) (b : Bool) → (k == n) ≡ b → cond (nat_lt k n) (get_or cells k 0) (code_of 0) ≡ cond b (get_or cells k 0) (cond (nat_lt k n) (get_or cells k 0) (code_of 0))
    same k false e = refl
    same k true e = zero_at (nat_lt k n)
      where
        here : get_or cells k 0 ≡ code_of 0
        here = ap (λ (i : ℕ). get_or cells i 0) (eqb-true k n e) ∙ none

        zero_at : (b : Bool) → cond b (get_or cells k 0) (code_of 0) ≡ get_or cells k 0
        zero_at true = refl
        zero_at false = sym here

-- nor are any number of them
pub gathers-others : (more : ℕ) (cells : List ℕ) (n : ℕ) (held : List Held) → ((i : ℕ) → i < more → get_or cells (n + i) 0 ≡ code_of 0)
    → Gathers cells n held → Gathers cells (n + more) held
gathers-others zero cells n held none g = let same : n ≡ n + zero = omega arith in subst (λ (k : ℕ). Gathers cells k held) same g
gathers-others (suc more) cells n held none g =
    let first : get_or cells n 0 ≡ code_of 0 = (let at : n ≡ n + 0 = omega arith in ap (λ (k : ℕ). get_or cells k 0) at) ∙ none 0 (omega arith) in
    let rest = gathers-others more cells (suc n) held (λ i less. (let at : suc n + i ≡ n + suc i = omega arith in ap (λ (k : ℕ). get_or cells k 0) at)
    ∙ none (suc i) (omega arith)) (gathers-other cells n held first g) in
    let same : suc n + more ≡ n + suc more = omega arith in
    subst (λ (k : ℕ). Gathers cells k held) same rest

-- the tests of a slot
slot_test : (w twin : ℕ) (a b : Spot) → w < 2 → twin < 2 → IsPlace a → IsPlace b → (w == twin && is_same a b) ≡ (slot_of w a == slot_of twin b)
slot_test w twin a b hw ht ha hb = by_case (slot_of w a == slot_of twin b) refl
  where
    by_case : (t : Bool) → (slot_of w a == slot_of twin b) ≡ t → (w == twin && is_same a b) ≡ t
    by_case true e = one_slot w twin a b hw ht ha hb (eqb-true (slot_of w a) (slot_of twin b) e)
    by_case false e = other (w == twin && is_same a b) refl
      where
        other : (s : Bool) → (w == twin && is_same a b) ≡ s → s ≡ false
        other true f = absurd (eqb-false (slot_of w a) (slot_of twin b) e (slot_of_place w twin a b f))
        other false f = refl

rising-push : (held : List Held) (h : Held) (n : ℕ) → are_rising held ≡ true → All (λ k. slot_of k.twin k.at < n) held → slot_of h.twin h.at ≡ n
    → are_rising (held ++ h ∷ []) ≡ true
rising-push [] h n rising below is = refl
rising-push (k ∷ []) h n rising below is =
    let less = below 0 k (omega arith) in
    and_from (nat_lt (slot_of k.twin k.at) (slot_of h.twin h.at)) true (lt-ltb (slot_of k.twin k.at) (slot_of h.twin h.at) (omega (arith, less, is))) refl
rising-push (k ∷ j ∷ held) h n rising below is =
    let parts = and_parts (nat_lt (slot_of k.twin k.at) (slot_of j.twin j.at)) (are_rising (j ∷ held)) rising in
    and_from (nat_lt (slot_of k.twin k.at) (slot_of j.twin j.at)) (are_rising (j ∷ held ++ h ∷ [])) parts.0
    (rising-push (j ∷ held) h n parts.1 (All-tail (λ k. slot_of k.twin k.at < n) k (j ∷ held) below) is)

-- another cell is taken
pub gathers-more : (cells : List ℕ) (n : ℕ) (held : List Held) (h : Held) → NamesPlace h → IsPlace h.at → slot_of h.twin h.at ≡ n → h.cell ≡ get_or cells n 0
    → h.cell ≢ code_of 0 → Gathers cells n held → Gathers cells (suc n) (held ++ h ∷ [])
gathers-more cells n held h names there at is other g = record {
  rising = rising-push held h n g.rising g.below at;
  places = All-push NamesPlace held h g.places names;
  others = All-push (λ k. k.cell ≢ code_of 0) held h g.others other;
  below = All-push (λ k. slot_of k.twin k.at < suc n) held h (λ k d less. let before = g.below k d less in omega (arith, before)) (omega (arith, at));
  cells = λ twin two place here.
      cells-push held h twin place
      ∙ ap (λ (b : Bool). cond b h.cell (word_at (cells_of held twin) place)) (slot_test twin h.twin place h.at two names.twin here there ∙ ap (λ (k : ℕ). slot_of twin place == k) at)
      ∙ ap (cond (slot_of twin place == n) h.cell) (g.cells twin two place here)
      ∙ taken (slot_of twin place) (slot_of twin place == n) refl
      ∙ sym (next_below (slot_of twin place) n (get_or cells (slot_of twin place) 0) (code_of 0));
}
  where
    taken : (k : ℕ) (b : Bool) → (k == n) ≡ b
        → cond b h.cell (cond (nat_lt k n) (get_or cells k 0) (code_of 0)) ≡ cond b (get_or cells k 0) (cond (nat_lt k n) (get_or cells k 0) (code_of 0))
    taken k false e = refl
    taken k true e = is ∙ ap (λ (i : ℕ). get_or cells i 0) (sym (eqb-true k n e))

-- every slot was passed
pub gathers-all : (cells : List ℕ) (n : ℕ) (held : List Held) (twin : ℕ) (place : Spot) → n ≡ 32768 → twin < 2 → IsPlace place → Gathers cells n held
    → get_or cells (slot_of twin place) 0 ≡ word_at (cells_of held twin) place
gathers-all cells n held twin place all two here g =
    let small = slot-small twin place two here in
    sym (g.cells twin two place here ∙ all_below (slot_of twin place) n (get_or cells (slot_of twin place) 0) (code_of 0) (omega (arith, small, all)))
