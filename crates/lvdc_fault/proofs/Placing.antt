-- The intended words, gathered into a list, and that there are none where the bank isn't there.
use Rattle.std.proofs.Common.{◌≡◌, ◌≢◌, ℕ, zero, suc, ◌+◌, ◌<◌, subst, Bool, true, false, cond, List, [], ◌∷◌, ◌++◌, All, get_or, set, refl, sym, ap, ◌∙◌, arith}
use Rattle.std.specs.Prelude.{◌==◌, nat_lt}
use Rattle.std.proofs.lemmas.Bool.{true≢false, eqb-true, eqb-false, lt-ltb, and_from, and_parts}
use Rattle.std.proofs.lemmas.List.{get_or-set_other}
use Rattle.std.proofs.lemmas.List.Elements.{All-nil, All-push, All-tail, All-head}
use Rattle.lvdc_map.specs.Address.{Spot, IsAddress, is_same, number_of}
use Rattle.lvdc_map.specs.Banks.{is_there}
use Rattle.lvdc_map.specs.Memory.{Memory, filled_with, stored, loaded, word_at, memory_of, are_rising, AllThere, IsMemory}
use Rattle.lvdc_map.specs.declared.placed.Placed.{Placed}
use Rattle.lvdc_map.proofs.Addresses.{same-spot}
use Rattle.lvdc_twin.proofs.Holding.{none_below, all_below, next_below}
use Rattle.lvdc_twin.proofs.Loading.{loaded-push}
use Rattle.lvdc_twin.proofs.Places.{same-from}
use Rattle.lvdc_fault.specs.Ledger.{NoneElsewhere, GathersWords}

-- ---- where no bank is

-- an address that is there isn't one that isn't
not_there : (banks : ℕ) (a b : Spot) → is_there banks a ≡ true → is_there banks b ≡ false → is_same b a ≡ false
not_there banks a b here there = by_case (is_same b a) refl
  where
    by_case : (t : Bool) → is_same b a ≡ t → t ≡ false
    by_case true e = absurd (true≢false (sym here ∙ ap (is_there banks) (sym (same-spot b a e)) ∙ there))
    by_case false e = refl

-- an image leaves it as it was
loaded-elsewhere : (banks : ℕ) (image : List Placed) (m : Memory) (at : Spot) → AllThere banks image → is_there banks at ≡ false
    → word_at (loaded image m) at ≡ word_at m at
loaded-elsewhere banks [] m at all none = refl
loaded-elsewhere banks (p ∷ image) m at all none =
    loaded-elsewhere banks image (stored m p.at p.word) at (All-tail (λ q. is_there banks q.at ≡ true) p image all) none
    ∙ ap (λ (b : Bool). cond b p.word (m at)) (not_there banks p.at at (All-head (λ q. is_there banks q.at ≡ true) p image all) none)

pub image-elsewhere : (banks : ℕ) (image : List Placed) (words : List ℕ) → AllThere banks image → IsMemory words (memory_of image) → NoneElsewhere banks words
image-elsewhere banks image words all is at ok none = is.same at ok ∙ loaded-elsewhere banks image (filled_with 0) at all none

-- ---- numbers of addresses

one_number : (a b : Spot) → IsAddress a → IsAddress b → number_of a ≡ number_of b → is_same a b ≡ true
one_number a b ha hb e =
    let pa : a.pair < 8 = ha.pair in
    let sa : a.sector < 16 = ha.sector in
    let la : a.loc < 256 = ha.loc in
    let pb : b.pair < 8 = hb.pair in
    let sb : b.sector < 16 = hb.sector in
    let lb : b.loc < 256 = hb.loc in
    same-from a b (omega arith) (omega arith) (omega arith)

pub number_test : (a b : Spot) → IsAddress a → IsAddress b → is_same a b ≡ (number_of a == number_of b)
number_test a b ha hb = by_case (number_of a == number_of b) refl
  where
    by_case : (t : Bool) → (number_of a == number_of b) ≡ t → is_same a b ≡ t
    by_case true e = one_number a b ha hb (eqb-true (number_of a) (number_of b) e)
    by_case false e = other (is_same a b) refl
      where
        other : (s : Bool) → is_same a b ≡ s → s ≡ false
        other true f = absurd (eqb-false (number_of a) (number_of b) e (ap number_of (same-spot a b f)))
        other false f = refl

-- a word stored where the bank is there
pub wrote-elsewhere : (banks : ℕ) (words : List ℕ) (at : Spot) (w : ℕ) → IsAddress at → is_there banks at ≡ true → NoneElsewhere banks words
    → NoneElsewhere banks (set words (number_of at) w)
wrote-elsewhere banks words at w here there h other ok none =
    get_or-set_other words (number_of at) (number_of other) w 0
    (λ same. true≢false (sym (one_number other at ok here same) ∙ not_there banks at other there none))
    ∙ h other ok none

-- ---- gathered

pub words-none : (banks : ℕ) (words : List ℕ) → GathersWords banks words 0 []
words-none banks words = record {
  rising = refl;
  addresses = All-nil (λ p. IsAddress p.at);
  there = All-nil (λ p. is_there banks p.at ≡ true);
  others = All-nil (λ p. p.word ≢ 0);
  below = All-nil (λ p. number_of p.at < 0);
  words = λ at ok. sym (none_below (number_of at) (get_or words (number_of at) 0) 0);
}

-- a word 0 is left out
pub words-other : (banks : ℕ) (words : List ℕ) (n : ℕ) (placed : List Placed) → get_or words n 0 ≡ 0 → GathersWords banks words n placed
    → GathersWords banks words (suc n) placed
words-other banks words n placed none g = record {
  rising = g.rising;
  addresses = g.addresses;
  there = g.there;
  others = g.others;
  below = λ k d less. let before = g.below k d less in omega (arith, before);
  words = λ at ok. g.words at ok ∙ same (number_of at) (number_of at == n) refl ∙ sym (next_below (number_of at) n (get_or words (number_of at) 0) 0);
}
  where
    same : (k : ℕ) (b : Bool) → (k == n) ≡ b → cond (nat_lt k n) (get_or words k 0) 0 ≡ cond b (get_or words k 0) (cond (nat_lt k n) (get_or words k 0) 0)
    same k false e = refl
    same k true e = zero_at (nat_lt k n)
      where
        here : get_or words k 0 ≡ 0
        here = ap (λ (i : ℕ). get_or words i 0) (eqb-true k n e) ∙ none

        zero_at : (b : Bool) → cond b (get_or words k 0) 0 ≡ get_or words k 0
        zero_at true = refl
        zero_at false = sym here

-- and so is any number of them
pub words-others : (more banks : ℕ) (words : List ℕ) (n : ℕ) (placed : List Placed) → ((i : ℕ) → i < more → get_or words (n + i) 0 ≡ 0)
    → GathersWords banks words n placed → GathersWords banks words (n + more) placed
words-others zero banks words n placed none g = let same : n ≡ n + zero = omega arith in subst (λ (k : ℕ). GathersWords banks words k placed) same g
words-others (suc more) banks words n placed none g =
    let first : get_or words n 0 ≡ 0 = (let at : n ≡ n + 0 = omega arith in ap (λ (k : ℕ). get_or words k 0) at) ∙ none 0 (omega arith) in
    let rest = words-others more banks words (suc n) placed (λ i less. (let at : suc n + i ≡ n + suc i = omega arith in ap (λ (k : ℕ). get_or words k 0) at)
    ∙ none (suc i) (omega arith)) (words-other banks words n placed first g) in
    let same : suc n + more ≡ n + suc more = omega arith in
    subst (λ (k : ℕ). GathersWords banks words k placed) same rest

rising-push : (placed : List Placed) (p : Placed) (n : ℕ) → are_rising placed ≡ true → All (λ q. number_of q.at < n) placed → number_of p.at ≡ n
    → are_rising (placed ++ p ∷ []) ≡ true
rising-push [] p n rising below is = refl
rising-push (q ∷ []) p n rising below is =
    let less = below 0 q (omega arith) in
    and_from (nat_lt (number_of q.at) (number_of p.at)) true (lt-ltb (number_of q.at) (number_of p.at) (omega (arith, less, is))) refl
rising-push (q ∷ r ∷ placed) p n rising below is =
    let parts = and_parts (nat_lt (number_of q.at) (number_of r.at)) (are_rising (r ∷ placed)) rising in
    and_from (nat_lt (number_of q.at) (number_of r.at)) (are_rising (r ∷ placed ++ p ∷ [])) parts.0
    (rising-push (r ∷ placed) p n parts.1 (All-tail (λ q. number_of q.at < n) q (r ∷ placed) below) is)

-- another word is taken
pub words-more : (banks : ℕ) (words : List ℕ) (n : ℕ) (placed : List Placed) (p : Placed) → IsAddress p.at → NoneElsewhere banks words → number_of p.at ≡ n
    → p.word ≡ get_or words n 0 → p.word ≢ 0 → GathersWords banks words n placed → GathersWords banks words (suc n) (placed ++ p ∷ [])
words-more banks words n placed p here elsewhere at is other g = record {
  rising = rising-push placed p n g.rising g.below at;
  addresses = All-push (λ q. IsAddress q.at) placed p g.addresses here;
  there = All-push (λ q. is_there banks q.at ≡ true) placed p g.there (by_bank (is_there banks p.at) refl);
  others = All-push (λ q. q.word ≢ 0) placed p g.others other;
  below = All-push (λ q. number_of q.at < suc n) placed p (λ k d less. let before = g.below k d less in omega (arith, before)) (omega (arith, at));
  words = λ spot ok.
      ap (λ (m : Memory). m spot) (loaded-push placed p (filled_with 0))
      ∙ ap (λ (b : Bool). cond b p.word (word_at (memory_of placed) spot)) (number_test spot p.at ok here ∙ ap (λ (k : ℕ). number_of spot == k) at)
      ∙ ap (cond (number_of spot == n) p.word) (g.words spot ok)
      ∙ taken (number_of spot) (number_of spot == n) refl
      ∙ sym (next_below (number_of spot) n (get_or words (number_of spot) 0) 0);
}
  where
    by_bank : (b : Bool) → is_there banks p.at ≡ b → is_there banks p.at ≡ true
    by_bank true e = e
    by_bank false e = absurd (other (is ∙ ap (λ (k : ℕ). get_or words k 0) (sym at) ∙ elsewhere p.at here e))

    taken : (k : ℕ) (b : Bool) → (k == n) ≡ b → cond b p.word (cond (nat_lt k n) (get_or words k 0) 0) ≡ cond b (get_or words k 0) (cond (nat_lt k n) (get_or words k 0) 0)
    taken k false e = refl
    taken k true e = is ∙ ap (λ (i : ℕ). get_or words i 0) (sym (eqb-true k n e))

-- every word was passed
pub words-all : (banks : ℕ) (words : List ℕ) (n : ℕ) (placed : List Placed) (at : Spot) → n ≡ 32768 → IsAddress at → GathersWords banks words n placed
    → get_or words (number_of at) 0 ≡ word_at (memory_of placed) at
words-all banks words n placed at all ok g =
    let small : number_of at < 32768 = omega (arith, ok.pair, ok.sector, ok.loc) in
    sym (g.words at ok ∙ all_below (number_of at) n (get_or words (number_of at) 0) 0 (omega (arith, small, all)))
