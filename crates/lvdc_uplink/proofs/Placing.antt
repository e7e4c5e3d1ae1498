-- One word, and many, among words whose addresses rise.
use Rattle.std.proofs.Common.{◌≡◌, ℕ, ◌+◌, ◌<◌, ◌≤◌, Bool, true, false, List, [], ◌∷◌, ◌++◌, refl, subst, arith, if◌then◌else◌}
use Rattle.std.specs.Prelude.{nat_lt, All}
use Rattle.std.proofs.lemmas.Bool.{ltb-true, ltb-false, lt-ltb, and_parts}
use Rattle.std.proofs.lemmas.List.Elements.{All-nil, All-cons, All-head, All-tail}
use Rattle.lvdc_map.specs.Address.{number_of}
use Rattle.lvdc_map.specs.Memory.{are_rising}
use Rattle.lvdc_map.specs.declared.placed.Placed.{Placed}
use Rattle.lvdc_uplink.specs.Patching.{with_word, with_words}

-- the numbers of the addresses rise strictly, from this one on
abbrev pub RiseFrom : ℕ → List Placed → Type 0
RiseFrom least [] = Unit {0}
RiseFrom least (p ∷ ps) = (least ≤ number_of p.at) × RiseFrom (number_of p.at + 1) ps

pub rise_from : (least : ℕ) (p : Placed) (ps : List Placed) → least ≤ number_of p.at → are_rising (p ∷ ps) ≡ true → RiseFrom least (p ∷ ps)
rise_from least p [] low rising = (low, tt)
rise_from least p (q ∷ ps) low rising =
    let parts = and_parts (nat_lt (number_of p.at) (number_of q.at)) (are_rising (q ∷ ps)) rising in
    (low, rise_from (number_of p.at + 1) q ps (omega (arith, ltb-true (number_of p.at) (number_of q.at) parts.0)) parts.1)

pub rise-zero : (words : List Placed) → are_rising words ≡ true → RiseFrom 0 words
rise-zero [] rising = tt
rise-zero (p ∷ ps) rising = rise_from 0 p ps (omega arith) rising

pub rising-from : (least : ℕ) (words : List Placed) → RiseFrom least words → are_rising words ≡ true
rising-from least [] rise = refl
rising-from least (p ∷ []) rise = refl
rising-from least (p ∷ q ∷ ps) rise =
    rw (lt-ltb (number_of p.at) (number_of q.at) (omega (arith, rise.1.0))) (rising-from (number_of p.at + 1) (q ∷ ps) rise.1)

-- ---- one more word

with_word-by : (least : ℕ) (old : Placed) (words : List Placed) (new : Placed) → least ≤ number_of new.at → RiseFrom least (old ∷ words)
    → (number_of old.at < number_of new.at → RiseFrom (number_of old.at + 1) (with_word words new)) → (below above : Bool)
    → nat_lt (number_of old.at) (number_of new.at) ≡ below → nat_lt (number_of new.at) (number_of old.at) ≡ above
    → RiseFrom least (if below then old ∷ with_word words new else (if above then new ∷ old ∷ words else new ∷ words))
with_word-by least old words new low rise later true above b a = (rise.0, later (ltb-true (number_of old.at) (number_of new.at) b))
with_word-by least old words new low rise later false true b a = (low, (omega (arith, ltb-true (number_of new.at) (number_of old.at) a), rise.1))
with_word-by least old words new low rise later false false b a =
    let same : number_of old.at ≡ number_of new.at =
    omega (arith, ltb-false (number_of old.at) (number_of new.at) b, ltb-false (number_of new.at) (number_of old.at) a) in
    (low, subst (λ (n : ℕ). RiseFrom (n + 1) words) same rise.1)

pub with_word-rises : (least : ℕ) (words : List Placed) (new : Placed) → least ≤ number_of new.at → RiseFrom least words → RiseFrom least (with_word words new)
with_word-rises least [] new low rise = (low, tt)
with_word-rises least (old ∷ words) new low rise =
    with_word-by least old words new low rise (λ below. with_word-rises (number_of old.at + 1) words new (omega (arith, below)) rise.1)
    (nat_lt (number_of old.at) (number_of new.at)) (nat_lt (number_of new.at) (number_of old.at)) refl refl

pub with_word-rising : (words : List Placed) (new : Placed) → are_rising words ≡ true → are_rising (with_word words new) ≡ true
with_word-rising words new rising = rising-from 0 (with_word words new) (with_word-rises 0 words new (omega arith) (rise-zero words rising))

-- ---- more words

pub with_words-rising : (more words : List Placed) → are_rising words ≡ true → are_rising (with_words words more) ≡ true
with_words-rising [] words rising = rising
with_words-rising (new ∷ more) words rising = with_words-rising more (with_word words new) (with_word-rising words new rising)

pub with_words-append : (one more words : List Placed) → with_words words (one ++ more) ≡ with_words (with_words words one) more
with_words-append [] more words = refl
with_words-append (new ∷ one) more words = with_words-append one more (with_word words new)

-- what holds of the words and of the new ones holds of them together
module _ (P : Placed → Type 0) where
  with_word-all_by : (old : Placed) (words : List Placed) (new : Placed) → P new → All P (old ∷ words) → All P (with_word words new) → (below above : Bool)
      → All P (if below then old ∷ with_word words new else (if above then new ∷ old ∷ words else new ∷ words))
  with_word-all_by old words new here all later true above = All-cons P old (with_word words new) (All-head P old words all) later
  with_word-all_by old words new here all later false true = All-cons P new (old ∷ words) here all
  with_word-all_by old words new here all later false false = All-cons P new words here (All-tail P old words all)

  pub with_word-all : (words : List Placed) (new : Placed) → P new → All P words → All P (with_word words new)
  with_word-all [] new here all = All-cons P new [] here (All-nil P)
  with_word-all (old ∷ words) new here all =
      with_word-all_by old words new here all (with_word-all words new here (All-tail P old words all))
      (nat_lt (number_of old.at) (number_of new.at)) (nat_lt (number_of new.at) (number_of old.at))

  pub with_words-all : (more words : List Placed) → All P more → All P words → All P (with_words words more)
  with_words-all [] words new all = all
  with_words-all (p ∷ more) words new all =
      with_words-all more (with_word words p) (All-tail P p more new) (with_word-all words p (All-head P p more new) all)
