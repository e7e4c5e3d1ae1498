-- Where a binary search finds the place of a word among words whose addresses rise.
use Rattle.std.proofs.Common.{◌≡◌, ℕ, ◌+◌, ◌<◌, ◌≤◌, zero, suc, true, List, [], ◌∷◌, length, set, Result, Ok, Err, IfOk, IfErr, refl, sym, ap, arith}
use Rattle.std.specs.List.{insert}
use Rattle.std.specs.List.Sorted.{IsSearchInRange, IsBinarySearchResult, IsNonDecreasingBy}
use Rattle.std.specs.Ordering.{nat_cmp, ordering_index}
use Rattle.std.proofs.lemmas.Cmp.{ranked}
use Rattle.std.proofs.lemmas.Bool.{lt-ltb, le-ltb}
use Rattle.std.proofs.lemmas.Bool.Decides.{nat_tests}
use Rattle.std.proofs.lemmas.List.Sorted.{IsNonDecreasingBy-from_default}
use Rattle.lvdc_map.specs.Address.{number_of}
use Rattle.lvdc_map.specs.Memory.{are_rising}
use Rattle.lvdc_map.specs.declared.placed.Placed.{Placed}
use Rattle.lvdc_uplink.specs.Patching.{with_word, number_at, IsAt, IsGapFor}
use Rattle.lvdc_uplink.proofs.Placing.{RiseFrom, rise-zero}

-- what an index past the end reads
abbrev no_word : Placed
no_word = record { at = record { pair = 0; sector = 0; loc = 0 }; word = 0 }

rise_far : (least : ℕ) (words : List Placed) → RiseFrom least words → (j : ℕ) → j < length words → least ≤ number_at words j
rise_far least [] rise j within = absurd (omega arith)
rise_far least (p ∷ ps) rise zero within = rise.0
rise_far least (p ∷ ps) rise (suc j) within = omega (arith, rise.0, rise_far (number_of p.at + 1) ps rise.1 j (omega arith))

rise_between : (least : ℕ) (words : List Placed) → RiseFrom least words → (i j : ℕ) → i < j → j < length words → number_at words i < number_at words j
rise_between least [] rise i j before within = absurd (omega arith)
rise_between least (p ∷ ps) rise i zero before within = absurd (omega arith)
rise_between least (p ∷ ps) rise zero (suc j) before within = omega (arith, rise_far (number_of p.at + 1) ps rise.1 j (omega arith))
rise_between least (p ∷ ps) rise (suc i) (suc j) before within = rise_between (number_of p.at + 1) ps rise.1 i j (omega arith) (omega arith)

-- ---- at the place that is found

-- the word there has the address
replaced : (least : ℕ) (words : List Placed) → RiseFrom least words → (new : Placed) (i : ℕ) → i < length words → number_at words i ≡ number_of new.at
    → set words i new ≡ with_word words new
replaced least [] rise new i within here = absurd (omega arith)
replaced least (p ∷ ps) rise new zero within here =
    rw (le-ltb (number_of new.at) (number_of p.at) (omega (arith, here)), le-ltb (number_of p.at) (number_of new.at) (omega (arith, here))) refl
replaced least (p ∷ ps) rise new (suc i) within here =
    let far = rise_far (number_of p.at + 1) ps rise.1 i (omega arith) in
    rw (lt-ltb (number_of p.at) (number_of new.at) (omega (arith, far, here)))
    (ap (λ (ws : List Placed). p ∷ ws) (replaced (number_of p.at + 1) ps rise.1 new i (omega arith) here))

pub word_replaced : (words : List Placed) → are_rising words ≡ true → (new : Placed) (i : ℕ) → IsAt words (number_of new.at) i → set words i new ≡ with_word words new
word_replaced words rising new i at = replaced 0 words (rise-zero words rising) new i at.within at.here

-- no word there has the address
inserted : (words : List Placed) (new : Placed) (i : ℕ) → i ≤ length words → ((j : ℕ) → j < i → number_at words j < number_of new.at)
    → ((j : ℕ) → i ≤ j → j < length words → number_of new.at < number_at words j) → insert words i new ≡ with_word words new
inserted [] new zero within before after = refl
inserted [] new (suc i) within before after = absurd (omega arith)
inserted (p ∷ ps) new zero within before after =
    let here = after 0 (omega arith) (omega arith) in
    rw (le-ltb (number_of p.at) (number_of new.at) (omega (arith, here)), lt-ltb (number_of new.at) (number_of p.at) here) refl
inserted (p ∷ ps) new (suc i) within before after =
    rw (lt-ltb (number_of p.at) (number_of new.at) (before 0 (omega arith)))
    (ap (λ (ws : List Placed). p ∷ ws) (inserted ps new i (omega arith) (λ j below. before (suc j) (omega arith)) (λ j above in_range. after (suc j) (omega arith) (omega arith))))

pub word_inserted : (words : List Placed) (new : Placed) (i : ℕ) → IsGapFor words (number_of new.at) i → insert words i new ≡ with_word words new
word_inserted words new i gap = inserted words new i gap.within gap.before gap.after

module _ (words : List Placed) (rising : are_rising words ≡ true) (number : ℕ) where
  rise : RiseFrom 0 words
  rise = rise-zero words rising

  comparisons_rise : IsNonDecreasingBy (λ (p : Placed). ordering_index (nat_cmp (number_of p.at) number)) words
  comparisons_rise = IsNonDecreasingBy-from_default (λ (p : Placed). ordering_index (nat_cmp (number_of p.at) number)) words no_word (λ i j le in_range.
      let up : number_at words i ≤ number_at words j = grind (arith, rise_between 0 words rise i j, λ (same : i ≡ j). ap (number_at words) same) in
      grind (arith, nat_tests))

  -- a binary search by number ends at the word, or at the gap for it
  pub searched : (r : Result ℕ ℕ) → IsSearchInRange r (length words) → IsBinarySearchResult (λ (p : Placed). nat_cmp (number_of p.at) number) words r
      → record { found : IfOk r (IsAt words number); absent : IfErr r (IsGapFor words number) }
  searched (Ok i) within equal = record { found = record { within = within; here = ranked _ number _ (sym (equal no_word)) }; absent = tt }
  searched (Err i) within parted = record {
    found = tt;
    absent = record {
      within = within;
      before = λ j lower. ranked _ number _ (sym ((parted comparisons_rise).0 j no_word (omega arith) lower));
      after = λ j higher in_range. ranked _ number _ (sym ((parted comparisons_rise).1 j no_word higher in_range));
    };
  }
