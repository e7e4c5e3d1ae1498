-- Where no copy of a module differs from the vote, each is what the vote is.
use Rattle.std.proofs.Common.{◌≡◌, ℕ, zero, suc, ◌<◌, Bool, true, false, not, ◌&&◌, ◌∷◌, [], refl, arith}
use Rattle.std.proofs.lemmas.Bool.{and_parts}
use Rattle.lvdc_vote.specs.Copies.{Copies, copy_of, vote_of, differs_of}
use Rattle.lvdc_vote.specs.Latches.{same_words}
use Rattle.lvdc_vote.proofs.Votes.{same_words-Decides}
use Rattle.lvdc_logic.specs.Latching.{AreAlike}
use Rattle.lvdc_logic.specs.declared.triples.Triples.{Triples}

abbrev pub IsUnanimous : Copies → Type 0
IsUnanimous t = (not (differs_of t 0) && not (differs_of t 1) && not (differs_of t 2)) ≡ true

is_vote : (t : Copies) (copy : ℕ) → not (differs_of t copy) ≡ true → copy_of t copy ≡ vote_of t
is_vote t copy e = (same_words-Decides (copy_of t copy) (vote_of t)).0 (twice (same_words (copy_of t copy) (vote_of t)) e)
  where
    twice : (b : Bool) → not (not b) ≡ true → b ≡ true
    twice true h = refl
    twice false h = h

pub copy-votes : (t : Copies) (copy : ℕ) → copy < 3 → IsUnanimous t → copy_of t copy ≡ vote_of t
copy-votes t copy small e =
    let first = and_parts (not (differs_of t 0) && not (differs_of t 1)) (not (differs_of t 2)) e in
    let two = and_parts (not (differs_of t 0)) (not (differs_of t 1)) first.0 in
    by copy small two.0 two.1 first.1
  where
    by : (copy : ℕ) → copy < 3 → not (differs_of t 0) ≡ true → not (differs_of t 1) ≡ true → not (differs_of t 2) ≡ true → copy_of t copy ≡ vote_of t
    by zero small a b c = is_vote t 0 a
    by (suc zero) small a b c = is_vote t 1 b
    by (suc (suc zero)) small a b c = is_vote t 2 c
    by (suc (suc (suc n))) small a b c = absurd (omega (arith, small))

pub are-alike : (t : Triples) → IsUnanimous t.timer → IsUnanimous t.locator → IsUnanimous t.decoder → IsUnanimous t.selector → IsUnanimous t.accumulator
    → IsUnanimous t.multiplier → IsUnanimous t.exchange → AreAlike t
are-alike t timer locator decoder selector accumulator multiplier exchange copy small =
    λ i. copy-votes t.timer copy small timer i ∷ copy-votes t.locator copy small locator i ∷ copy-votes t.decoder copy small decoder i
    ∷ copy-votes t.selector copy small selector i ∷ copy-votes t.accumulator copy small accumulator i
    ∷ copy-votes t.multiplier copy small multiplier i ∷ copy-votes t.exchange copy small exchange i ∷ []
