-- A copy that tells the exchange what it votes is never counted, whatever it tells others.
use Rattle.std.proofs.Common.{◌≡◌, ℕ, zero, suc, ◌-◌, ◌≤◌, false, not, List, [], ◌∷◌, map, refl, sym, ap, subst, ◌∙◌, arith, inl, inr, ◌⊎◌, replicate}
use Rattle.std.specs.Prelude.{slice_index, slice_index_or}
use Rattle.std.specs.declared.option.Option.{Option}
use Rattle.std.specs.declared.option.Option.TheVariants.{None, Some}
use Rattle.lvdc_vote.proofs.Votes.{same_words-Decides}
use Rattle.lvdc_vote.specs.Copies.{Copies, copy_of, vote_of, differs_of}
use Rattle.lvdc_modules.specs.declared.wanted.Wanted.{Wanted}
use Rattle.lvdc_model.specs.declared.outcome.Outcome.{Outcome}
use Rattle.lvdc_model.specs.Trial.{Trial}
use Rattle.lvdc_model.specs.Voted.{Voted, thrice, counted, count_of}
use Rattle.lvdc_model.specs.Exchanges.{begin_step, exchanges}
use Rattle.lvdc_laws_failures.specs.Listeners.{Exchange, Three, told_by_three}
use Rattle.lvdc_laws_failures.specs.Split.{Split, Run, Adversary}
use Rattle.lvdc_laws_failures.specs.Steps.{all_sound, split_by, run_by, split_run}
use Rattle.lvdc_laws_failures.specs.Limits.{three_of, TellsTheVote}
use Rattle.lvdc_laws_failures.proofs.Exchanged.{IsFound, found-or, split-found, split-lost, is-left}

-- ---- one count

-- a list differs from none that is the same
not-differs : (t : Copies) (copy : ℕ) → copy_of t copy ≡ vote_of t → differs_of t copy ≡ false
not-differs t copy e = ap not ((same_words-Decides (copy_of t copy) (vote_of t)).1 e)

-- the count of a copy that doesn't differ stays 0
counted-at : (ts : List Copies) (counts : List (List ℕ)) (index copy : ℕ) → differs_of (slice_index_or ts index (thrice [])) copy ≡ false
    → slice_index (slice_index_or counts index []) copy ≡ 0 → slice_index (slice_index_or (counted ts counts) index []) copy ≡ 0
counted-at [] counts index copy d h = refl
counted-at (t ∷ ts) [] index copy d h = refl
counted-at (t ∷ ts) (three ∷ counts) zero zero d h = rw (d, h) refl
counted-at (t ∷ ts) (three ∷ counts) zero (suc zero) d h = rw (d, h) refl
counted-at (t ∷ ts) (three ∷ counts) zero (suc (suc zero)) d h = rw (d, h) refl
counted-at (t ∷ ts) (three ∷ counts) zero (suc (suc (suc copy))) d h = refl
counted-at (t ∷ ts) (three ∷ counts) (suc index) copy d h = counted-at ts counts index copy d h

-- what a module's copies tell the exchange, in the list of all
told-at : (copies : List Three) (index : ℕ) → slice_index_or (map (told_by_three Exchange) copies) index (thrice []) ≡ told_by_three Exchange (slice_index_or copies index (all_sound []))
told-at [] index = refl
told-at (t ∷ ts) zero = refl
told-at (t ∷ ts) (suc index) = told-at ts index

-- ---- all steps

-- the exchange hears what it is told, and the count is 0
pub record IsUncounted (m c : ℕ) (s : Split) : Type 0 where
  pub heard : s.voted.copies ≡ map (told_by_three Exchange) s.copies
  pub count : count_of s.voted.counts m c ≡ 0

-- a copy tells the vote of its module
abbrev pub TellsIn : ℕ → ℕ → Split → Type 0
TellsIn m c s = copy_of (told_by_three Exchange (three_of s.copies m)) (c - 1) ≡ vote_of (told_by_three Exchange (three_of s.copies m))

-- one that does is not counted in a step
step-uncounted : (o : Trial) (m c : ℕ) (copies : List Three) (run : Run) (b : Voted) (w : Wanted) → IsUncounted m c run.now → b.copies ≡ run.now.voted.copies → b.counts ≡ run.now.voted.counts
    → IsFound (exchanges o b w).end ⊎ (IsFound (exchanges o b w).end → ⊥)
    → TellsIn m c (split_by (exchanges o b w).end copies run b (exchanges o b w)) → IsUncounted m c (split_by (exchanges o b w).end copies run b (exchanges o b w))
step-uncounted o m c copies run b w h same_copies same_counts (inl found) =
    subst (λ (s : Split). TellsIn m c s → IsUncounted m c s) (sym (split-found (exchanges o b w).end copies run b (exchanges o b w) found))
    (λ tells. record {
      heard = refl;
      count =
          counted-at (map (told_by_three Exchange) copies) b.counts (m - 1) (c - 1)
          (ap (λ (t : Copies). differs_of t (c - 1)) (told-at copies (m - 1)) ∙ not-differs (told_by_three Exchange (three_of copies m)) (c - 1) tells)
          (ap (λ (counts : List (List ℕ)). count_of counts m c) same_counts ∙ h.count);
    })
step-uncounted o m c copies run b w h same_copies same_counts (inr lost) =
    let left = is-left o b w lost in
    subst (λ (s : Split). TellsIn m c s → IsUncounted m c s) (sym (split-lost (exchanges o b w).end copies run b (exchanges o b w) lost))
    (λ tells. record {
      heard = left.copies ∙ same_copies ∙ h.heard;
      count = ap (λ (counts : List (List ℕ)). count_of counts m c) (left.counts ∙ same_counts) ∙ h.count;
    })

pub next-uncounted : (end : Option Outcome) (o : Trial) (a : Adversary) (run : Run) (m c : ℕ) → IsUncounted m c run.now → TellsIn m c (run_by end o a run).now → IsUncounted m c (run_by end o a run).now
next-uncounted None o a run m c h tells = step-uncounted o m c _ run (begin_step o run.now.voted) _ h refl refl (found-or _) tells
next-uncounted (Some e) o a run m c h tells = h

-- at the start none is counted
three-zeros : (copy : ℕ) → slice_index (0 ∷ 0 ∷ 0 ∷ []) copy ≡ 0
three-zeros zero = refl
three-zeros (suc zero) = refl
three-zeros (suc (suc zero)) = refl
three-zeros (suc (suc (suc copy))) = refl

pub no-counts : (n index copy : ℕ) → slice_index (slice_index_or (replicate n (0 ∷ 0 ∷ 0 ∷ [])) index []) copy ≡ 0
no-counts zero index copy = refl
no-counts (suc n) zero copy = three-zeros copy
no-counts (suc n) (suc index) copy = no-counts n index copy

-- so it is never counted
pub unseen : (o : Trial) (a : Adversary) (n m c : ℕ) → ((k : ℕ) → k ≤ n → TellsTheVote o a k m c) → IsUncounted m c (split_run o a n).now
unseen o a zero m c tells = record { heard = refl; count = no-counts 7 (m - 1) (c - 1) }
unseen o a (suc n) m c tells =
    next-uncounted (split_run o a n).now.voted.end o a (split_run o a n) m c (unseen o a n m c (λ k le. tells k (omega arith))) (tells (suc n) (omega arith))
