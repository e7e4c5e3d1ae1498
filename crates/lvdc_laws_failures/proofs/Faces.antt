-- Copies that tell the exchange what a sound copy would are never counted, whatever they tell each other.
use Rattle.std.proofs.Common.{◌≡◌, ℕ, zero, suc, ◌+◌, ◌-◌, ◌≤◌, Bool, true, false, cond, List, [], ◌∷◌, length, map, refl, sym, ap, subst, ◌∙◌, arith, inl, inr, ◌⊎◌}
use Rattle.std.specs.Prelude.{◌==◌, slice_index, slice_index_or}
use Rattle.std.specs.declared.option.Option.{Option}
use Rattle.std.specs.declared.option.Option.TheVariants.{None, Some}
use Rattle.lvdc_plain.specs.Run.{IsOpening}
use Rattle.lvdc_vote.proofs.Votes.{majority_of-first}
use Rattle.lvdc_vote.specs.Copies.{Copies, chosen, settled, copy_of, vote_of}
use Rattle.lvdc_vote.specs.Numbers.{latches_of}
use Rattle.lvdc_modules.specs.Rows.{rows, bus_of, start_latches}
use Rattle.lvdc_modules.specs.Timer.{timer_row}
use Rattle.lvdc_modules.specs.declared.bus.Bus.{Bus}
use Rattle.lvdc_fault.specs.declared.verdict.Verdict.TheVariants.{Admissible}
use Rattle.lvdc_model.specs.declared.outcome.Outcome.{Outcome}
use Rattle.lvdc_model.specs.Trial.{Trial}
use Rattle.lvdc_model.specs.Judging.{first_bad_below}
use Rattle.lvdc_model.specs.Voted.{Voted, votes, count_of}
use Rattle.lvdc_model.specs.Exchanges.{begin_step, exchanges, wished}
use Rattle.lvdc_model.specs.Runs.{guarded}
use Rattle.lvdc_laws_failures.specs.Listeners.{Listener, Copy, Exchange, Sound, Failed, Three, told, told_by_three, all_heard}
use Rattle.lvdc_laws_failures.specs.Split.{Split, Run, Adversary}
use Rattle.lvdc_laws_failures.specs.Steps.{words_from, all_sound, next_copies, memory_word, answer_word, split_from, run_by, split_run, voted_after}
use Rattle.lvdc_laws_failures.specs.Limits.{two_faced}
use Rattle.lvdc_laws_failures.specs.Laws.{OneOfEach}
use Rattle.lvdc_laws_failures.proofs.Exchanged.{IsFound, found-or, split-found, split-lost}
use Rattle.lvdc_laws_failures.proofs.Masking.{Cited, both-admissible, heard-beside, votes-beside, beside}
use Rattle.lvdc_laws_failures.proofs.Scripted.{words-list}
use Rattle.lvdc_laws_failures.proofs.Telling.{RowsFit, rows-fit}
use Rattle.lvdc_laws_failures.proofs.Unseen.{IsUncounted, no-counts, next-uncounted}

-- ---- three copies that tell the exchange the same

record IsOne (t : Three) : Type 0 where
  words : List ℕ
  all : told_by_three Exchange t ≡ settled words words words

chosen-same : (words : List ℕ) (copy : ℕ) → chosen words words words copy ≡ words
chosen-same words copy = by_tests (copy == 0) (copy == 1)
  where
    by_tests : (p q : Bool) → cond p words (cond q words words) ≡ words
    by_tests true q = refl
    by_tests false true = refl
    by_tests false false = refl

-- each tells the vote
one-tells : (t : Three) (copy : ℕ) → IsOne t → copy_of (told_by_three Exchange t) copy ≡ vote_of (told_by_three Exchange t)
one-tells t copy one =
    ap (λ (u : Copies). copy_of u copy) one.all ∙ chosen-same one.words copy ∙ sym (majority_of-first one.words one.words refl) ∙ sym (ap vote_of one.all)

-- ---- a step

-- the words that come in it
abbrev memory_in : Trial → Run → ℕ
memory_in o run = memory_word o (begin_step o run.now.voted) (wished o (begin_step o run.now.voted))

abbrev port_in : Trial → Run → ℕ
port_in o run = answer_word (begin_step o run.now.voted) (wished o (begin_step o run.now.voted))

module _ (o : Trial) (fails : Run → ℕ → ℕ → Bool) (likes : Run → ℕ → ℕ → ℕ → ℕ → ℕ → ℕ) (run : Run)
    (hears : (listener : Listener) → all_heard listener run.now.copies ≡ votes run.now.voted) where
  face : (failed : Bool) (m c : ℕ) (row : Bus → List ℕ) → ((b : Bus) → length (row b) ≡ latches_of m) → slice_index_or rows (m - 1) timer_row ≡ row
      → told Exchange (cond failed (Failed (λ listener. words_from ((two_faced o fails likes).says run m c listener) 0 (latches_of m))) (Sound (row (bus_of (all_heard (Copy m c) run.now.copies) (memory_in o run) (port_in o run)))))
      ≡ row (bus_of (votes run.now.voted) (memory_in o run) (port_in o run))
  face true m c row fits is =
      ap (λ (r : Bus → List ℕ). words_from (slice_index (r (bus_of (votes run.now.voted) (memory_in o run) (port_in o run)))) 0 (latches_of m)) is
      ∙ words-list (row (bus_of (votes run.now.voted) (memory_in o run) (port_in o run))) (latches_of m) (fits _)
  face false m c row fits is = ap (λ (states : List (List ℕ)). row (bus_of states (memory_in o run) (port_in o run))) (hears (Copy m c))

  next-one : (m : ℕ) (rs : List (Bus → List ℕ)) → 1 ≤ m → RowsFit m rs → ((i : ℕ) → slice_index_or rows (m - 1 + i) timer_row ≡ slice_index_or rs i timer_row)
      → (i : ℕ) → IsOne (slice_index_or (next_copies (two_faced o fails likes) run m rs (memory_in o run) (port_in o run)) i (all_sound []))
  next-one m [] low fits rest i = record { words = []; all = refl }
  next-one m (r ∷ rs) low fits rest zero =
      let here : slice_index_or rows (m - 1) timer_row ≡ r = ap (λ (k : ℕ). slice_index_or rows k timer_row) (omega arith) ∙ rest 0 in
      record {
        words = r (bus_of (votes run.now.voted) (memory_in o run) (port_in o run));
        all = rw (face (fails run m 1) m 1 r fits.0 here, face (fails run m 2) m 2 r fits.0 here, face (fails run m 3) m 3 r fits.0 here) refl;
      }
  next-one m (r ∷ rs) low fits rest (suc i) =
      next-one (m + 1) rs (omega arith) fits.1 (λ j. ap (λ (k : ℕ). slice_index_or rows k timer_row) (omega arith) ∙ rest (suc j)) i

  -- so after a step, whatever end it has
  split-one : (before : (i : ℕ) → IsOne (slice_index_or run.now.copies i (all_sound []))) → (i : ℕ)
      → IsOne (slice_index_or (split_from o (two_faced o fails likes) run (begin_step o run.now.voted)).copies i (all_sound []))
  split-one before i = by_end (found-or (exchanges o b (wished o b)).end)
    where
      b : Voted
      b = begin_step o run.now.voted

      after : Split
      after = split_from o (two_faced o fails likes) run b

      by_end : IsFound (exchanges o b (wished o b)).end ⊎ (IsFound (exchanges o b (wished o b)).end → ⊥) → IsOne (slice_index_or after.copies i (all_sound []))
      by_end (inl found) =
          subst (λ (s : Split). IsOne (slice_index_or s.copies i (all_sound []))) (sym (split-found (exchanges o b (wished o b)).end _ run b (exchanges o b (wished o b)) found))
          (next-one 1 rows (omega arith) rows-fit (λ j. ap (λ (k : ℕ). slice_index_or rows k timer_row) (omega arith)) i)
      by_end (inr lost) =
          subst (λ (s : Split). IsOne (slice_index_or s.copies i (all_sound []))) (sym (split-lost (exchanges o b (wished o b)).end _ run b (exchanges o b (wished o b)) lost)) (before i)

  next-run : (end : Option Outcome) → ((i : ℕ) → IsOne (slice_index_or run.now.copies i (all_sound []))) → (i : ℕ)
      → IsOne (slice_index_or (run_by end o (two_faced o fails likes) run).now.copies i (all_sound []))
  next-run None before i = split-one before i
  next-run (Some e) before i = before i

-- ---- a run

start-one : (copies : List (List ℕ)) (i : ℕ) → IsOne (slice_index_or (map all_sound copies) i (all_sound []))
start-one [] i = record { words = []; all = refl }
start-one (x ∷ xs) zero = record { words = x; all = refl }
start-one (x ∷ xs) (suc i) = start-one xs i

record IsFaced (m c : ℕ) (s : Split) : Type 0 where
  one : (i : ℕ) → IsOne (slice_index_or s.copies i (all_sound []))
  uncounted : IsUncounted m c s

faced : Cited → (o : Trial) (fails : Run → ℕ → ℕ → Bool) (likes : Run → ℕ → ℕ → ℕ → ℕ → ℕ → ℕ) → IsOpening o.opening → (n : ℕ) → first_bad_below o n ≡ Admissible
    → OneOfEach o (two_faced o fails likes) n → (m c : ℕ) → IsFaced m c (split_run o (two_faced o fails likes) n).now
faced law o fails likes ok zero good few m c = record { one = start-one (start_latches o.opening.start); uncounted = record { heard = refl; count = no-counts 7 (m - 1) (c - 1) } }
faced law o fails likes ok (suc n) good few m c =
    let a : Adversary = two_faced o fails likes in
    let run : Run = split_run o (two_faced o fails likes) n in
    let parts = both-admissible (first_bad_below o n) _ good in
    let few_before : OneOfEach o (two_faced o fails likes) n = λ step lt. few step (omega arith) in
    let before = faced law o fails likes ok n parts.0 few_before m c in
    let h = beside law o (two_faced o fails likes) ok n parts.0 few_before in
    let hears : (listener : Listener) → all_heard listener run.now.copies ≡ votes run.now.voted = λ listener. heard-beside law.votes run (guarded o n) h listener ∙ sym (votes-beside law.votes run (guarded o n) h) in
    let one = next-run o fails likes run hears run.now.voted.end before.one in
    record { one = one; uncounted = next-uncounted run.now.voted.end o (two_faced o fails likes) run m c before.uncounted (one-tells _ (c - 1) (one (m - 1))) }

pub never-counted : Cited → (o : Trial) (fails : Run → ℕ → ℕ → Bool) (likes : Run → ℕ → ℕ → ℕ → ℕ → ℕ → ℕ) → IsOpening o.opening → (n : ℕ) → first_bad_below o n ≡ Admissible
    → OneOfEach o (two_faced o fails likes) n → (m c : ℕ) → count_of (voted_after o (two_faced o fails likes) n).counts m c ≡ 0
never-counted law o fails likes ok n good few m c = (faced law o fails likes ok n good few m c).uncounted.count
