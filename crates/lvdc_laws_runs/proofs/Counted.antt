-- In a step without active events all copies of a module latch the same words, so none is counted.
use Rattle.std.proofs.Common.{◌≡◌, ℕ, zero, suc, ◌+◌, true, false, not, ◌&&◌, List, [], ◌∷◌, length, slice_index, refl, sym, ap, ◌∙◌, inl, arith, add-zero, Result, Ok, Err}
use Rattle.std.specs.declared.option.Option.{Option}
use Rattle.std.specs.declared.option.Option.TheVariants.{None, Some}
use Rattle.std.proofs.lemmas.Bool.{eq-eqb}
use Rattle.lvdc_word.specs.Word.{bit_of}
use Rattle.lvdc_map.specs.Address.{Spot}
use Rattle.lvdc_twin.specs.declared.both_bad.BothBad.{BothBad}
use Rattle.lvdc_twin.specs.declared.read_out.ReadOut.{ReadOut}
use Rattle.lvdc_vote.specs.Copies.{Copies, settled}
use Rattle.lvdc_vote.specs.Latches.{majority_of, same_words}
use Rattle.lvdc_modules.specs.Rows.{rows}
use Rattle.lvdc_modules.specs.declared.bus.Bus.{Bus}
use Rattle.lvdc_modules.specs.declared.wanted.Wanted.{Wanted}
use Rattle.lvdc_modules.specs.declared.wanted.Wanted.TheVariants.{Nothing, Fetch, Operand, Store, PortRead, PortWrite}
use Rattle.lvdc_fault.specs.Script.{active_events}
use Rattle.lvdc_fault.specs.declared.event.Event.{Event}
use Rattle.lvdc_fault.specs.declared.verdict.Verdict.{Verdict}
use Rattle.lvdc_fault.specs.declared.verdict.Verdict.TheVariants.{Admissible, Logic, Memory}
use Rattle.lvdc_model.specs.declared.outcome.Outcome.{Outcome}
use Rattle.lvdc_model.specs.Trial.{Trial}
use Rattle.lvdc_model.specs.Twins.{read_answer}
use Rattle.lvdc_model.specs.Voted.{Voted, next_three, next_copies, counted_three, counted}
use Rattle.lvdc_model.specs.Exchanges.{begin_step, reading, exchanges, wished, voted_step}
use Rattle.lvdc_model.specs.Judging.{judged}
use Rattle.lvdc_model.specs.Runs.{judged_by, guarded_by, guarded}
use Rattle.lvdc_model.proofs.Latching.{right_copy}
use Rattle.lvdc_laws_voted.proofs.Copies.{TwoVote}
use Rattle.lvdc_laws_runs.proofs.Idle.{wrong-none}

-- ---- three equal copies

same-itself : (words : List ℕ) → same_words words words ≡ true
same-itself [] = refl
same-itself (w ∷ ws) = λ i. eq-eqb w w refl i && same-itself ws i

-- none of three equal copies differs from its vote
none-differs : TwoVote → (words : List ℕ) → not (same_words words (majority_of words words words)) ≡ false
none-differs law words =
    ap (λ (vote : List ℕ). not (same_words words vote)) (law words words words words refl refl refl (inl (refl, refl)))
    ∙ ap not (same-itself words)

-- the counts of three copies
abbrev IsThree : List ℕ → Type 0
IsThree counts = counts ≡ slice_index counts 0 ∷ slice_index counts 1 ∷ slice_index counts 2 ∷ []

three-still : TwoVote → (words counts : List ℕ) → IsThree counts → counted_three (settled words words words) counts ≡ counts
three-still law words counts three =
    (λ i. (slice_index counts 0 + bit_of (none-differs law words i)) ∷ (slice_index counts 1 + bit_of (none-differs law words i))
    ∷ (slice_index counts 2 + bit_of (none-differs law words i)) ∷ [])
    ∙ (λ i. add-zero (slice_index counts 0) i ∷ add-zero (slice_index counts 1) i ∷ add-zero (slice_index counts 2) i ∷ [])
    ∙ sym three

-- ---- all modules

abbrev Threes : List (List ℕ) → Type 0
Threes [] = Unit {0}
Threes (three ∷ more) = IsThree three × Threes more

counted-threes : (copies : List Copies) (counts : List (List ℕ)) → Threes (counted copies counts)
counted-threes [] counts = tt
counted-threes (t ∷ ts) [] = tt
counted-threes (t ∷ ts) (three ∷ more) = (refl, counted-threes ts more)

counted-length : (copies : List Copies) (counts : List (List ℕ)) → length copies ≡ length counts → length (counted copies counts) ≡ length counts
counted-length [] [] e = refl
counted-length [] (three ∷ more) e = absurd (omega arith)
counted-length (t ∷ ts) [] e = refl
counted-length (t ∷ ts) (three ∷ more) e = let rest : length ts ≡ length more = omega arith in ap suc (counted-length ts more rest)

copies-length : (script : List Event) (step m : ℕ) (all : List (Bus → List ℕ)) (ts copies : List Copies) (bus : Bus) → length ts ≡ length all
    → length (next_copies script step m all ts copies bus) ≡ length all
copies-length script step m [] ts copies bus e = refl
copies-length script step m (row ∷ rest) [] copies bus e = absurd (omega arith)
copies-length script step m (row ∷ rest) (t ∷ ts) copies bus e =
    let fewer : length ts ≡ length rest = omega arith in ap suc (copies-length script step (m + 1) rest ts copies bus fewer)

module _ (law : TwoVote) (script : List Event) (step : ℕ) (none : active_events script step ≡ []) where
  three-alike : (m : ℕ) (row : Bus → List ℕ) (t : Copies) (copies : List Copies) (bus : Bus)
      → next_three script step m row t copies bus ≡ settled (row bus) (row bus) (row bus)
  three-alike m row t copies bus =
      let one = right_copy script step m 1 row t.one copies bus (wrong-none script step none m 1) in
      let two = right_copy script step m 2 row t.two copies bus (wrong-none script step none m 2) in
      let three = right_copy script step m 3 row t.three copies bus (wrong-none script step none m 3) in
      λ i. settled (one i) (two i) (three i)

  -- no copy that has latched is counted
  copies-still : (m : ℕ) (all : List (Bus → List ℕ)) (ts copies : List Copies) (bus : Bus) (counts : List (List ℕ)) → length ts ≡ length all
      → length counts ≡ length all → Threes counts → counted (next_copies script step m all ts copies bus) counts ≡ counts
  copies-still m [] ts copies bus [] sized counting threes = refl
  copies-still m [] ts copies bus (three ∷ more) sized counting threes = absurd (omega arith)
  copies-still m (row ∷ rest) [] copies bus counts sized counting threes = absurd (omega arith)
  copies-still m (row ∷ rest) (t ∷ ts) copies bus [] sized counting threes = absurd (omega arith)
  copies-still m (row ∷ rest) (t ∷ ts) copies bus (three ∷ more) sized counting threes =
      let fewer : length ts ≡ length rest = omega arith in
      let left : length more ≡ length rest = omega arith in
      let here = ap (λ (u : Copies). counted_three u three) (three-alike m row t copies bus) ∙ three-still law (row bus) three threes.0 in
      let later = copies-still (m + 1) rest ts copies bus more fewer left threes.1 in
      λ i. here i ∷ later i

-- ---- one step

-- the copies of seven modules, and three counts of each
pub record AreSeven (copies : List Copies) (counts : List (List ℕ)) : Type 0 where
  pub copies_are : length copies ≡ 7
  pub counts_are : length counts ≡ 7
  pub threes : Threes counts

module _ (script : List Event) (step : ℕ) (copies : List Copies) (counts : List (List ℕ)) (seven : AreSeven copies counts) (bus : Bus) where
  latched-seven : AreSeven (next_copies script step 1 rows copies copies bus) (counted (next_copies script step 1 rows copies copies bus) counts)
  latched-seven =
      let next = next_copies script step 1 rows copies copies bus in
      let sized : length next ≡ 7 = copies-length script step 1 rows copies copies bus seven.copies_are in
      record {
        copies_are = sized;
        counts_are = counted-length next counts (sized ∙ sym seven.counts_are) ∙ seven.counts_are;
        threes = counted-threes next counts;
      }

  latched-still : TwoVote → active_events script step ≡ [] → counted (next_copies script step 1 rows copies copies bus) counts ≡ counts
  latched-still law none = copies-still law script step none 1 rows copies copies bus counts seven.copies_are seven.counts_are seven.threes

module _ (o : Trial) (v : Voted) (seven : AreSeven v.copies v.counts) where
  read-seven : (r : Result ReadOut BothBad) (at : Spot) → AreSeven (reading r o v at).copies (reading r o v at).counts
  read-seven (Err bad) at = seven
  read-seven (Ok r) at = latched-seven o.script v.steps v.copies v.counts seven _

  pub made-seven : (w : Wanted) → AreSeven (exchanges o v w).copies (exchanges o v w).counts
  made-seven Nothing = latched-seven o.script v.steps v.copies v.counts seven _
  made-seven (Fetch at) = read-seven (read_answer o v.steps v.twins at) at
  made-seven (Operand at) = read-seven (read_answer o v.steps v.twins at) at
  made-seven (Store at word) = latched-seven o.script v.steps v.copies v.counts seven _
  made-seven (PortRead port) = latched-seven o.script v.steps v.copies v.counts seven _
  made-seven (PortWrite port word) = latched-seven o.script v.steps v.copies v.counts seven _

  module _ (law : TwoVote) (none : active_events o.script v.steps ≡ []) where
    read-still : (r : Result ReadOut BothBad) (at : Spot) → (reading r o v at).counts ≡ v.counts
    read-still (Err bad) at = refl
    read-still (Ok r) at = latched-still o.script v.steps v.copies v.counts seven _ law none

    made-still : (w : Wanted) → (exchanges o v w).counts ≡ v.counts
    made-still Nothing = latched-still o.script v.steps v.copies v.counts seven _ law none
    made-still (Fetch at) = read-still (read_answer o v.steps v.twins at) at
    made-still (Operand at) = read-still (read_answer o v.steps v.twins at) at
    made-still (Store at word) = latched-still o.script v.steps v.copies v.counts seven _ law none
    made-still (PortRead port) = latched-still o.script v.steps v.copies v.counts seven _ law none
    made-still (PortWrite port word) = latched-still o.script v.steps v.copies v.counts seven _ law none

    -- a step without active events counts nothing
    pub step-still : (voted_step o v).counts ≡ v.counts
    step-still = made-still (wished o v)

-- ---- the run

judged-seven : (o : Trial) (v : Voted) → AreSeven v.copies v.counts → (verdict : Verdict) → AreSeven (judged_by verdict o v).copies (judged_by verdict o v).counts
judged-seven o v seven Admissible = made-seven o v seven (wished o v)
judged-seven o v seven (Logic step m) = seven
judged-seven o v seven (Memory step at) = seven

next-seven : (o : Trial) (v : Voted) → AreSeven v.copies v.counts → (end : Option Outcome) → AreSeven (guarded_by end o v).copies (guarded_by end o v).counts
next-seven o v seven (Some e) = seven
next-seven o v seven None = judged-seven o (begin_step o v) seven (judged o v.steps)

pub run-seven : (o : Trial) (n : ℕ) → AreSeven (guarded o n).copies (guarded o n).counts
run-seven o zero = record { copies_are = refl; counts_are = refl; threes = (refl, (refl, (refl, (refl, (refl, (refl, (refl, tt))))))) }
run-seven o (suc n) = next-seven o (guarded o n) (run-seven o n) (guarded o n).end
