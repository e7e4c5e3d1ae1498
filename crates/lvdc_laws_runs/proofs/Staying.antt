-- The rest of a run that has joined the plain run is the plain run.
use Rattle.std.proofs.Common.{◌≡◌, ℕ, zero, suc, ◌-◌, ◌/◌, ◌%◌, ◌^◌, ◌<◌, ◌≤◌, ◌⊎◌, inl, inr, Bool, true, false, cond, [], ◌++◌, slice_index, refl, sym, ap, ◌∙◌, subst, arith, Result, Ok, Err}
use Rattle.std.specs.declared.option.Option.{Option}
use Rattle.std.specs.declared.option.Option.TheVariants.{None, Some}
use Rattle.std.proofs.lemmas.Bool.{cases_lt}
use Rattle.std.proofs.lemmas.List.{append-nil}
use Rattle.lvdc_word.specs.Cell.{code_of, is_good, word_in}
use Rattle.lvdc_word.proofs.Parity.{good-code}
use Rattle.lvdc_map.specs.Address.{Spot}
use Rattle.lvdc_map.specs.Banks.{is_simplex, holds, HasBank}
use Rattle.lvdc_map.specs.Memory.{word_at}
use Rattle.lvdc_twin.specs.Calls.{answer_by_one, answer_by_two}
use Rattle.lvdc_twin.specs.declared.both_bad.BothBad.{BothBad}
use Rattle.lvdc_twin.specs.declared.read_out.ReadOut.{ReadOut}
use Rattle.lvdc_modules.specs.declared.wanted.Wanted.{Wanted}
use Rattle.lvdc_modules.specs.declared.wanted.Wanted.TheVariants as wanted
use Rattle.lvdc_plain.specs.Accesses.{fetched, operand}
use Rattle.lvdc_plain.specs.Plain.{PlainState, World}
use Rattle.lvdc_fault.specs.Script.{active_events}
use Rattle.lvdc_fault.specs.declared.verdict.Verdict.{Verdict}
use Rattle.lvdc_fault.specs.declared.verdict.Verdict.TheVariants.{Admissible}
use Rattle.lvdc_laws_phases.specs.Exchanges.{read_wish, exchange_in, made}
use Rattle.lvdc_laws_phases.specs.Standing.{Standing}
use Rattle.lvdc_model.specs.declared.outcome.Outcome.{Outcome}
use Rattle.lvdc_model.specs.Trial.{Trial, plain_in, read_at, read_in_phase}
use Rattle.lvdc_model.specs.CellsBefore.{shown_at, shown_with}
use Rattle.lvdc_model.specs.Twins.{shows, answer_by, read_answer}
use Rattle.lvdc_model.specs.Voted.{Voted}
use Rattle.lvdc_model.specs.Exchanges.{begin_step, repair_by, reading, exchanges, voted_step}
use Rattle.lvdc_model.specs.Judging.{is_recoverable, judged, judged_memory, judged_logic, is_begun, first_bad_below}
use Rattle.lvdc_model.specs.Runs.{read_of_wish, judged_by, guarded_by, guarded}
use Rattle.lvdc_laws_voted.specs.Ends.{Opens, IsBegun}
use Rattle.lvdc_laws_voted.specs.Laws.{StepLaws}
use Rattle.lvdc_laws_voted.specs.Relation.{IsOnCourse, Halted, Follows, Goes, Halts}
use Rattle.lvdc_laws_voted.proofs.Copies.{TwoVote}
use Rattle.lvdc_laws_voted.proofs.Join.{bank-read}
use Rattle.lvdc_laws_voted.proofs.Places.{DuplexLaw}
use Rattle.lvdc_laws_voted.proofs.PlainRuns.{stays-world}
use Rattle.lvdc_laws_voted.proofs.PlainTimes.{made-reads_none}
use Rattle.lvdc_laws_voted.proofs.Recovered.{recovered-code}
use Rattle.lvdc_laws_voted.proofs.Run.{begun-at, follows, guarded-stays, kept-here, or_else-first}
use Rattle.lvdc_laws_voted.proofs.Steps.{HasBanks}
use Rattle.lvdc_laws_runs.specs.Joined.{StoresWords, HasJoined, StaysJoined}
use Rattle.lvdc_laws_runs.proofs.Idle.{LeavesMemory, none-after, module-none, leaves-none}
use Rattle.lvdc_laws_runs.proofs.Counted.{run-seven, step-still}
use Rattle.lvdc_laws_runs.proofs.Spared.{words-next, word-shown}

-- what holds at a number, and at each next one from there on, holds from there on
pub from-on : (P : ℕ → Type 0) (first : ℕ) → P first → ((n : ℕ) → first ≤ n → P n → P (suc n)) → (n : ℕ) → first ≤ n → P n
from-on P first base next zero le = let none : first ≡ 0 = omega (arith, le) in subst P none base
from-on P first base next (suc n) le = by_order (cases_lt n first) (from-on P first base next n)
  where
    by_order : (n < first) ⊎ (first ≤ n) → (first ≤ n → P n) → P (suc n)
    by_order (inl early) before = let same : first ≡ suc n = omega (arith, early, le) in subst P same base
    by_order (inr later) before = next n later (before later)

-- ---- a read that repairs nothing

abbrev RepairsNone : Result ReadOut BothBad → Type 0
RepairsNone (Ok r) = r.repaired ≡ None
RepairsNone (Err bad) = Unit {0}

notes-none : (o : Trial) (v : Voted) (at : Spot) (r : Result ReadOut BothBad) → RepairsNone r → (reading r o v at).repairs ≡ v.repairs
notes-none o v at (Err bad) none = refl
notes-none o v at (Ok r) none =
    ap (λ (twin : Option ℕ). v.repairs ++ repair_by twin v.steps at r.switched) none ∙ append-nil v.repairs

one-repairs-none : (cell : ℕ) → RepairsNone (answer_by_one cell)
one-repairs-none cell = by_good (is_good cell)
  where
    by_good : (b : Bool) → RepairsNone (cond b (Ok (record { word = word_in cell; repaired = None; switched = false })) (Err (record {})))
    by_good true = refl
    by_good false = tt

two-repair-none : (selected mine others : ℕ) → is_good mine ≡ true → is_good others ≡ true → RepairsNone (answer_by_two selected mine others)
two-repair-none selected mine others first second = rw (first, second) refl

-- a step that reads nothing notes nothing
quiet : (o : Trial) (v : Voted) (w : Wanted) → read_of_wish w ≡ None → (exchanges o v w).repairs ≡ v.repairs
quiet o v wanted.Nothing h = refl
quiet o v (wanted.Fetch at) h = absurd (cc)
quiet o v (wanted.Operand at) h = absurd (cc)
quiet o v (wanted.Store at word) h = refl
quiet o v (wanted.PortRead port) h = refl
quiet o v (wanted.PortWrite port word) h = refl

-- ---- a step of a run that has joined

module _ (law : StepLaws Standing) (two : TwoVote) (duplex : DuplexLaw) (o : Trial) where
  module _ (n : ℕ) (none : active_events o.script n ≡ []) (stores : StoresWords o n) where
    leaves : LeavesMemory o.script n
    leaves = leaves-none o.script n none

    -- the word of each address can be recovered
    recoverable : (at : Spot) → HasBank o.opening.banks at → is_recoverable o n at ≡ true
    recoverable at bank =
        let w = word_at (plain_in o n).memory at in
        law.holders o.opening.banks at w (λ twin. shown_at o twin at n) (λ twin. code_of w) bank (λ twin small held. word-shown o n leaves stores twin small at held)
        ∙ recovered-code o.opening.banks at w

    nothing-said : (r : Option Spot) → HasBanks o.opening.banks r → judged_memory o n r ≡ Admissible
    nothing-said None bank = refl
    nothing-said (Some at) bank = rw (recoverable at bank) refl

    pub judged-admissible : HasBanks o.opening.banks (read_at o n) → judged o n ≡ Admissible
    judged-admissible bank = ap (judged_logic o n) (module-none o.script n none) ∙ nothing-said (read_at o n) bank

  -- a read of the memory repairs nothing
  module _ (v : Voted) (none : active_events o.script v.steps ≡ []) (stores : StoresWords o v.steps) (begun : IsBegun o v.steps v)
      (small : (at : Spot) → word_at (plain_in o v.steps).memory at < 2 ^ 26) where
    good-shown : (at : Spot) (twin : ℕ) → twin < 2 → holds o.opening.banks twin at ≡ true → is_good (shows o v.steps v.twins twin at) ≡ true
    good-shown at twin few held =
        ap is_good
        (ap (shown_with o v.steps twin at) (begun.cells.cells twin few at held)
        ∙ word-shown o v.steps (leaves-none o.script v.steps none) stores twin few at held)
        ∙ good-code (word_at (plain_in o v.steps).memory at) (small at)

    answer-repairs-none : (at : Spot) → HasBank o.opening.banks at → RepairsNone (read_answer o v.steps v.twins at)
    answer-repairs-none at bank = by_simplex (is_simplex o.opening.banks (at.pair % 4)) refl
      where
        selected : ℕ
        selected = slice_index v.twins.selected (at.pair % 4)

        few : selected < 2
        few = begun.cells.selected (at.pair % 4)

        by_simplex : (s : Bool) → is_simplex o.opening.banks (at.pair % 4) ≡ s → RepairsNone (answer_by s o v.steps v.twins at)
        by_simplex true simplex = one-repairs-none (shows o v.steps v.twins (at.pair / 4) at)
        by_simplex false both =
            let other : 1 - selected < 2 = omega arith in
            two-repair-none selected (shows o v.steps v.twins selected at) (shows o v.steps v.twins (1 - selected) at)
            (good-shown at selected few (duplex o.opening.banks selected at bank both))
            (good-shown at (1 - selected) other (duplex o.opening.banks (1 - selected) at bank both))

    reads-none : (make : Spot → Wanted) → ((at : Spot) → exchanges o v (make at) ≡ reading (read_answer o v.steps v.twins at) o v at)
        → (r : Option Spot) → HasBanks o.opening.banks r → (exchanges o v (read_wish make r)).repairs ≡ v.repairs
    reads-none make is None bank = refl
    reads-none make is (Some at) bank =
        ap (λ (u : Voted). u.repairs) (is at) ∙ notes-none o v at (read_answer o v.steps v.twins at) (answer-repairs-none at bank)

    phase-none : (phase : ℕ) → HasBanks o.opening.banks (read_in_phase phase (plain_in o v.steps))
        → (exchanges o v (exchange_in phase (plain_in o v.steps))).repairs ≡ v.repairs
    phase-none zero bank = reads-none wanted.Fetch (λ at. refl) (fetched (plain_in o v.steps)) bank
    phase-none (suc zero) bank = reads-none wanted.Operand (λ at. refl) (operand (plain_in o v.steps)) bank
    phase-none (suc (suc phase)) bank =
        let p : PlainState = plain_in o v.steps in
        quiet o v (made p.stop p.hold p) (made-reads_none p.stop p.hold p)

    pub repairs-none : HasBanks o.opening.banks (read_at o v.steps) → (voted_step o v).repairs ≡ v.repairs
    repairs-none bank = ap (λ (w : Wanted). (exchanges o v w).repairs) begun.wish ∙ phase-none (v.steps % 3) bank

  -- ---- the run

  module _ (opens : Opens Standing o) (step : ℕ) (joined : HasJoined o step) where
    -- so far it has stayed so, and the twins store the words
    record SoFar (n : ℕ) : Type 0 where
      stays : StaysJoined o step n
      stores : StoresWords o n

    idle : (n : ℕ) → step ≤ n → active_events o.script n ≡ []
    idle n later = none-after step n later o.script joined.over

    module _ (n : ℕ) (later : step ≤ n) (far : SoFar n) where
      abbrev v : Voted
      v = guarded o n

      abbrev u : Voted
      u = begin_step o v

      -- the verdict of all steps up to this one
      verdict_is : first_bad_below o (suc n) ≡ cond (is_begun o n) (judged o n) Admissible
      verdict_is = or_else-first (first_bad_below o n) (cond (is_begun o n) (judged o n) Admissible) far.stays.admissible

      either : (b : Bool) → judged o n ≡ Admissible → cond b (judged o n) Admissible ≡ Admissible
      either true e = e
      either false e = refl

      next-words : StoresWords o (suc n)
      next-words = words-next law.ports o n (leaves-none o.script n (idle n later)) far.stores

      goes : v.steps ≡ n → IsOnCourse Standing o n v → SoFar (suc n)
      goes steps kept = record {
        stays = record {
          admissible = verdict_is ∙ either (is_begun o n) here;
          counts = ap (λ (x : Voted). x.counts) next ∙ step-still o u (run-seven o n) two none_here ∙ far.stays.counts;
          repairs = ap (λ (x : Voted). x.repairs) next ∙ repairs-none u none_here stores_here begun small bank_here ∙ far.stays.repairs;
        };
        stores = next-words;
      }
        where
          kept_here : IsOnCourse Standing o v.steps v
          kept_here = kept-here Standing o n v steps kept

          none_here : active_events o.script v.steps ≡ []
          none_here = ap (active_events o.script) steps ∙ idle n later

          stores_here : StoresWords o v.steps
          stores_here = subst (StoresWords o) (sym steps) far.stores

          bank_here : HasBanks o.opening.banks (read_at o v.steps)
          bank_here = bank-read Standing o v law kept_here

          here : judged o n ≡ Admissible
          here = judged-admissible n (idle n later) far.stores (subst (λ (m : ℕ). HasBanks o.opening.banks (read_at o m)) steps bank_here)

          next : guarded o (suc n) ≡ voted_step o u
          next =
              ap (λ (end : Option Outcome). guarded_by end o v) kept.going
              ∙ ap (λ (verdict : Verdict). judged_by verdict o u) (ap (judged o) steps ∙ here)

          begun : IsBegun o v.steps u
          begun = begun-at Standing o v.steps v law refl kept_here

          small : (at : Spot) → word_at (plain_in o v.steps).memory at < 2 ^ 26
          small = (law.phases.words (v.steps % 3) kept_here.states (plain_in o v.steps) kept_here.stands).words

      halts : v.steps ≤ n → Halted o v.steps v → SoFar (suc n)
      halts le halted = record {
        stays = record {
          admissible = verdict_is ∙ rw stopped refl;
          counts = ap (λ (x : Voted). x.counts) same ∙ far.stays.counts;
          repairs = ap (λ (x : Voted). x.repairs) same ∙ far.stays.repairs;
        };
        stores = next-words;
      }
        where
          same : guarded o (suc n) ≡ v
          same = guarded-stays v.end o v _ halted.ended

          stopped : (plain_in o n).stop ≡ Some halted.why
          stopped =
              ap (λ (w : World). w.plain.stop) (stays-world law.stopped o.opening (v.steps / 3) halted.why halted.stopped (n / 3) (omega arith))
              ∙ halted.stopped

      goes-on : Follows Standing o n v → SoFar (suc n)
      goes-on (Goes steps kept) = goes steps kept
      goes-on (Halts le halted) = halts le halted

    so-far : (n : ℕ) → step ≤ n → SoFar n
    so-far =
        from-on SoFar step
        (record { stays = record { admissible = joined.admissible; counts = refl; repairs = refl }; stores = joined.stores })
        (λ n later far. goes-on n later far (follows Standing o law opens n far.stays.admissible))

    pub stays-joined : (n : ℕ) → step ≤ n → StaysJoined o step n
    stays-joined n later = (so-far n later).stays
