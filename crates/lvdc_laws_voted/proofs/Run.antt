-- The guarded run follows the plain run until the first step that is not admissible, and ends there.
use Rattle.std.proofs.Common.{◌≡◌, ℕ, zero, suc, ◌+◌, ◌/◌, ◌%◌, ◌<◌, Bool, false, cond, List, [], ◌∷◌, slice_index, inl, inr, subst, refl, sym, ap, ◌∙◌, arith, suc-add, zero-add, ◌⊎◌}
use Rattle.std.specs.declared.option.Option.{Option}
use Rattle.std.specs.declared.option.Option.TheVariants.{None, Some}
use Rattle.lvdc_word.specs.Cell.{code_of}
use Rattle.lvdc_map.specs.Address.{Spot}
use Rattle.lvdc_map.specs.Memory as memory
use Rattle.lvdc_modules.specs.declared.wanted.Wanted.{Wanted}
use Rattle.lvdc_modules.specs.declared.wanted.Wanted.TheVariants.{Fetch, Operand}
use Rattle.lvdc_plain.specs.Plain.{PlainState, World}
use Rattle.lvdc_fault.specs.Script.{wrong_module}
use Rattle.lvdc_fault.specs.Recoverable.{is_recovered}
use Rattle.lvdc_fault.specs.declared.verdict.Verdict.{Verdict}
use Rattle.lvdc_fault.specs.declared.verdict.Verdict.TheVariants as verdicts
use Rattle.lvdc_laws_phases.specs.Exchanges.{exchange_in, read_wish}
use Rattle.lvdc_modules.specs.Rows.{start_latches}
use Rattle.lvdc_laws_phases.specs.States.{ShowsRegisters}
use Rattle.lvdc_model.specs.declared.outcome.Outcome.{Outcome}
use Rattle.lvdc_model.specs.declared.outcome.Outcome.TheVariants as outcomes
use Rattle.lvdc_model.specs.Trial.{Trial, plain_in, read_at, read_in_phase}
use Rattle.lvdc_model.specs.CellsBefore.{shown_at, shown_with}
use Rattle.lvdc_model.specs.Twins.{shows}
use Rattle.lvdc_model.specs.Voted.{Voted, thrice, voted_start}
use Rattle.lvdc_model.specs.Judging.{judged, judged_logic, judged_memory, is_begun, or_else, first_bad_below}
use Rattle.lvdc_model.specs.Exchanges.{begin_step, with_end, wished, voted_step}
use Rattle.lvdc_model.specs.Runs.{judged_by, guarded_by, guarded, read_of_wish, own_memory, own_logic, own_verdict}
use Rattle.lvdc_laws_voted.specs.Copies.{ModuleAgrees, wrong_before}
use Rattle.lvdc_laws_voted.specs.Cells.{StoresDamaged}
use Rattle.lvdc_laws_voted.specs.Laws.{HoldersLaw, StepLaws}
use Rattle.lvdc_laws_voted.specs.Relation.{IsOnCourse, Follows, Goes, Halts}
use Rattle.lvdc_laws_voted.specs.Ends.{Opens, IsBegun, EndsAt, Comes, Good, Bad}
use Rattle.lvdc_laws_voted.proofs.Places.{held-again}
use Rattle.lvdc_laws_voted.proofs.PlainTimes.{made-reads_none}
use Rattle.lvdc_laws_voted.proofs.PlainRuns.{stays-world}
use Rattle.lvdc_laws_voted.proofs.Steps.{HasBanks, admissible}
use Rattle.lvdc_laws_voted.proofs.Join.{unplugged, wished-plain, bank-read, one-step}

-- ---- what the machine finds by itself is the verdict

-- the address that a wish reads is that of the plain machine
wish-reads : (make : Spot → Wanted) (r : Option Spot) → ((at : Spot) → read_of_wish (make at) ≡ Some at) → read_of_wish (read_wish make r) ≡ r
wish-reads make None e = refl
wish-reads make (Some at) e = e at

exchange-reads : (n : ℕ) (p : PlainState) → read_of_wish (exchange_in n p) ≡ read_in_phase n p
exchange-reads zero p = wish-reads Fetch _ (λ at. refl)
exchange-reads (suc zero) p = wish-reads Operand _ (λ at. refl)
exchange-reads (suc (suc n)) p = made-reads_none p.stop p.hold p

-- what the machine says of an address is what script and plain run say
found-memory : HoldersLaw → (o : Trial) (v : Voted) (r : Option Spot) → HasBanks o.opening.banks r
    → StoresDamaged o v.steps v.twins → v.intended ≡ (plain_in o v.steps).memory → own_memory o v r ≡ judged_memory o v.steps r
found-memory law o v None bank h e = refl
found-memory law o v (Some at) bank h e =
    ap (λ (m : memory.Memory). cond (is_recovered o.opening.banks at (memory.word_at m at) (λ twin. shows o v.steps v.twins twin at)) verdicts.Admissible (verdicts.Memory v.steps at)) e
    ∙ ap (λ (t : Bool). cond t verdicts.Admissible (verdicts.Memory v.steps at))
    (law o.opening.banks at (memory.word_at (plain_in o v.steps).memory at) (λ twin. shows o v.steps v.twins twin at) (λ twin. shown_at o twin at v.steps) bank
    (λ twin two held. ap (shown_with o v.steps twin at) (h.cells twin two at held)))

-- the verdict that the machine finds is the step's
pub found-judged : (Stands : ℕ → List (List ℕ) → PlainState → Type 0) (o : Trial) (v : Voted) → StepLaws Stands → IsOnCourse Stands o v.steps v
    → own_verdict o (begin_step o v) ≡ judged o v.steps
found-judged Stands o v law k = by_logic (wrong_module o.script v.steps)
  where
    reads : read_of_wish (wished o (begin_step o v)) ≡ read_at o v.steps
    reads = ap read_of_wish (wished-plain Stands o v law k) ∙ exchange-reads (v.steps % 3) (plain_in o v.steps)

    by_logic : (m : Option ℕ) → own_logic o (begin_step o v) m ≡ judged_logic o v.steps m
    by_logic (Some m) = refl
    by_logic None =
        ap (own_memory o (begin_step o v)) reads
        ∙ found-memory law.holders o (begin_step o v) (read_at o v.steps) (bank-read Stands o v law k) (law.damage o v.steps v.twins k.matches.stores) k.matches.intended

-- ---- a step that is begun

-- a machine that stands before a step begins it as the relation says
pub begun-at : (Stands : ℕ → List (List ℕ) → PlainState → Type 0) (o : Trial) (n : ℕ) (v : Voted) → StepLaws Stands → v.steps ≡ n → IsOnCourse Stands o v.steps v
    → IsBegun o n (begin_step o v)
begun-at Stands o n v law e k =
    subst (λ (m : ℕ). IsBegun o m (begin_step o v)) e
    (record {
      steps = refl;
      registers = subst (λ (s : List (List ℕ)). ShowsRegisters s (plain_in o v.steps)) (sym (law.votes (wrong_before o.script v.steps) 1 v.copies k.states k.shows.agree)) k.shows.registers;
      cells = law.damage o v.steps v.twins k.matches.stores;
      intended = k.matches.intended;
      log = k.matches.log;
      devices = unplugged o v k.matches.devices;
      few = k.matches.few;
      wish = wished-plain Stands o v law k;
    })

-- ---- the start

-- at the start twin 0 is selected
four_zeros : (pair : ℕ) → slice_index (0 ∷ 0 ∷ 0 ∷ 0 ∷ []) pair < 2
four_zeros zero = omega arith
four_zeros (suc zero) = omega arith
four_zeros (suc (suc zero)) = omega arith
four_zeros (suc (suc (suc zero))) = omega arith
four_zeros (suc (suc (suc (suc n)))) = omega arith

-- three equal copies agree
three-agree : (s : List ℕ) → ModuleAgrees (λ c. false) (thrice s) s
three-agree s = record { two = refl; first = λ h. refl; second = λ h. refl; third = λ h. refl; sized = record { one = refl; two = refl; three = refl } }

-- the machine stands at the start
start-kept : (Stands : ℕ → List (List ℕ) → PlainState → Type 0) (o : Trial) → StepLaws Stands → Opens Stands o → IsOnCourse Stands o 0 (voted_start o)
start-kept Stands o law h =
    record {
      going = refl;
      running = refl;
      states = start_latches o.opening.start;
      stands = h.stands;
      shows = record {
        agree = (three-agree _, (three-agree _, (three-agree _, (three-agree _, (three-agree _, (three-agree _, (three-agree _, tt)))))));
        registers = law.phases.registers 0 _ _ h.stands;
      };
      matches = record {
        stores = record {
          cells = λ twin two at held. ap (λ (a : Spot). code_of (memory.word_at (memory.memory_of o.opening.image) a)) (held-again o.opening.banks twin at held);
          selected = four_zeros;
        };
        intended = refl;
        log = refl;
        devices = refl;
        few = omega arith;
      };
      words = h.words;
    }

-- ---- all steps

-- both verdicts are admissible where the first bad one is none
or_else-parts : (a b : Verdict) → or_else a b ≡ verdicts.Admissible → (a ≡ verdicts.Admissible) × (b ≡ verdicts.Admissible)
or_else-parts verdicts.Admissible b h = (refl, h)
or_else-parts (verdicts.Logic step m) b h = absurd (cc)
or_else-parts (verdicts.Memory step at) b h = absurd (cc)

-- a step that is begun is judged
begun : (o : Trial) (n : ℕ) → (plain_in o n).stop ≡ None → cond (is_begun o n) (judged o n) verdicts.Admissible ≡ judged o n
begun o n e = rw e refl

-- a run with an end stays
pub guarded-stays : (end : Option Outcome) (o : Trial) (v : Voted) (r : Outcome) → end ≡ Some r → guarded_by end o v ≡ v
guarded-stays None o v r e = absurd (cc)
guarded-stays (Some s) o v r e = refl

-- a run that goes on is judged
guarded-goes : (end : Option Outcome) (o : Trial) (v : Voted) → end ≡ None → guarded_by end o v ≡ judged_by (judged o v.steps) o (begin_step o v)
guarded-goes None o v e = refl
guarded-goes (Some r) o v e = absurd (cc)

-- the relation at the number of steps that were made
pub kept-here : (Stands : ℕ → List (List ℕ) → PlainState → Type 0) (o : Trial) (n : ℕ) (v : Voted) → v.steps ≡ n → IsOnCourse Stands o n v → IsOnCourse Stands o v.steps v
kept-here Stands o n v e k = subst (λ (m : ℕ). IsOnCourse Stands o m v) (sym e) k

-- while no step is bad the guarded machine follows the plain one
pub follows : (Stands : ℕ → List (List ℕ) → PlainState → Type 0) (o : Trial) → StepLaws Stands → Opens Stands o
    → (n : ℕ) → first_bad_below o n ≡ verdicts.Admissible → Follows Stands o n (guarded o n)
follows Stands o law opens zero h = Goes refl (start-kept Stands o law opens)
follows Stands o law opens (suc n) h = after (follows Stands o law opens n parts.0)
  where
    parts : (first_bad_below o n ≡ verdicts.Admissible) × (cond (is_begun o n) (judged o n) verdicts.Admissible ≡ verdicts.Admissible)
    parts = or_else-parts (first_bad_below o n) (cond (is_begun o n) (judged o n) verdicts.Admissible) h

    after : Follows Stands o n (guarded o n) → Follows Stands o (suc n) (guarded o (suc n))
    after (Goes e k) =
        let verdict : judged o n ≡ verdicts.Admissible = sym (begun o n k.running) ∙ parts.1 in
        let here : judged o (guarded o n).steps ≡ verdicts.Admissible = ap (judged o) e ∙ verdict in
        let kept = kept-here Stands o n (guarded o n) e k in
        let next : Follows Stands o (suc (guarded o n).steps) (voted_step o (begin_step o (guarded o n))) = one-step Stands o (guarded o n) law kept (admissible o (guarded o n).steps here) in
        let made : guarded o (suc n) ≡ voted_step o (begin_step o (guarded o n)) =
        guarded-goes (guarded o n).end o (guarded o n) k.going ∙ ap (λ (b : Verdict). judged_by b o (begin_step o (guarded o n))) here in
        subst (λ (v : Voted). Follows Stands o (suc n) v) (sym made) (subst (λ (m : ℕ). Follows Stands o (suc m) (voted_step o (begin_step o (guarded o n)))) e next)
    after (Halts le d) =
        let same : guarded o (suc n) ≡ guarded o n = guarded-stays (guarded o n).end o (guarded o n) _ d.ended in
        subst (λ (v : Voted). Follows Stands o (suc n) v) (sym same) (Halts (omega arith) d)

-- ---- the first step that is not admissible

-- after an end nothing changes
kept-ended : (o : Trial) (n : ℕ) (e : Outcome) → (guarded o n).end ≡ Some e → (m : ℕ) → guarded o (m + n) ≡ guarded o n
kept-ended o n e h zero = ap (λ (m : ℕ). guarded o m) (zero-add n)
kept-ended o n e h (suc m) =
    let same = kept-ended o n e h m in
    ap (guarded o) (suc-add m n) ∙ guarded-stays (guarded o (m + n)).end o (guarded o (m + n)) e (ap (λ (v : Voted). v.end) same ∙ h) ∙ same

pub or_else-first : (a b : Verdict) → a ≡ verdicts.Admissible → or_else a b ≡ b
or_else-first a b e = rw e refl

-- a bad verdict ends the run
judged-ends : (o : Trial) (v : Voted) (b : Verdict) → (b ≡ verdicts.Admissible → ⊥) → judged_by b o v ≡ with_end v (outcomes.Inadmissible b)
judged-ends o v verdicts.Admissible bad = absurd (bad refl)
judged-ends o v (verdicts.Logic step m) bad = refl
judged-ends o v (verdicts.Memory step at) bad = refl

-- the run ends at the first bad step
pub ends-at : (Stands : ℕ → List (List ℕ) → PlainState → Type 0) (o : Trial) → StepLaws Stands → Opens Stands o
    → (n : ℕ) → first_bad_below o n ≡ verdicts.Admissible → (first_bad_below o (suc n) ≡ verdicts.Admissible → ⊥) → EndsAt o n
ends-at Stands o law opens n good bad = at_step (follows Stands o law opens n good)
  where
    is : first_bad_below o (suc n) ≡ cond (is_begun o n) (judged o n) verdicts.Admissible
    is = or_else-first (first_bad_below o n) (cond (is_begun o n) (judged o n) verdicts.Admissible) good

    at_step : Follows Stands o n (guarded o n) → EndsAt o n
    at_step (Goes e k) =
        let verdict : first_bad_below o (suc n) ≡ judged o (guarded o n).steps = is ∙ begun o n k.running ∙ sym (ap (judged o) e) in
        let kept = kept-here Stands o n (guarded o n) e k in
        let ends : guarded o (suc n) ≡ with_end (begin_step o (guarded o n)) (outcomes.Inadmissible (first_bad_below o (suc n))) =
        guarded-goes (guarded o n).end o (guarded o n) k.going ∙ ap (λ (b : Verdict). judged_by b o (begin_step o (guarded o n))) (sym verdict)
        ∙ judged-ends o (begin_step o (guarded o n)) (first_bad_below o (suc n)) bad in
        record {
          came = k.going;
          steps = e;
          begun = begun-at Stands o n (guarded o n) law e kept;
          bad = bad;
          found = found-judged Stands o (guarded o n) law kept ∙ sym verdict;
          ends = ends;
          stays = kept-ended o (suc n) (outcomes.Inadmissible (first_bad_below o (suc n))) (ap (λ (v : Voted). v.end) ends);
        }
    at_step (Halts le d) =
        let later : (plain_in o n).stop ≡ Some d.why = ap (λ (w : World). w.plain.stop) (stays-world law.stopped o.opening ((guarded o n).steps / 3) d.why d.stopped (n / 3) (omega arith)) ∙ d.stopped in
        absurd (bad (is ∙ rw later refl))

-- ---- both ways

-- a verdict is admissible or it is not
is_bad : (b : Verdict) → (b ≡ verdicts.Admissible) ⊎ (b ≡ verdicts.Admissible → ⊥)
is_bad verdicts.Admissible = inl refl
is_bad (verdicts.Logic step m) = inr (λ e. cc)
is_bad (verdicts.Memory step at) = inr (λ e. cc)

-- a bad verdict stays the first
or_else-kept : (a b : Verdict) → (a ≡ verdicts.Admissible → ⊥) → or_else a b ≡ a
or_else-kept verdicts.Admissible b bad = absurd (bad refl)
or_else-kept (verdicts.Logic step m) b bad = refl
or_else-kept (verdicts.Memory step at) b bad = refl

-- the end is the first bad verdict
pub ends-inadmissible : (o : Trial) (m : ℕ) → EndsAt o m → (guarded o (suc m)).end ≡ Some (outcomes.Inadmissible (first_bad_below o (suc m)))
ends-inadmissible o m e = ap (λ (v : Voted). v.end) e.ends

-- each guarded run follows the plain one, or has ended at its first bad step
pub comes : (Stands : ℕ → List (List ℕ) → PlainState → Type 0) (o : Trial) → StepLaws Stands → Opens Stands o → (n : ℕ) → Comes Stands o n
comes Stands o law opens zero = Good refl (follows Stands o law opens zero refl)
comes Stands o law opens (suc n) = by_before (comes Stands o law opens n)
  where
    by_next : first_bad_below o n ≡ verdicts.Admissible → ((first_bad_below o (suc n) ≡ verdicts.Admissible) ⊎ (first_bad_below o (suc n) ≡ verdicts.Admissible → ⊥)) → Comes Stands o (suc n)
    by_next good (inl h) = Good h (follows Stands o law opens (suc n) h)
    by_next good (inr bad) = Bad n (omega arith) refl refl (ends-at Stands o law opens n good bad)

    by_before : Comes Stands o n → Comes Stands o (suc n)
    by_before (Good h f) = by_next h (is_bad (first_bad_below o (suc n)))
    by_before (Bad m lt same stuck e) =
        Bad m (omega arith)
        (or_else-kept (first_bad_below o n) (cond (is_begun o n) (judged o n) verdicts.Admissible) (λ h. e.bad (sym same ∙ h)) ∙ same)
        (guarded-stays (guarded o n).end o (guarded o n) (outcomes.Inadmissible (first_bad_below o (suc m))) (ap (λ (v : Voted). v.end) stuck ∙ ends-inadmissible o m e) ∙ stuck)
        e
