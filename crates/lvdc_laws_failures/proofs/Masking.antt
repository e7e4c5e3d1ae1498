-- Where at most one copy of each module fails, all listeners hear the votes of the guarded voted machine, step after step.
use Rattle.std.proofs.Common.{◌≡◌, ℕ, zero, suc, ◌%◌, ◌≤◌, Bool, false, cond, List, ◌∷◌, map, subst, refl, sym, ap, ◌∙◌, arith}
use Rattle.std.specs.declared.option.Option.{Option}
use Rattle.std.specs.declared.option.Option.TheVariants.{None, Some}
use Rattle.lvdc_vote.specs.Copies.{Copies, vote_of}
use Rattle.lvdc_modules.specs.Rows.{rows, bus_of, start_latches}
use Rattle.lvdc_modules.specs.Wish.{wish}
use Rattle.lvdc_modules.specs.declared.wanted.Wanted.{Wanted}
use Rattle.lvdc_plain.specs.Run.{IsOpening}
use Rattle.lvdc_fault.specs.Script.{is_wrong, are_two, wrong_module}
use Rattle.lvdc_fault.specs.declared.verdict.Verdict.{Verdict}
use Rattle.lvdc_fault.specs.declared.verdict.Verdict.TheVariants as verdicts
use Rattle.lvdc_laws_phases.specs.Standing.{Standing}
use Rattle.lvdc_laws_phases.specs.States.{after_phase, ShowsRegisters}
use Rattle.lvdc_model.specs.declared.outcome.Outcome.{Outcome}
use Rattle.lvdc_model.specs.declared.outcome.Outcome.TheVariants.{Stopped}
use Rattle.lvdc_model.specs.Trial.{Trial, plain_in}
use Rattle.lvdc_model.specs.Voted.{Voted, votes, thrice, counted, voted_start}
use Rattle.lvdc_model.specs.Judging.{judged, judged_logic, is_begun, or_else, first_bad_below}
use Rattle.lvdc_model.specs.Exchanges.{begin_step, exchanges, wished, voted_step, stop_of, stop_after}
use Rattle.lvdc_model.specs.Runs.{judged_by, guarded_by, guarded}
use Rattle.lvdc_laws_voted.specs.Copies.{ModuleAgrees, Agree, wrong_before}
use Rattle.lvdc_laws_voted.specs.Laws.{VotesLaw, CopiesLaw}
use Rattle.lvdc_laws_voted.specs.Relation.{IsOnCourse, Follows, Goes, Halts}
use Rattle.lvdc_laws_voted.specs.Ends.{IsBegun, Comes, Good, Bad}
use Rattle.lvdc_laws_failures.specs.Listeners.{Listener, Exchange, Three, told_by_three, all_heard}
use Rattle.lvdc_laws_failures.specs.Split.{Split, Run, Adversary}
use Rattle.lvdc_laws_failures.specs.Steps.{next_copies, memory_word, answer_word, heard_after, split_with, split_from, run_by, split_run, copies_after, voted_after}
use Rattle.lvdc_laws_failures.specs.Laws.{OneOfEach, IsMasked}
use Rattle.lvdc_laws_failures.proofs.Telling.{heard-votes, copies-agree}
use Rattle.lvdc_laws_failures.proofs.Exchanged.{IsFound, found-instruction, split-found, with_copies, memory_word-same, answer_word-same, IsMade, is-made}

-- the laws that are cited: of the votes, of what copies latch, and of the guarded run
pub record Cited : Type 0 where
  pub votes : VotesLaw
  pub copies : CopiesLaw
  pub comes : (o : Trial) → IsOpening o.opening → (n : ℕ) → Comes Standing o n

-- ---- when a run of the split machine goes beside a voted machine

-- of each module two copies tell every listener what the voted machine votes, and all that is outside of the copies is that machine's
pub record IsBeside (run : Run) (v : Voted) : Type 0 where
  pub failed : ℕ → ℕ → Bool
  pub tells : (listener : Listener) → Agree failed 1 (map (told_by_three listener) run.now.copies) (votes v)
  pub counts : List (List ℕ)
  pub voted : run.now.voted ≡ with_copies v (map (told_by_three Exchange) run.now.copies) counts

-- what each listener hears then
pub heard-beside : VotesLaw → (run : Run) (v : Voted) → IsBeside run v → (listener : Listener) → all_heard listener run.now.copies ≡ votes v
heard-beside law run v h listener = sym (heard-votes listener run.now.copies) ∙ law h.failed 1 (map (told_by_three listener) run.now.copies) (votes v) (h.tells listener)

-- and what the exchange votes
pub votes-beside : VotesLaw → (run : Run) (v : Voted) → IsBeside run v → votes run.now.voted ≡ votes v
votes-beside law run v h = ap votes h.voted ∙ heard-votes Exchange run.now.copies ∙ heard-beside law run v h Exchange

-- ---- one step

-- the votes after a step that was made are the rows over the votes before it
votes-next : Cited → (o : Trial) (v next : Voted) (w : Wanted) → IsOnCourse Standing o v.steps v → wrong_module o.script v.steps ≡ None
    → IsMade o (begin_step o v) w next → votes next ≡ after_phase (votes v) (memory_word o (begin_step o v) w) (answer_word (begin_step o v) w)
votes-next law o v next w k logic made =
    let memory = memory_word o (begin_step o v) w in
    let port = answer_word (begin_step o v) w in
    ap (λ (copies : List Copies). map vote_of copies) made.copies
    ∙ law.votes (is_wrong o.script v.steps) 1 _ _ (law.copies o.script v.steps (wrong_before o.script v.steps) v.copies k.states memory port k.stands.fits logic k.shows.agree)
    ∙ ap (λ (states : List (List ℕ)). after_phase states memory port) (sym (law.votes (wrong_before o.script v.steps) 1 v.copies k.states k.shows.agree))

-- a step of the split machine goes on beside that of the voted one
beside-step : Cited → (o : Trial) (a : Adversary) (run : Run) (v : Voted) → IsOnCourse Standing o v.steps v → wrong_module o.script v.steps ≡ None
    → ((m : ℕ) → 1 ≤ m → m ≤ 7 → are_two (a.fails run m) ≡ false) → IsFound (voted_step o (begin_step o v)).end → (before : List Split) → IsBeside run v
    → IsBeside (record { now = split_from o a run (begin_step o run.now.voted); before = before }) (voted_step o (begin_step o v))
beside-step law o a run v k logic few found before h =
    subst (λ (s : Split). IsBeside (record { now = s; before = before }) next) (sym stepped)
    (record {
      failed = a.fails run;
      tells = λ listener. subst (λ (states : List (List ℕ)). Agree (a.fails run) 1 (map (told_by_three listener) copies) states) (sym voted) (agree listener);
      counts = new_counts;
      voted = made.same heard_copies h.counts copies ∙ ap (λ (end : Option Outcome). record next { copies = map (told_by_three Exchange) copies; counts = new_counts; end = end }) ended;
    })
  where
    b : Voted
    b = begin_step o v

    w : Wanted
    w = wished o b

    next : Voted
    next = voted_step o b

    made : IsMade o b w next
    made = is-made o b w found

    memory : ℕ
    memory = memory_word o b w

    port : ℕ
    port = answer_word b w

    heard_copies : List Copies
    heard_copies = map (told_by_three Exchange) run.now.copies

    copies : List Three
    copies = next_copies a run 1 rows memory port

    new_counts : List (List ℕ)
    new_counts = counted (map (told_by_three Exchange) copies) h.counts

    hears : (listener : Listener) → all_heard listener run.now.copies ≡ votes v
    hears = heard-beside law.votes run v h

    agree : (listener : Listener) → Agree (a.fails run) 1 (map (told_by_three listener) copies) (after_phase (votes v) memory port)
    agree = copies-agree a run (votes v) memory port hears few

    voted : votes next ≡ after_phase (votes v) memory port
    voted = votes-next law o v next w k logic made

    -- the end is the same, since the exchange hears the votes
    ended : stop_after v.steps (record b { copies = map (told_by_three Exchange) copies }) ≡ next.end
    ended =
        ap (λ (states : List (List ℕ)). stop_of ((bus_of states 0 0).exchange.stop % 4) v.steps) (law.votes (a.fails run) 1 (map (told_by_three Exchange) copies) _ (agree Exchange) ∙ sym voted)
        ∙ sym made.end

    -- the exchange wishes for the same
    wishes : wished o (with_copies b heard_copies h.counts) ≡ w
    wishes = ap (λ (states : List (List ℕ)). wish (bus_of states 0 0) o.opening.banks) (heard-votes Exchange run.now.copies ∙ hears Exchange)

    stepped : split_from o a run (begin_step o run.now.voted) ≡ record { copies = copies; voted = heard_after copies (with_copies b heard_copies h.counts) (exchanges o (with_copies b heard_copies h.counts) w) }
    stepped =
        ap (λ (u : Voted). split_from o a run (begin_step o u)) h.voted
        ∙ ap (split_with o a run (with_copies b heard_copies h.counts)) wishes
        ∙ split-found _ _ run (with_copies b heard_copies h.counts) _ (made.found heard_copies h.counts)
        ∙ ap (λ (threes : List Three). record { copies = threes; voted = heard_after threes (with_copies b heard_copies h.counts) (exchanges o (with_copies b heard_copies h.counts) w) })
        (ap (λ (x : ℕ). next_copies a run 1 rows x (answer_word (with_copies b heard_copies h.counts) w)) (memory_word-same o b heard_copies h.counts w)
        ∙ ap (next_copies a run 1 rows memory) (answer_word-same b heard_copies h.counts w))

-- ---- all steps

-- both verdicts are admissible where the first bad one is none
pub both-admissible : (a b : Verdict) → or_else a b ≡ verdicts.Admissible → (a ≡ verdicts.Admissible) × (b ≡ verdicts.Admissible)
both-admissible verdicts.Admissible b h = (refl, h)
both-admissible (verdicts.Logic step m) b h = absurd (cc)
both-admissible (verdicts.Memory step at) b h = absurd (cc)

-- a step that is begun is judged
pub begun : (o : Trial) (n : ℕ) → (plain_in o n).stop ≡ None → cond (is_begun o n) (judged o n) verdicts.Admissible ≡ judged o n
begun o n e = rw e refl

-- an admissible step names no module
pub none-named_by : (o : Trial) (step : ℕ) (m : Option ℕ) → wrong_module o.script step ≡ m → judged_logic o step m ≡ verdicts.Admissible → wrong_module o.script step ≡ None
none-named_by o step None e h = e
none-named_by o step (Some m) e h = absurd (cc)

-- the end of a run that follows the plain run is no bad read
found-follows : (o : Trial) (n : ℕ) (v : Voted) → Follows Standing o n v → IsFound v.end
found-follows o n v (Goes e k) = subst IsFound (sym k.going) tt
found-follows o n v (Halts le d) = subst IsFound (sym d.ended) (found-instruction d.last d.why d.cause)

-- where no step was bad the guarded run follows the plain run
pub follows : Cited → (o : Trial) → IsOpening o.opening → (n : ℕ) → first_bad_below o n ≡ verdicts.Admissible → Follows Standing o n (guarded o n)
follows law o ok n good = by_run (law.comes o ok n)
  where
    by_run : Comes Standing o n → Follows Standing o n (guarded o n)
    by_run (Good h f) = f
    by_run (Bad m lt same stuck e) = absurd (e.bad (sym same ∙ good))

-- a run that has ended stays, and one that goes on makes a step
pub run-stays : (end : Option Outcome) (o : Trial) (a : Adversary) (run : Run) (e : Outcome) → end ≡ Some e → run_by end o a run ≡ run
run-stays None o a run e h = absurd (cc)
run-stays (Some s) o a run e h = refl

pub run-goes : (end : Option Outcome) (o : Trial) (a : Adversary) (run : Run) → end ≡ None
    → run_by end o a run ≡ record { now = split_from o a run (begin_step o run.now.voted); before = run.now ∷ run.before }
run-goes None o a run h = refl
run-goes (Some s) o a run h = absurd (cc)

guarded-stays : (end : Option Outcome) (o : Trial) (v : Voted) (e : Outcome) → end ≡ Some e → guarded_by end o v ≡ v
guarded-stays None o v e h = absurd (cc)
guarded-stays (Some s) o v e h = refl

guarded-goes : (end : Option Outcome) (o : Trial) (v : Voted) → end ≡ None → judged o v.steps ≡ verdicts.Admissible → guarded_by end o v ≡ voted_step o (begin_step o v)
guarded-goes None o v h e = ap (λ (verdict : Verdict). judged_by verdict o (begin_step o v)) e
guarded-goes (Some s) o v h e = absurd (cc)

-- at the start all three copies of each module are the start's
three-agree : (s : List ℕ) → ModuleAgrees (λ c. false) (thrice s) s
three-agree s = record { two = refl; first = λ h. refl; second = λ h. refl; third = λ h. refl; sized = record { one = refl; two = refl; three = refl } }

-- the votes over three equal copies
start-votes : VotesLaw → (o : Trial) → votes (voted_start o) ≡ start_latches o.opening.start
start-votes law o = law (λ m c. false) 1 (voted_start o).copies (start_latches o.opening.start) start-agrees
  where
    start-agrees : Agree (λ m c. false) 1 (voted_start o).copies (start_latches o.opening.start)
    start-agrees = (three-agree _, (three-agree _, (three-agree _, (three-agree _, (three-agree _, (three-agree _, (three-agree _, tt)))))))

start-beside : VotesLaw → (o : Trial) (a : Adversary) → IsBeside (split_run o a 0) (voted_start o)
start-beside law o a =
    record {
      failed = λ m c. false;
      tells = λ listener. subst (λ (states : List (List ℕ)). Agree (λ m c. false) 1 (voted_start o).copies states) (sym (start-votes law o))
          (three-agree _, (three-agree _, (three-agree _, (three-agree _, (three-agree _, (three-agree _, (three-agree _, tt)))))));
      counts = (voted_start o).counts;
      voted = refl;
    }

-- the split run goes beside the guarded one
pub beside : Cited → (o : Trial) (a : Adversary) → IsOpening o.opening → (n : ℕ) → first_bad_below o n ≡ verdicts.Admissible → OneOfEach o a n
    → IsBeside (split_run o a n) (guarded o n)
beside law o a ok zero good one = start-beside law.votes o a
beside law o a ok (suc n) good one = by_run (follows law o ok n parts.0) (beside law o a ok n parts.0 (λ step lt. one step (omega arith)))
  where
    parts : (first_bad_below o n ≡ verdicts.Admissible) × (cond (is_begun o n) (judged o n) verdicts.Admissible ≡ verdicts.Admissible)
    parts = both-admissible (first_bad_below o n) _ good

    run : Run
    run = split_run o a n

    v : Voted
    v = guarded o n

    -- the ends are the same
    same_end : IsBeside run v → run.now.voted.end ≡ v.end
    same_end h = ap (λ (u : Voted). u.end) h.voted

    by_run : Follows Standing o n v → IsBeside run v → IsBeside (split_run o a (suc n)) (guarded o (suc n))
    by_run (Goes e k) h =
        let verdict : judged o v.steps ≡ verdicts.Admissible =
        ap (judged o) e ∙ sym (begun o n k.running) ∙ parts.1 in
        let made : guarded o (suc n) ≡ voted_step o (begin_step o v) = guarded-goes v.end o v k.going verdict in
        let going : run.now.voted.end ≡ None = same_end h ∙ k.going in
        subst (λ (r : Run). IsBeside r (guarded o (suc n))) (sym (run-goes run.now.voted.end o a run going))
        (subst (λ (u : Voted). IsBeside (record { now = split_from o a run (begin_step o run.now.voted); before = run.now ∷ run.before }) u) (sym made)
        (beside-step law o a run v (subst (λ (m : ℕ). IsOnCourse Standing o m v) (sym e) k) (none-named_by o v.steps (wrong_module o.script v.steps) refl verdict)
        (one n (omega arith) going) (subst (λ (u : Voted). IsFound u.end) made (found-follows o (suc n) _ (follows law o ok (suc n) good))) (run.now ∷ run.before) h))
    by_run (Halts le d) h =
        let still : guarded o (suc n) ≡ v = guarded-stays v.end o v _ d.ended in
        subst (λ (u : Voted). IsBeside (split_run o a (suc n)) u) (sym still)
        (subst (λ (r : Run). IsBeside r v) (sym (run-stays run.now.voted.end o a run _ (same_end h ∙ d.ended))) h)

-- so every listener hears its votes, and all else is the same
pub masked : Cited → (o : Trial) (a : Adversary) → IsOpening o.opening → (n : ℕ) → first_bad_below o n ≡ verdicts.Admissible → OneOfEach o a n → IsMasked o a n
masked law o a ok n good one =
    record {
      hears = heard-beside law.votes (split_run o a n) (guarded o n) h;
      votes = votes-beside law.votes (split_run o a n) (guarded o n) h;
      same = record {
        twins = ap (λ (u : Voted). u.twins) h.voted;
        intended = ap (λ (u : Voted). u.intended) h.voted;
        devices = ap (λ (u : Voted). u.devices) h.voted;
        log = ap (λ (u : Voted). u.log) h.voted;
        repairs = ap (λ (u : Voted). u.repairs) h.voted;
        steps = ap (λ (u : Voted). u.steps) h.voted;
        end = ap (λ (u : Voted). u.end) h.voted;
      };
    }
  where
    h : IsBeside (split_run o a n) (guarded o n)
    h = beside law o a ok n good one

-- ---- the plain run

-- a run that goes on stands for the plain run, whoever listens
pub heard-plain : Cited → (o : Trial) (a : Adversary) → IsOpening o.opening → (n : ℕ) → first_bad_below o n ≡ verdicts.Admissible → OneOfEach o a n
    → (voted_after o a n).end ≡ None → (listener : Listener) → Standing (n % 3) (all_heard listener (copies_after o a n)) (plain_in o n)
heard-plain law o a ok n good one going listener = by_run (follows law o ok n good)
  where
    m : IsMasked o a n
    m = masked law o a ok n good one

    by_run : Follows Standing o n (guarded o n) → Standing (n % 3) (all_heard listener (copies_after o a n)) (plain_in o n)
    by_run (Goes e k) =
        subst (λ (states : List (List ℕ)). Standing (n % 3) states (plain_in o n))
        (sym (m.hears listener ∙ law.votes (wrong_before o.script n) 1 (guarded o n).copies k.states k.shows.agree)) k.stands
    by_run (Halts le d) = absurd (let both : Some (Stopped d.last d.why) ≡ None = sym d.ended ∙ sym m.same.end ∙ going in cc)

-- and so does the step that it begins
pub begun-plain : Cited → ((o : Trial) → IsOpening o.opening → (n : ℕ) → first_bad_below o n ≡ verdicts.Admissible → (guarded o n).end ≡ None → IsBegun o n (begin_step o (guarded o n)))
    → (o : Trial) (a : Adversary) → IsOpening o.opening → (n : ℕ) → first_bad_below o n ≡ verdicts.Admissible → OneOfEach o a n
    → (voted_after o a n).end ≡ None → IsBegun o n (begin_step o (voted_after o a n))
begun-plain law begins o a ok n good one going =
    let h = beside law o a ok n good one in
    let m = masked law o a ok n good one in
    let b = begins o ok n good (sym m.same.end ∙ going) in
    subst (λ (v : Voted). IsBegun o n (begin_step o v)) (sym h.voted)
    (record {
      steps = b.steps;
      registers = subst (λ (states : List (List ℕ)). ShowsRegisters states (plain_in o n)) (sym (ap votes (sym h.voted) ∙ m.votes)) b.registers;
      cells = b.cells;
      intended = b.intended;
      log = b.log;
      devices = b.devices;
      few = b.few;
      wish = ap (λ (states : List (List ℕ)). wish (bus_of states 0 0) o.opening.banks) (ap votes (sym h.voted) ∙ m.votes) ∙ b.wish;
    })
