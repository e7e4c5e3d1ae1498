-- Where all steps are admissible the run through every fault is the guarded run, and comes to what the plain run comes to.
use Rattle.std.proofs.Common.{◌≡◌, ℕ, zero, suc, ◌*◌, ◌/◌, Bool, true, ◌&&◌, is_none, refl, sym, ap, ◌∙◌, arith}
use Rattle.std.specs.Bool.{if◌then◌else◌}
use Rattle.std.specs.declared.option.Option.{Option}
use Rattle.std.specs.declared.option.Option.TheVariants.{None, Some}
use Rattle.lvdc_plain.specs.Plain.{PlainState}
use Rattle.lvdc_plain.specs.declared.records.Stop.{Stop}
use Rattle.lvdc_fault.specs.declared.verdict.Verdict.{Verdict}
use Rattle.lvdc_fault.specs.declared.verdict.Verdict.TheVariants.{Admissible, Logic, Memory}
use Rattle.lvdc_plain.specs.Run.{IsOpening}
use Rattle.lvdc_laws_phases.specs.Standing.{Standing}
use Rattle.lvdc_laws_phases.specs.States.{ShowsRegisters}
use Rattle.lvdc_model.specs.declared.outcome.Outcome.{Outcome}
use Rattle.lvdc_model.specs.Exchanges.{begin_step}
use Rattle.lvdc_model.specs.Judging.{judged, is_begun, or_else, first_bad, first_bad_below}
use Rattle.lvdc_model.specs.Runs.{through_by, through_step, through, judged_by, guarded_by, guarded_step, guarded}
use Rattle.lvdc_model.specs.Trial.{Trial, plain_at}
use Rattle.lvdc_model.specs.Voted.{Voted, votes}
use Rattle.lvdc_laws_voted.specs.Ends.{ShowsTimes, stop_end, Comes, Good, Bad}
use Rattle.lvdc_laws_voted.specs.Relation.{Goes, Halts}
use Rattle.lvdc_report.specs.Report.{visible_in}
use Rattle.lvdc_report.specs.Voted.{visible_of}
use Rattle.lvdc_runs.specs.Same.{is_same}
use Rattle.lvdc_runs.specs.Same.{are_same_registers, is_same_log, end_by, is_same_end, are_same_below, is_same_state}
use Rattle.lvdc_runs.proofs.Equal.{registers-self, log-self, end-self, words-self}

-- ---- verdicts

-- two verdicts of which the first that isn't admissible is none
first-admits : (a b : Verdict) → or_else a b ≡ Admissible → a ≡ Admissible
first-admits Admissible b e = refl
first-admits (Logic step number) b e = absurd (cc (e))
first-admits (Memory step at) b e = absurd (cc (e))

later-admits : (a b : Verdict) → or_else a b ≡ Admissible → b ≡ Admissible
later-admits Admissible b e = e
later-admits (Logic step number) b e = absurd (cc (e))
later-admits (Memory step at) b e = absurd (cc (e))

-- ---- one step

-- a step that is admissible is the same whether it is judged or not
admitted-step : (o : Trial) (v : Voted) (n : ℕ) → v.end ≡ None → v.steps ≡ n → judged o n ≡ Admissible → through_step o v ≡ guarded_step o v
admitted-step o v n going steps good =
    let verdict : judged o v.steps ≡ Admissible = ap (judged o) steps ∙ good in
    ap (λ (e : Option Outcome). through_by e o v) going
    ∙ sym (ap (λ (w : Verdict). judged_by w o (begin_step o v)) verdict)
    ∙ sym (ap (λ (e : Option Outcome). guarded_by e o v) going)

-- after an end nothing changes
ended-step : (o : Trial) (v : Voted) (e : Outcome) → v.end ≡ Some e → through_step o v ≡ guarded_step o v
ended-step o v e is =
    ap (λ (x : Option Outcome). through_by x o v) is ∙ sym (ap (λ (x : Option Outcome). guarded_by x o v) is)

step-same : (o : Trial) (n : ℕ) → Comes Standing o n → first_bad_below o n ≡ Admissible
    → (if is_begun o n then judged o n else Admissible) ≡ Admissible → through_step o (guarded o n) ≡ guarded_step o (guarded o n)
step-same o n (Good good (Goes steps kept)) before here =
    let begun : is_begun o n ≡ true = ap (λ (s : Option Stop). is_none s) kept.running in
    let verdict : judged o n ≡ Admissible = sym (ap (λ (b : Bool). if b then judged o n else Admissible) begun) ∙ here in
    admitted-step o (guarded o n) n kept.going steps verdict
step-same o n (Good good (Halts steps halted)) before here = ended-step o (guarded o n) _ halted.ended
step-same o n (Bad m less first same ends) before here = absurd (ends.bad (sym first ∙ before))

-- ---- whole runs

pub through-guarded : (o : Trial) → ((n : ℕ) → Comes Standing o n) → (n : ℕ) → first_bad_below o n ≡ Admissible → through o n ≡ guarded o n
through-guarded o comes zero good = refl
through-guarded o comes (suc n) good =
    let before = first-admits (first_bad_below o n) (if is_begun o n then judged o n else Admissible) good in
    let here = later-admits (first_bad_below o n) (if is_begun o n then judged o n else Admissible) good in
    ap (through_step o) (through-guarded o comes n before) ∙ step-same o n (comes n) before here

third : (steps times : ℕ) → steps ≡ 3 * times → steps / 3 ≡ times
third steps times e = omega (arith, e)

visible-same : (v : Voted) (p : PlainState) → ShowsRegisters (votes v) p → v.steps / 3 ≡ p.times → visible_of v ≡ visible_in p
visible-same v p r t = λ i. record { place = r.place i; a = r.a i; pq = r.pq i; saver = r.saver i; times = t i }

-- a state that shows the plain run is the same
pub shown-same : (o : Trial) (times : ℕ) (v : Voted) → ShowsTimes o times v → v.end ≡ stop_end (plain_at o times).stop (plain_at o times).times
    → v.steps ≡ 3 * (plain_at o times).times → is_same_state o.opening.banks v (plain_at o times) ≡ true
shown-same o times v shows end steps =
    let p = plain_at o times in
    let registers = visible-same v p shows.registers (third v.steps p.times steps) in
    let ends : is_same_end v.end (end_by p.stop p.times) ≡ true = ap (λ (e : Option Outcome). is_same_end e (end_by p.stop p.times)) end ∙ end-self p.stop p.times in
    let shown : are_same_registers (visible_of v) (visible_in p) ≡ true = ap (λ w. are_same_registers w (visible_in p)) registers ∙ registers-self (visible_in p) in
    let log : is_same_log v.log p.log ≡ true = ap (λ l. is_same_log l p.log) shows.log ∙ log-self p.log in
    let words : are_same_below o.opening.banks v.intended p.memory 32768 ≡ true =
    ap (λ m. are_same_below o.opening.banks m p.memory 32768) shows.intended ∙ words-self o.opening.banks p.memory 32768 in
    λ i. ends i && shown i && log i && words i

pub admitted-same : ((o : Trial) → IsOpening o.opening → (n : ℕ) → Comes Standing o n)
    → ((o : Trial) → IsOpening o.opening → (times : ℕ) → first_bad o times ≡ Admissible → ShowsTimes o times (guarded o (3 * times)))
    → ((o : Trial) → IsOpening o.opening → (times : ℕ) → first_bad o times ≡ Admissible
    → (guarded o (3 * times)).end ≡ stop_end (plain_at o times).stop (plain_at o times).times)
    → ((o : Trial) → IsOpening o.opening → (times : ℕ) → first_bad o times ≡ Admissible → (guarded o (3 * times)).steps ≡ 3 * (plain_at o times).times)
    → (o : Trial) (times : ℕ) → IsOpening o.opening → first_bad o times ≡ Admissible → is_same o times ≡ true
admitted-same comes shows end steps o times opens good =
    ap (λ (v : Voted). is_same_state o.opening.banks v (plain_at o times)) (through-guarded o (comes o opens) (3 * times) good)
    ∙ shown-same o times (guarded o (3 * times)) (shows o opens times good) (end o opens times good) (steps o opens times good)
