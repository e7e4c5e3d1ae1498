-- The report of a guarded run is the account of the plain run.
use Rattle.std.proofs.Common.{◌≡◌, ◌≢◌, ℕ, zero, suc, ◌*◌, ◌/◌, ◌<◌, Bool, true, false, List, ◌++◌, length, codes, refl, sym, ap, subst, ◌∙◌, arith}
use Rattle.std.specs.declared.option.Option.{Option}
use Rattle.std.specs.declared.option.Option.TheVariants.{None, Some}
use Rattle.lvdc_map.specs.Address.{Spot, spot_at}
use Rattle.lvdc_map.specs.Banks.{is_there, HasBank}
use Rattle.lvdc_map.specs.Memory.{Memory, word_at}
use Rattle.lvdc_plain.specs.Plain.{PlainState}
use Rattle.lvdc_plain.specs.declared.records.Stop.{Stop}
use Rattle.lvdc_fault.specs.Script.{wrong_module}
use Rattle.lvdc_fault.specs.declared.verdict.Verdict.{Verdict}
use Rattle.lvdc_fault.specs.declared.verdict.Verdict.TheVariants.{Admissible, Memory as Unread}
use Rattle.lvdc_laws_phases.specs.Standing.{Standing}
use Rattle.lvdc_laws_phases.specs.States.{ShowsRegisters}
use Rattle.lvdc_model.specs.Exchanges.{begin_step, with_end, wished}
use Rattle.lvdc_model.specs.Judging.{first_bad, first_bad_below, is_recoverable, is_recoverable_after}
use Rattle.lvdc_model.specs.Known.{last_begun, is_known}
use Rattle.lvdc_model.specs.Runs.{guarded, own_logic, own_memory, read_of_wish, recovers}
use Rattle.lvdc_model.specs.Trial.{Trial, plain_at, plain_in}
use Rattle.lvdc_model.specs.Voted.{Voted, votes}
use Rattle.lvdc_model.specs.declared.outcome.Outcome.{Outcome}
use Rattle.lvdc_model.specs.declared.outcome.Outcome.TheVariants.{Inadmissible}
use Rattle.lvdc_laws_voted.specs.Ends.{ShowsTimes, IsBegun, EndsAt, Comes, Good, Bad, stop_end}
use Rattle.lvdc_laws_voted.specs.Relation.{Goes, Halts}
use Rattle.lvdc_machine.specs.View.{answer_of_end}
use Rattle.lvdc_lines.specs.Noted.{lines_below, log_text, repairs_text}
use Rattle.lvdc_report.specs.Report.{line_at, told_line, memory_text, visible_in, title_line, end_text, registers_text, times_line, word_line}
use Rattle.lvdc_report.specs.Voted.{voted_text, visible_of, wrong_text, soak_text, number_line, all_counts}
use Rattle.lvdc_report.specs.declared.title.Title.TheVariants as title
use Rattle.lvdc_command_run.specs.Accounts.{Account, end_by, whole_account, begun_account, account_by, account}
use Rattle.lvdc_command_run.specs.Answers.{account_text, soak_account_text}
use Rattle.lvdc_command_run.specs.Finished.{Tells}

-- ---- the words of memory

lines-same : (f g : ℕ → List ℕ) (n : ℕ) → ((k : ℕ) → k < n → f k ≡ g k) → lines_below f n ≡ lines_below g n
unfolding lines_below
lines-same f g zero same = refl
lines-same f g (suc n) same =
    let before = lines-same f g n (λ k less. same k (omega (arith, less))) in
    let last = same n (omega arith) in
    λ i. before i ++ last i

-- a line tells the same where the bank is there and what is known of the address is the same
line-same : (there : Bool) (banks : ℕ) (words : Memory) (known other : Spot → Bool) (at : Spot) → is_there banks at ≡ there
    → (is_there banks at ≡ true → known at ≡ other at) → line_at banks words known at ≡ line_at banks words other at
line-same true banks words known other at is same = rw is (ap (λ (b : Bool). told_line b at (word_at words at)) (same is))
line-same false banks words known other at is same = rw is refl

-- the lines of memory are the same where the words are, and what is known of each address
pub memory-same : (banks : ℕ) (words others : Memory) (known other : Spot → Bool) → words ≡ others
    → ((at : Spot) → HasBank banks at → known at ≡ other at) → memory_text banks words known ≡ memory_text banks others other
memory-same banks words others known other e same =
    ap (λ (m : Memory). memory_text banks m known) e
    ∙ lines-same (λ number. line_at banks others known (spot_at number)) (λ number. line_at banks others other (spot_at number)) 32768
    (λ k less. line-same (is_there banks (spot_at k)) banks others known other (spot_at k) refl
    (λ there. same (spot_at k) (record { small = omega (arith, less); there = there })))

-- ---- the registers

visible-same : (v : Voted) (p : PlainState) → ShowsRegisters (votes v) p → v.steps / 3 ≡ p.times → visible_of v ≡ visible_in p
visible-same v p r t = λ i. record { place = r.place i; a = r.a i; pq = r.pq i; saver = r.saver i; times = t i }

-- ---- the whole

-- the report of a state that tells an account is that of the account
pub told : (o : Trial) (a : Account) (v w : Voted) → Tells o a v w → voted_text title.Run o v ≡ account_text o a w
told o a v w t =
    let e = t.end in
    let r = t.registers in
    let l = t.log in
    let c = t.counts in
    let s = t.repairs in
    let words = memory-same o.opening.banks v.intended a.plain.memory (λ at. is_known o v at) a.recoverable t.words t.known in
    λ i. title_line title.Run ++ end_text (e i) ++ registers_text (r i) ++ log_text (l i) ++ words i ++ wrong_text (c i) ++ repairs_text (s i)

-- and so is the text of a soak run
pub soak-told : (o : Trial) (a : Account) (v w : Voted) (number : ℕ) → Tells o a v w → soak_text number v ≡ soak_account_text number a w
soak-told o a v w number t =
    let e = t.end in
    let r = t.registers in
    let c = t.counts in
    let s = t.repairs in
    λ i. number_line (codes "LVDC SOAK") number ++ end_text (e i) ++ times_line (r i).times ++ word_line (codes "A") (r i).a
    ++ number_line (codes "WRONG") (all_counts (c i)) ++ number_line (codes "REPAIRS") (length (s i))

-- what can be recovered, for the ways in which a run comes to its end
pub record KnownLaw (o : Trial) : Type 0 where
  pub made : (n : ℕ) → first_bad_below o n ≡ Admissible → (at : Spot) → HasBank o.opening.banks at
      → is_known o (guarded o n) at ≡ is_recoverable_after o (guarded o n).steps at
  pub begun : (n : ℕ) (v : Voted) (e : Outcome) (at : Spot) → HasBank o.opening.banks at → IsBegun o n v
      → last_begun (Some e) n ≡ Some n → is_known o (with_end v e) at ≡ is_recoverable o n at

-- ---- a run of all its times, or up to a stop

ends-same : (stop : Option Stop) (times : ℕ) → answer_of_end (stop_end stop times) ≡ end_by stop times
ends-same None times = refl
ends-same (Some why) times = refl

thrice-third : (steps times : ℕ) → steps ≡ 3 * times → steps / 3 ≡ times
thrice-third steps times e = omega (arith, e)

pub whole-told : (o : Trial) (n : ℕ) → KnownLaw o → first_bad o n ≡ Admissible → ShowsTimes o n (guarded o (3 * n))
    → (guarded o (3 * n)).end ≡ stop_end (plain_at o n).stop (plain_at o n).times
    → (guarded o (3 * n)).steps ≡ 3 * (plain_at o n).times → Tells o (whole_account o n) (guarded o (3 * n)) (guarded o (3 * n))
whole-told o n law good shows end steps =
    record {
      end = ap answer_of_end end ∙ ends-same (plain_at o n).stop (plain_at o n).times;
      registers = visible-same (guarded o (3 * n)) (plain_at o n) shows.registers (thrice-third (guarded o (3 * n)).steps (plain_at o n).times steps);
      log = shows.log;
      words = shows.intended;
      known = λ at bank. law.made (3 * n) good at bank ∙ ap (λ (k : ℕ). is_recoverable_after o k at) steps;
      devices = shows.devices;
      counts = refl;
      repairs = refl;
    }

-- ---- a run that ends in a step that was begun

-- its counts and repairs are those of any state with the same
pub begun-told : (o : Trial) (step : ℕ) (e : Outcome) (u w : Voted) → KnownLaw o → IsBegun o step u → (plain_in o step).times ≡ step / 3
    → last_begun (Some e) step ≡ Some step → u.counts ≡ w.counts → u.repairs ≡ w.repairs → Tells o (begun_account o step e) (with_end u e) w
begun-told o step e u w law begun times last counts repairs =
    record {
      end = refl;
      registers = visible-same (with_end u e) (plain_in o step) begun.registers (ap (λ (k : ℕ). k / 3) begun.steps ∙ sym times);
      log = begun.log;
      words = begun.intended;
      known = λ at bank. law.begun step u e at bank begun last;
      devices = begun.devices;
      counts = counts;
      repairs = repairs;
    }

-- ---- the verdict names its step

found-memory_step : (o : Trial) (v : Voted) (at : Option Spot) (w : Verdict) → own_memory o v at ≡ w → w ≢ Admissible → (n : ℕ)
    → account_by w o n ≡ begun_account o v.steps (Inadmissible w)
found-memory_step o v None w is bad n = absurd (bad (sym is))
found-memory_step o v (Some at) w is bad n = by_cell (recovers o v at) refl
  where
    by_cell : (b : Bool) → recovers o v at ≡ b → account_by w o n ≡ begun_account o v.steps (Inadmissible w)
    by_cell true e =
        let none : own_memory o v (Some at) ≡ Admissible = rw e refl in
        absurd (bad (sym is ∙ none))
    by_cell false e =
        let named : own_memory o v (Some at) ≡ Unread v.steps at = rw e refl in
        subst (λ (x : Verdict). account_by x o n ≡ begun_account o v.steps (Inadmissible x)) (sym named ∙ is) refl

found-logic_step : (o : Trial) (v : Voted) (number : Option ℕ) (w : Verdict) → own_logic o v number ≡ w → w ≢ Admissible → (n : ℕ)
    → account_by w o n ≡ begun_account o v.steps (Inadmissible w)
found-logic_step o v (Some m) w is bad n =
    subst (λ (x : Verdict). account_by x o n ≡ begun_account o v.steps (Inadmissible x)) is refl
found-logic_step o v None w is bad n = found-memory_step o v (read_of_wish (wished o v)) w is bad n

-- ---- a guarded run in which no device fails

pub running-there : (o : Trial) (n : ℕ) → Comes Standing o n → (guarded o n).end ≡ None → (plain_in o n).stop ≡ None
running-there o n (Good good (Goes steps kept)) none = kept.running
running-there o n (Good good (Halts steps halted)) none = let is = halted.ended in absurd (cc (is, none))
running-there o n (Bad m less first same ends) none =
    let bad = ap (λ (v : Voted). v.end) same ∙ ap (λ (v : Voted). v.end) ends.ends in absurd (cc (bad, none))

bad-told : (o : Trial) (n m : ℕ) → KnownLaw o → ((k : ℕ) → (plain_at o k).stop ≡ None → (plain_at o k).times ≡ k)
    → Comes Standing o m → guarded o (3 * n) ≡ guarded o (suc m) → first_bad o n ≡ first_bad_below o (suc m) → EndsAt o m
    → Tells o (account o n) (guarded o (3 * n)) (guarded o (3 * n))
bad-told o n m law count comes same first ends =
    let w = first_bad_below o (suc m) in
    let u = begin_step o (guarded o m) in
    let state : with_end u (Inadmissible w) ≡ guarded o (3 * n) = sym (same ∙ ends.ends) in
    let here : account_by w o n ≡ begun_account o m (Inadmissible w) =
    found-logic_step o u (wrong_module o.script u.steps) w ends.found ends.bad n
    ∙ ap (λ (k : ℕ). begun_account o k (Inadmissible w)) ends.begun.steps in
    let is : begun_account o m (Inadmissible w) ≡ account o n = sym here ∙ ap (λ (x : Verdict). account_by x o n) (sym first) in
    let there : Tells o (begun_account o m (Inadmissible w)) (with_end u (Inadmissible w)) (with_end u (Inadmissible w)) =
    begun-told o m (Inadmissible w) u (with_end u (Inadmissible w)) law ends.begun (count (m / 3) (running-there o m comes ends.came)) refl refl refl in
    subst (λ (v : Voted). Tells o (account o n) v v) state
    (subst (λ (a : Account). Tells o a (with_end u (Inadmissible w)) (with_end u (Inadmissible w))) is there)

pub guarded-told : (o : Trial) (n : ℕ) → KnownLaw o → ((k : ℕ) → (plain_at o k).stop ≡ None → (plain_at o k).times ≡ k)
    → ((k : ℕ) → Comes Standing o k)
    → (first_bad o n ≡ Admissible → ShowsTimes o n (guarded o (3 * n)))
    → (first_bad o n ≡ Admissible → (guarded o (3 * n)).end ≡ stop_end (plain_at o n).stop (plain_at o n).times)
    → (first_bad o n ≡ Admissible → (guarded o (3 * n)).steps ≡ 3 * (plain_at o n).times)
    → Tells o (account o n) (guarded o (3 * n)) (guarded o (3 * n))
guarded-told o n law count comes shows end steps = by_run (comes (3 * n))
  where
    by_run : Comes Standing o (3 * n) → Tells o (account o n) (guarded o (3 * n)) (guarded o (3 * n))
    by_run (Good good follows) =
        subst (λ (a : Account). Tells o a (guarded o (3 * n)) (guarded o (3 * n))) (ap (λ (x : Verdict). account_by x o n) (sym good))
        (whole-told o n law good (shows good) (end good) (steps good))
    by_run (Bad m less first same ends) = bad-told o n m law count (comes m) same first ends
