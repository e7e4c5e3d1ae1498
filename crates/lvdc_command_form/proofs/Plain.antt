-- What tells the plain run as it is told has no status of an inadmissible step, and no question mark.
use Rattle.std.proofs.Common.{◌≡◌, ◌≢◌, ℕ, ◌*◌, Bool, true, false, ◌||◌, List, ◌++◌, refl, sym, ap, ◌∙◌, subst, arith}
use Rattle.std.specs.declared.option.Option.{Option}
use Rattle.std.specs.declared.option.Option.TheVariants.{None, Some}
use Rattle.std.proofs.lemmas.Bool.{true≢false}
use Rattle.std.proofs.lemmas.List.Folds.{list_any-append}
use Rattle.lvdc_plain.specs.declared.records.Stop.{Stop}
use Rattle.lvdc_model.specs.Runs.{guarded}
use Rattle.lvdc_model.specs.Trial.{Trial, plain_at}
use Rattle.lvdc_report.specs.Report.{title_line, visible_in, outcome_of}
use Rattle.lvdc_report.specs.declared.title.Title.TheVariants as titles
use Rattle.lvdc_command_run.specs.Accounts.{end_status}
use Rattle.lvdc_command_run.specs.Answers.{plain_end_by, run_answer}
use Rattle.lvdc_command_run.specs.declared.job.Engine.TheVariants as engines
use Rattle.lvdc_command_run.specs.declared.job.Job.TheVariants as jobs
use Rattle.lvdc_command_form.specs.Texts.{TellsPlain}
use Rattle.lvdc_command_form.specs.Plainly.{has_question_mark, IsAsPlain}
use Rattle.lvdc_command_form.proofs.Clear.{Clear, ◌&◌, fixed, report-clear, counts-clear, repairs-clear}

not_five : (stop : Option Stop) (times : ℕ) → end_status (outcome_of (plain_end_by stop times)) ≢ 5
not_five None times e = absurd (omega (arith, e))
not_five (Some why) times e = absurd (omega (arith, e))

-- of two texts without a question mark the second has none
second : (a b : Bool) → (a || b) ≡ false → b ≡ false
second true b h = absurd (true≢false h)
second false b h = h

behind : (xs ys : List ℕ) → has_question_mark (xs ++ ys) ≡ false → has_question_mark ys ≡ false
behind xs ys h = second (has_question_mark xs) (has_question_mark ys) (sym (list_any-append _ xs ys) ∙ h)

module _ (o : Trial) (n : ℕ) where
  -- the report of the plain run
  plain-clear : Clear (run_answer (jobs.Deck engines.Plain) o n).text
  plain-clear =
      fixed (title_line titles.Plain) refl
      & report-clear (plain_end_by (plain_at o n).stop (plain_at o n).times) (visible_in (plain_at o n)) (plain_at o n).log (plain_at o n).banks (plain_at o n).memory

  pub as-plain : TellsPlain (guarded o (3 * n)) (run_answer (jobs.Deck engines.Guarded) o n) (run_answer (jobs.Deck engines.Plain) o n)
      → IsAsPlain (run_answer (jobs.Deck engines.Guarded) o n) (run_answer (jobs.Deck engines.Plain) o n)
  as-plain t =
      let v = guarded o (3 * n) in
      let lines : Clear t.lines =
      fixed t.lines (behind (title_line titles.Plain) t.lines (ap has_question_mark (sym t.plain_text) ∙ plain-clear.is)) in
      record {
        state = v;
        tells = t;
        admissible = λ e. not_five (plain_at o n).stop (plain_at o n).times (sym t.status ∙ e);
        known = ap has_question_mark t.text ∙ (fixed (title_line titles.Run) refl & lines & counts-clear v.counts & repairs-clear v.repairs).is;
      }
