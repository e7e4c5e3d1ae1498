-- When `run` answers as `run --plain` does.
use Rattle.std.specs.Prelude.{◌≡◌, ◌≢◌, ℕ, Bool, false, ◌==◌, List}
use Rattle.std.specs.List.{list_any}
use Rattle.lvdc_port.specs.Device.{Device}
use Rattle.lvdc_model.specs.Voted.{Voted}
use Rattle.lvdc_reply.specs.Answer.{Answer}
use Rattle.lvdc_command_run.specs.Answers.{job_answer}
use Rattle.lvdc_command_run.specs.declared.job.Engine.TheVariants as engines
use Rattle.lvdc_command_run.specs.declared.job.Job.TheVariants as jobs
use Rattle.lvdc_command_form.specs.Texts.{TellsPlain}

-- a question mark stands in the text, as in the line of a word that can't be told
abbrev pub has_question_mark : List ℕ → Bool
has_question_mark text = list_any (λ byte. byte == 63) text

-- the answer of `run` tells what that of `run --plain` tells: no step was inadmissible, and each word is told
pub record IsAsPlain (run plain : Answer) : Type 0 where
  pub state : Voted
  pub tells : TellsPlain state run plain
  pub admissible : run.status ≢ 5
  pub known : has_question_mark run.text ≡ false

-- so it is of the two answers to these bytes
abbrev pub RunsAsPlain : List ℕ → List Device → Type 0
RunsAsPlain bytes devices = IsAsPlain (job_answer (jobs.Deck engines.Guarded) bytes devices) (job_answer (jobs.Deck engines.Plain) bytes devices)
