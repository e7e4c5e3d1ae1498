-- What was read, where the source tells its bytes.
use Rattle.std.proofs.Common.{◌≡◌, ℕ, ◌+◌, ◌<◌, ◌≤◌, Bool, true, false, nat_lt, List, [], ◌++◌, length, None, Some, IsSome, if◌then◌else◌, refl, sym, ap, subst, ◌∙◌, arith, length-append}
use Rattle.std.proofs.lemmas.Bool.Decides.{nat_tests}
use Rattle.std.proofs.lemmas.List.{append-nil}
use Rattle.std.specs.declared.option.Option.{Option}
use Rattle.std.specs.Io.KnownBytes.{Consumes, IsAtEnd, Appends, Keeps}
use Rattle.lvdc_text.specs.Streams.{SourceState}
use Rattle.lvdc_text.specs.Transfer.{TookCount, TookAtMost}
use Rattle.lvdc_port.specs.Device.{Device}
use Rattle.lvdc_model.specs.Trial.{Trial}
use Rattle.lvdc_model.specs.declared.outcome.Outcome.{Outcome}
use Rattle.lvdc_reply.specs.Answer.{Answer}
use Rattle.lvdc_command_run.specs.declared.job.Job.{Job}
use Rattle.lvdc_cli.specs.declared.command.Command.{Command}
use Rattle.lvdc_cli.specs.Words.{reads, reads_for, limit_of, limit_for}
use Rattle.lvdc_cli.specs.Commands.{command_answer, input_of, too_long_answer, answer_by, Has}
use Rattle.lvdc_cli.specs.Top.{HasReadUpTo, HasRead}
use Rattle.lvdc_cli.proofs.Commands.{RunSays, command_is}

-- ---- bytes that are told

taken_le : (left rest : Option (List ℕ)) (bytes taken : List ℕ) → left ≡ Some bytes → Consumes left rest taken → length taken ≤ length bytes
taken_le None rest bytes taken h k = absurd (cc)
taken_le (Some x) None bytes taken h k = absurd k
taken_le (Some x) (Some y) bytes taken h k = let same : x ≡ bytes = cc in omega (arith, ap length k, ap length same, length-append taken y)

taken_whole : (left rest : Option (List ℕ)) (bytes taken : List ℕ) → left ≡ Some bytes → Consumes left rest taken → IsAtEnd rest → taken ≡ bytes
taken_whole None rest bytes taken h k e = absurd (cc)
taken_whole (Some x) None bytes taken h k e = absurd k
taken_whole (Some x) (Some y) bytes taken h k e = let same : x ≡ bytes = cc in sym (append-nil taken) ∙ ap (λ r. taken ++ r) (sym e) ∙ sym k ∙ same

-- what was taken has one length
taken_once : (left rest : Option (List ℕ)) (one other : List ℕ) → IsSome left → Consumes left rest one → Consumes left rest other → length one ≡ length other
taken_once None rest one other s h k = absurd (cc)
taken_once (Some x) None one other s h k = absurd h
taken_once (Some x) (Some y) one other s h k = omega (arith, ap length h, ap length k, length-append one y, length-append other y)

pub took_over : (limit : ℕ) (left rest : Option (List ℕ)) (bytes : List ℕ) → left ≡ Some bytes → TookCount left rest (limit + 1) → limit < length bytes
took_over limit left rest bytes h (taken, k, l) = omega (arith, l, taken_le left rest bytes taken h k)

pub took_both : {X : Type 0} (limit : ℕ) (left rest : Option (List ℕ)) → IsSome left → TookCount left rest (limit + 1) → TookAtMost left rest limit → X
took_both limit left rest s (one, h, l) (other, k, m) = absurd (omega (arith, l, m, taken_once left rest one other s h k))

-- nothing was taken
took_nothing : (left : Option (List ℕ)) → Consumes left left []
took_nothing None = tt
took_nothing (Some x) = refl

-- an empty text leaves what was written
pub keeps_nothing : (old new : Option (List ℕ)) → Appends old new [] → Keeps old new
keeps_nothing None new h = tt
keeps_nothing (Some x) None h = h
keeps_nothing (Some x) (Some y) h = h ∙ append-nil x

-- ---- what a command reads

module _ (limit : ℕ) (before after : SourceState) (taken : List ℕ) where
  read_small : (b : Bool) → HasReadUpTo b limit before after taken → length taken ≤ limit
  read_small true h = h.2
  read_small false h = omega (arith, ap length h.1)

  read_took : (b : Bool) → HasReadUpTo b limit before after taken → TookAtMost before.left after.left limit
  read_took true h = (taken, h.0, h.2)
  read_took false h =
      subst (λ (s : SourceState). TookAtMost before.left s.left limit) (sym h.0) ([], took_nothing before.left, omega arith)

  read_bytes : (b : Bool) (bytes : List ℕ) → (b ≡ true → before.left ≡ Some bytes) → HasReadUpTo b limit before after taken → taken ≡ (if b then bytes else [])
  read_bytes true bytes told h = taken_whole before.left after.left bytes taken (told refl) h.0 h.1
  read_bytes false bytes told h = h.1

  read_end : (b : Bool) → b ≡ true → HasReadUpTo b limit before after taken → IsAtEnd after.left
  read_end true e h = h.1
  read_end false e h = absurd (cc)

module _ (command : Command) (before after : SourceState) (taken : List ℕ) (read : HasRead command before after taken) where
  pub within_limit : length taken ≤ limit_of command
  within_limit = read_small (limit_of command) before after taken (reads_for command) read

  pub took_within : TookAtMost before.left after.left (limit_of command)
  took_within = read_took (limit_of command) before after taken (reads_for command) read

  pub is_input : (bytes : List ℕ) → (reads_for command ≡ true → before.left ≡ Some bytes) → taken ≡ input_of command bytes
  is_input bytes told = read_bytes (limit_of command) before after taken (reads_for command) bytes told read

  pub to_end : reads_for command ≡ true → IsAtEnd after.left
  to_end e = read_end (limit_of command) before after taken (reads_for command) e read

-- ---- the answer by what the command reads

input_small : (limit : ℕ) (b : Bool) (bytes : List ℕ) → length bytes ≤ limit → length (if b then bytes else []) ≤ limit
input_small limit true bytes l = l
input_small limit false bytes l = omega arith

-- an input within the limit
pub answer_small : (command : Command) (bytes : List ℕ) (devices : List Device) → length (input_of command bytes) ≤ limit_of command
    → answer_by (Some command) bytes devices ≡ command_answer command (input_of command bytes) devices
answer_small command bytes devices l =
    let small : nat_lt (limit_of command) (length (input_of command bytes)) ≡ false = grind (arith, nat_tests) in
    rw small refl

-- an input above it
pub answer_large : (o : Option Command) (bytes : List ℕ) (devices : List Device) → reads o ≡ true → limit_for o < length bytes → answer_by o bytes devices ≡ too_long_answer devices
answer_large None bytes devices s l = absurd (cc)
answer_large (Some command) bytes devices s l =
    let all : input_of command bytes ≡ bytes = rw s refl in
    let long : limit_of command < length (input_of command bytes) = omega (arith, ap length all) in
    let large : nat_lt (limit_of command) (length (input_of command bytes)) ≡ true = grind (arith, nat_tests) in
    rw large refl

-- a run has its status
pub answer_is : (P : Job → Trial → ℕ → Type 0) (Q : Option Outcome → Type 0) (n : ℕ) → RunSays P Q n → (o : Option Command) (bytes : List ℕ) (devices : List Device)
    → length bytes ≤ limit_for o → Has P Q o bytes devices → (answer_by o bytes devices).status ≡ n
answer_is P Q n law None bytes devices l h = absurd h
answer_is P Q n law (Some command) bytes devices l h =
    ap (λ (a : Answer). a.status) (answer_small command bytes devices (input_small (limit_of command) (reads_for command) bytes l))
    ∙ command_is P Q n law command (input_of command bytes) devices h
