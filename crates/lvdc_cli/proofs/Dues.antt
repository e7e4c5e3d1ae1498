-- What the answer that is due says of its status.
use Rattle.std.proofs.Common.{◌≡◌, ◌≢◌, ℕ, ◌+◌, ◌<◌, true, List, length, map, None, Some, IsSome, refl, sym, ap, subst, ◌∙◌, inl, inr, arith}
use Rattle.std.specs.declared.option.Option.{Option}
use Rattle.std.specs.Io.KnownBytes.{IsAtEnd}
use Rattle.lvdc_text.specs.Causes.{Rose}
use Rattle.lvdc_text.specs.Streams.{SourceState}
use Rattle.lvdc_text.specs.Transfer.{TookCount, TookAtMost}
use Rattle.lvdc_port.specs.Device.{Device}
use Rattle.lvdc_reply.specs.Answer.{Answer}
use Rattle.lvdc_reply.specs.Replies.{Quiet, IsRefused}
use Rattle.lvdc_reply.proofs.Statuses.{kept_quiet}
use Rattle.lvdc_cli.specs.declared.command.Command.{Command}
use Rattle.lvdc_cli.specs.Words.{command_of, reads, limit_of, limit_for}
use Rattle.lvdc_cli.specs.Commands.{command_answer, input_of, usage_answer, read_fault_answer, too_long_answer, memory_answer, IsReplyTo, IsLeftUnanswered, answer_by, answer, HoldsFor}
use Rattle.lvdc_cli.specs.Outside.{Outside}
use Rattle.lvdc_cli.specs.Top.{HasRead, IsInput, IsAbandoned, after_reading, IsDue, usage, read_fault, too_long, replied, wants_memory, IsRefusal}
use Rattle.lvdc_cli.proofs.Answered.{reply_answer, reply_quiet, reply_kept, reply_not}
use Rattle.lvdc_cli.proofs.Inputs.{took_over, took_both, within_limit, took_within, is_input, to_end, answer_small, answer_large}

-- the words are a command, or none
clash : {X : Type 0} (o : Option Command) → o ≡ None → IsSome o → X
clash None e s = absurd (cc)
clash (Some x) e s = absurd (cc)

reads_some : (o : Option Command) → reads o ≡ true → IsSome o
reads_some None e = absurd (cc)
reads_some (Some command) e = refl

pub some_command : (o : Option Command) (command : Command) → o ≡ Some command → IsSome o
some_command None command e = absurd (cc)
some_command (Some x) command e = refl

-- what was taken for a command, as the words ask for it
module _ (left rest : Option (List ℕ)) (words : List (List ℕ)) (command : Command) (asked : command_of words ≡ Some command) where
  pub at_most_asked : TookAtMost left rest (limit_of command) → TookAtMost left rest (limit_for (command_of words))
  at_most_asked h = subst (λ (o : Option Command). TookAtMost left rest (limit_for o)) (sym asked) h

  pub count_asked : TookCount left rest (limit_of command + 1) → TookCount left rest (limit_for (command_of words) + 1)
  count_asked h = subst (λ (o : Option Command). TookCount left rest (limit_for o + 1)) (sym asked) h

-- what was read for a command is no more than its words may read
took_for : (words : List (List ℕ)) (before after : SourceState) (command : Command) (bytes : List ℕ) → command_of words ≡ Some command
    → HasRead command before after bytes → TookAtMost before.left after.left (limit_for (command_of words))
took_for words before after command bytes asked read =
    at_most_asked before.left after.left words command asked (took_within command before after bytes read)

-- the answer is a command's reply
pub record IsOfCommand {B : Type 0} (device_of : B → Device) (faults : B → ℕ) (words : List (List ℕ)) (before after : Outside B) (due : Answer) : Type 0 where
  pub command : Command
  pub asked : command_of words ≡ Some command
  pub bytes : List ℕ
  pub read : HasRead command before.source after.source bytes
  pub reply : IsReplyTo device_of faults command bytes before.devices after.devices due
  pub holds : HoldsFor command bytes (map device_of before.devices) due

-- memory is wanting
pub record IsWant {B : Type 0} (device_of : B → Device) (faults : B → ℕ) (words : List (List ℕ)) (before after : Outside B) (due : Answer) : Type 0 where
  pub asked : IsSome (command_of words)
  pub quiet : after.source.faults ≡ before.source.faults
  pub took : TookAtMost before.source.left after.source.left (limit_for (command_of words))
  pub abandoned : IsAbandoned device_of faults words before after
  pub is : due ≡ memory_answer (map device_of after.devices)

module _ {B : Type 0} {device_of : B → Device} {faults : B → ℕ} {words : List (List ℕ)} {before after : Outside B} where
  -- the reply, or the want of memory, of a command over these bytes in memory
  pub replied_over : (command : Command) (bytes slice : List ℕ) (reply : Answer) → command_of words ≡ Some command
      → after.source.faults ≡ before.source.faults → HasRead command before.source after.source bytes → slice ≡ bytes
      → IsReplyTo device_of faults command slice before.devices after.devices reply → HoldsFor command slice (map device_of before.devices) reply
      → IsDue device_of faults words before after reply
  replied_over command bytes slice reply asked quiet read same h holds =
      replied command bytes reply asked quiet read
      (subst (λ (xs : List ℕ). IsReplyTo device_of faults command xs before.devices after.devices reply) same h)
      (subst (λ (xs : List ℕ). HoldsFor command xs (map device_of before.devices) reply) same holds)

  pub wanting_over : (command : Command) (bytes slice : List ℕ) → command_of words ≡ Some command
      → after.source.faults ≡ before.source.faults → HasRead command before.source after.source bytes → slice ≡ bytes
      → IsLeftUnanswered device_of faults command slice before.devices after.devices
      → IsDue device_of faults words before after (memory_answer (map device_of after.devices))
  wanting_over command bytes slice asked quiet read same h =
      wants_memory (some_command (command_of words) command asked) quiet (took_for words before.source after.source command bytes asked read)
      (after_reading command bytes asked read
      (subst (λ (xs : List ℕ). IsLeftUnanswered device_of faults command xs before.devices after.devices) same h))

  pub due_reply : (due : Answer) → due.status ≢ 1 → due.status ≢ 7 → due.status ≢ 9 → due.status ≢ 11 → IsDue device_of faults words before after due
      → IsOfCommand device_of faults words before after due
  due_reply due a b c d (usage none source devices) = absurd (a refl)
  due_reply due a b c d (read_fault s r t k) = absurd (b refl)
  due_reply due a b c d (too_long s q t k) = absurd (d refl)
  due_reply due a b c d (replied command bytes reply asked quiet read is holds) =
      record { command = command; asked = asked; bytes = bytes; read = read; reply = is; holds = holds }
  due_reply due a b c d (wants_memory s q t w) = absurd (c refl)

  pub due_1 : (due : Answer) → due.status ≡ 1 → IsDue device_of faults words before after due → command_of words ≡ None
  due_1 due e (usage none source devices) = none
  due_1 due e (read_fault s r t k) = absurd (cc)
  due_1 due e (too_long s q t k) = absurd (cc)
  due_1 due e (replied command bytes reply asked quiet read is holds) = absurd (reply_not 1 (inl refl) reply is e)
  due_1 due e (wants_memory s q t w) = absurd (cc)

  pub due_none : (due : Answer) → command_of words ≡ None → IsDue device_of faults words before after due → due ≡ usage_answer (map device_of after.devices)
  due_none due n (usage none source devices) = refl
  due_none due n (read_fault s r t k) = clash (command_of words) n (reads_some (command_of words) s)
  due_none due n (too_long s q t k) = clash (command_of words) n (reads_some (command_of words) s)
  due_none due n (replied command bytes reply asked quiet read is holds) = clash (command_of words) n (some_command (command_of words) command asked)
  due_none due n (wants_memory s q t w) = clash (command_of words) n s

  pub due_7 : (due : Answer) → due.status ≡ 7 → IsDue device_of faults words before after due
      → Rose before.source.faults after.source.faults × (due ≡ read_fault_answer (map device_of after.devices))
  due_7 due e (usage none source devices) = absurd (cc)
  due_7 due e (read_fault s r t k) = (r, refl)
  due_7 due e (too_long s q t k) = absurd (cc)
  due_7 due e (replied command bytes reply asked quiet read is holds) = absurd (reply_not 7 (inr (inl refl)) reply is e)
  due_7 due e (wants_memory s q t w) = absurd (cc)

  pub due_9 : (due : Answer) → due.status ≡ 9 → IsDue device_of faults words before after due → IsWant device_of faults words before after due
  due_9 due e (usage none source devices) = absurd (cc)
  due_9 due e (read_fault s r t k) = absurd (cc)
  due_9 due e (too_long s q t k) = absurd (cc)
  due_9 due e (replied command bytes reply asked quiet read is holds) = absurd (reply_not 9 (inr (inr (inr (inl refl)))) reply is e)
  due_9 due e (wants_memory s q t w) = record { asked = s; quiet = q; took = t; abandoned = w; is = refl }

  pub due_11 : (due : Answer) → due.status ≡ 11 → IsDue device_of faults words before after due
      → TookCount before.source.left after.source.left (limit_for (command_of words) + 1) × (due ≡ too_long_answer (map device_of after.devices))
  due_11 due e (usage none source devices) = absurd (cc)
  due_11 due e (read_fault s r t k) = absurd (cc)
  due_11 due e (too_long s q t k) = (t, refl)
  due_11 due e (replied command bytes reply asked quiet read is holds) = absurd (reply_not 11 (inr (inr (inr (inr refl)))) reply is e)
  due_11 due e (wants_memory s q t w) = absurd (cc)

  pub not_8 : (due : Answer) → IsDue device_of faults words before after due → due.status ≢ 8
  not_8 due (usage none source devices) = λ e. cc
  not_8 due (read_fault s r t k) = λ e. cc
  not_8 due (too_long s q t k) = λ e. cc
  not_8 due (replied command bytes reply asked quiet read is holds) = reply_not 8 (inr (inr (inl refl))) reply is
  not_8 due (wants_memory s q t w) = λ e. cc

  -- the source's count grew
  pub due_grew : (due : Answer) → before.source.faults < after.source.faults → IsDue device_of faults words before after due → due.status ≡ 7
  due_grew due g (usage none source devices) = absurd (omega (arith, g, ap (λ s. s.faults) source))
  due_grew due g (read_fault s r t k) = refl
  due_grew due g (too_long s q t k) = absurd (omega arith)
  due_grew due g (replied command bytes reply asked quiet read is holds) = absurd (omega arith)
  due_grew due g (wants_memory s q t w) = absurd (omega arith)

  -- one byte too many was taken
  pub due_large : (due : Answer) → IsSome before.source.left → reads (command_of words) ≡ true → TookCount before.source.left after.source.left (limit_for (command_of words) + 1)
      → IsDue device_of faults words before after due → due.status ≡ 11
  due_large due i s t (usage none source devices) = clash (command_of words) none (reads_some (command_of words) s)
  due_large due i s t (read_fault s' r m k) = took_both (limit_for (command_of words)) before.source.left after.source.left i t m
  due_large due i s t (too_long s' q m k) = refl
  due_large due i s t (replied command bytes reply asked quiet read is holds) =
      took_both (limit_for (command_of words)) before.source.left after.source.left i t (took_for words before.source after.source command bytes asked read)
  due_large due i s t (wants_memory s' q m w) = took_both (limit_for (command_of words)) before.source.left after.source.left i t m

  pub due_end : (due : Answer) → reads (command_of words) ≡ true → due.status ≢ 7 → due.status ≢ 9 → due.status ≢ 11
      → IsDue device_of faults words before after due → IsAtEnd after.source.left
  due_end due a b c d (usage none source devices) = clash (command_of words) none (reads_some (command_of words) a)
  due_end due a b c d (read_fault s r t k) = absurd (b refl)
  due_end due a b c d (too_long s q t k) = absurd (d refl)
  due_end due a b c d (replied command bytes reply asked quiet read is holds) =
      to_end command before.source after.source bytes read (sym (ap reads asked) ∙ a)
  due_end due a b c d (wants_memory s q t w) = absurd (c refl)

  pub due_quiet : (due : Answer) → due.status ≢ 9 → due.status ≢ 10 → IsDue device_of faults words before after due
      → Quiet device_of faults before.devices after.devices
  due_quiet due a b (usage none source devices) = kept_quiet device_of faults before.devices after.devices devices
  due_quiet due a b (read_fault s r t k) = kept_quiet device_of faults before.devices after.devices k
  due_quiet due a b (too_long s q t k) = kept_quiet device_of faults before.devices after.devices k
  due_quiet due a b (replied command bytes reply asked quiet read is holds) = reply_quiet reply b is
  due_quiet due a b (wants_memory s q t w) = absurd (a refl)

  pub due_kept : (due : Answer) → IsRefusal due.status → IsDue device_of faults words before after due → after.devices ≡ before.devices
  due_kept due r (usage none source devices) = devices
  due_kept due r (read_fault s r' t k) = k
  due_kept due r (too_long s q t k) = k
  due_kept due r (replied command bytes reply asked quiet read is holds) = reply_kept reply (refused_left reply.status r (reply_not 1 (inl refl) reply is)
      (reply_not 7 (inr (inl refl)) reply is) (reply_not 11 (inr (inr (inr (inr refl)))) reply is)) is
    where
      refused_left : (n : ℕ) → IsRefusal n → n ≢ 1 → n ≢ 7 → n ≢ 11 → IsRefused n
      refused_left n (inl e) a b c = absurd (a e)
      refused_left n (inr (inl e)) a b c = inl e
      refused_left n (inr (inr (inl e))) a b c = inr (inl e)
      refused_left n (inr (inr (inr (inl e)))) a b c = inr (inr e)
      refused_left n (inr (inr (inr (inr (inl e))))) a b c = absurd (b e)
      refused_left n (inr (inr (inr (inr (inr e))))) a b c = absurd (c e)
  due_kept due r (wants_memory s q t w) = absurd (omega (arith, r))

  -- the answer over the bytes of the input
  pub due_answer : (due : Answer) (bytes : List ℕ) → IsInput words before.source.left bytes → due.status ≢ 7 → due.status ≢ 9 → due.status ≢ 10
      → IsDue device_of faults words before after due → due ≡ answer words bytes (map device_of before.devices)
  due_answer due bytes told a b c (usage none source devices) =
      ap (λ (ds : List B). usage_answer (map device_of ds)) devices
      ∙ ap (λ (o : Option Command). answer_by o bytes (map device_of before.devices)) (sym none)
  due_answer due bytes told a b c (read_fault s r t k) = absurd (a refl)
  due_answer due bytes told a b c (too_long s q t k) =
      ap (λ (ds : List B). too_long_answer (map device_of ds)) k
      ∙ sym (answer_large (command_of words) bytes (map device_of before.devices) s (took_over (limit_for (command_of words)) before.source.left after.source.left bytes (told s) t))
  due_answer due bytes told a b c (replied command taken reply asked quiet read is holds) =
      let same : taken ≡ input_of command bytes = is_input command before.source after.source taken read bytes (λ r. told (ap reads asked ∙ r)) in
      reply_answer reply c is ∙ ap (λ (xs : List ℕ). command_answer command xs (map device_of before.devices)) same
      ∙ sym (answer_small command bytes (map device_of before.devices) (omega (arith, ap length same, within_limit command before.source after.source taken read)))
      ∙ ap (λ (o : Option Command). answer_by o bytes (map device_of before.devices)) (sym asked)
  due_answer due bytes told a b c (wants_memory s q t w) = absurd (b refl)
