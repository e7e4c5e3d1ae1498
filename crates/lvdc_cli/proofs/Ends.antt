-- What the end of a call says of its status.
use Rattle.std.proofs.Common.{◌≡◌, ◌≢◌, ℕ, ◌+◌, ◌<◌, ◌≤◌, true, List, length, map, None, Some, IsSome, refl, sym, subst, ◌∙◌, ap, inl, inr, ◌⊎◌, arith}
use Rattle.std.specs.declared.option.Option.{Option}
use Rattle.std.specs.Io.KnownBytes.{Appends, IsAtEnd}
use Rattle.lvdc_text.specs.Causes.{Rose}
use Rattle.lvdc_text.specs.Streams.{SourceState, SinkState}
use Rattle.lvdc_text.specs.Transfer.{TookCount}
use Rattle.lvdc_port.specs.Device.{Device}
use Rattle.lvdc_model.specs.Trial.{Trial}
use Rattle.lvdc_model.specs.declared.outcome.Outcome.{Outcome}
use Rattle.lvdc_reply.specs.Answer.{Answer, answer_with}
use Rattle.lvdc_reply.specs.Replies.{Quiet}
use Rattle.lvdc_command_run.specs.declared.job.Engine.TheVariants.{Guarded}
use Rattle.lvdc_command_run.specs.declared.job.Job.{Job}
use Rattle.lvdc_cli.specs.declared.command.Command.{Command}
use Rattle.lvdc_cli.specs.declared.command.Command.TheVariants.{Run}
use Rattle.lvdc_cli.specs.Words.{command_of, reads, limit_for}
use Rattle.lvdc_cli.specs.Texts.{usage_text, read_fault_text, too_long_text}
use Rattle.lvdc_cli.specs.Commands.{FailsInCommand, input_of, RunsThat, Has, IsReplyTo, HoldsFor, answer}
use Rattle.lvdc_cli.specs.Outside.{Outside, outside}
use Rattle.lvdc_cli.specs.Top.{HasRead, IsInput, IsDue, IsTold, told, cut, IsEnd, IsReplied, CarriesHeadline, IsCut, HasFailed, IsUnhindered, IsOfReply, IsRefusal, IsWanting}
use Rattle.lvdc_cli.proofs.Answered.{reply_failed}
use Rattle.lvdc_cli.proofs.Commands.{StatusSays, RunSays, HeadlineTold, reply_headline, reply_runs}
use Rattle.lvdc_cli.proofs.Inputs.{keeps_nothing, is_input, answer_is}
use Rattle.lvdc_cli.proofs.Dues.{due_reply, due_1, due_none, due_7, due_9, due_11, not_8, due_grew, due_large, due_end, due_quiet, due_kept, due_answer}

-- ---- what was told

-- the whole text was written, and its status answered
pub record IsWhole (before after : SinkState) (status : ℕ) (text : List ℕ) (result : ℕ) : Type 0 where
  pub status_is : result ≡ status
  pub written : Appends before.written after.written text

module _ {before after : SinkState} {status : ℕ} {text : List ℕ} {result : ℕ} where
  told_whole : result ≢ 8 → IsTold before after status text result → IsWhole before after status text result
  told_whole n (told r a q room) = record { status_is = r; written = a }
  told_whole n (cut r u l k m a) = absurd (n r)

  told_grew : before.faults < after.faults → IsTold before after status text result → result ≡ 8
  told_grew g (told r a q room) = absurd (omega arith)
  told_grew g (cut r u l k m a) = r

  told_or : (n : ℕ) → status ≡ n → IsTold before after status text result → (result ≡ n) ⊎ (result ≡ 8)
  told_or n e (told r a q room) = inl (r ∙ e)
  told_or n e (cut r u l k m a) = inr r

-- ---- the end

-- a status that only a run comes to
of_run : {result : ℕ} (n : ℕ) → (n ≡ 5) ⊎ (n ≡ 6) ⊎ (n ≡ 10) → result ≡ n → IsOfReply result
of_run n s is =
    record {
      no_usage = λ x. omega (arith, s, is, x);
      no_read_fault = λ x. omega (arith, s, is, x);
      no_write_fault = λ x. omega (arith, s, is, x);
      memory = λ x. omega (arith, s, is, x);
      no_too_long = λ x. omega (arith, s, is, x);
    }

-- the end, from what is due whatever the sink is, and from what was told
pub ended : {B : Type 0} {device_of : B → Device} {faults : B → ℕ} {words : List (List ℕ)} {source rest : SourceState} {old new : List B} {sink now : SinkState}
    (due : Answer) (status : ℕ) (text : List ℕ) (result : ℕ)
    → ((s t : SinkState) → IsDue device_of faults words (outside source s old) (outside rest t new) due) → map device_of new ≡ due.devices
    → status ≡ due.status → text ≡ due.text → IsTold sink now status text result
    → IsEnd device_of faults words (outside source sink old) (outside rest now new) result
ended {sink} {now} due status text result is devices s t h =
    record {
      due = due;
      is_due = is sink now;
      devices = devices;
      told = subst (λ (n : ℕ). IsTold sink now n due.text result) s (subst (λ (x : List ℕ). IsTold sink now status x result) t h);
    }

module _ {B : Type 0} {device_of : B → Device} {faults : B → ℕ} {words : List (List ℕ)} {before after : Outside B} {result : ℕ} where
  -- the answer that is due, where it was told whole
  whole : result ≢ 8 → (e : IsEnd device_of faults words before after result) → IsWhole before.sink after.sink e.due.status e.due.text result
  whole n e = told_whole n e.told

  pub end_usage : command_of words ≡ None → IsEnd device_of faults words before after result → IsTold before.sink after.sink 1 usage_text result
  end_usage n e = subst (λ (a : Answer). IsTold before.sink after.sink a.status a.text result) (due_none e.due n e.is_due) e.told

  pub end_usage_only : result ≡ 1 → IsEnd device_of faults words before after result → command_of words ≡ None
  end_usage_only is e = let w = whole (λ x. omega arith) e in due_1 e.due (sym w.status_is ∙ is) e.is_due

  pub end_read : reads (command_of words) ≡ true → result ≢ 7 → result ≢ 8 → result ≢ 9 → result ≢ 11 → IsEnd device_of faults words before after result
      → IsAtEnd after.source.left
  end_read r a b c d e =
      let w = whole b e in
      due_end e.due r (λ x. a (w.status_is ∙ x)) (λ x. c (w.status_is ∙ x)) (λ x. d (w.status_is ∙ x)) e.is_due

  pub end_read_fault : result ≡ 7 → IsEnd device_of faults words before after result
      → Rose before.source.faults after.source.faults × Appends before.sink.written after.sink.written read_fault_text
  end_read_fault is e =
      let w = whole (λ x. omega arith) e in
      let d = due_7 e.due (sym w.status_is ∙ is) e.is_due in
      (d.0, subst (λ (a : Answer). Appends before.sink.written after.sink.written a.text) d.1 w.written)

  pub end_read_grew : before.source.faults < after.source.faults → IsEnd device_of faults words before after result → (result ≡ 7) ⊎ (result ≡ 8)
  end_read_grew g e = told_or 7 (due_grew e.due g e.is_due) e.told

  pub end_cut : result ≡ 8 → IsEnd device_of faults words before after result → IsCut device_of faults words before after
  end_cut is e = by_told e.told
    where
      by_told : IsTold before.sink after.sink e.due.status e.due.text result → IsCut device_of faults words before after
      by_told (told r a q room) = absurd (not_8 e.due e.is_due (sym r ∙ is))
      by_told (cut r u l n m a) = record { rose = u; due = e.due; is_due = e.is_due; devices = e.devices; count = n; short = m; written = a }

  pub end_write_grew : before.sink.faults < after.sink.faults → IsEnd device_of faults words before after result → result ≡ 8
  end_write_grew g e = told_grew g e.told

  pub end_memory : result ≡ 9 → IsEnd device_of faults words before after result → IsWanting device_of faults words before after
  end_memory is e =
      let w = whole (λ x. omega arith) e in
      let d = due_9 e.due (sym w.status_is ∙ is) e.is_due in
      record {
        asked = d.asked;
        silent = keeps_nothing before.sink.written after.sink.written
            (subst (λ (a : Answer). Appends before.sink.written after.sink.written a.text) d.is w.written);
        quiet = d.quiet;
        took = d.took;
        abandoned = d.abandoned;
      }

  pub end_quiet : result ≢ 8 → result ≢ 9 → result ≢ 10 → IsEnd device_of faults words before after result → Quiet device_of faults before.devices after.devices
  end_quiet a b c e = let w = whole a e in due_quiet e.due (λ x. b (w.status_is ∙ x)) (λ x. c (w.status_is ∙ x)) e.is_due

  pub end_too_long : result ≡ 11 → IsEnd device_of faults words before after result
      → TookCount before.source.left after.source.left (limit_for (command_of words) + 1) × Appends before.sink.written after.sink.written too_long_text
  end_too_long is e =
      let w = whole (λ x. omega arith) e in
      let d = due_11 e.due (sym w.status_is ∙ is) e.is_due in
      (d.0, subst (λ (a : Answer). Appends before.sink.written after.sink.written a.text) d.1 w.written)

  pub end_took_more : IsSome before.source.left → reads (command_of words) ≡ true → TookCount before.source.left after.source.left (limit_for (command_of words) + 1)
      → IsEnd device_of faults words before after result → (result ≡ 11) ⊎ (result ≡ 8)
  end_took_more i s t e = told_or 11 (due_large e.due i s t e.is_due) e.told

  pub end_kept : IsRefusal result → IsEnd device_of faults words before after result → after.devices ≡ before.devices
  end_kept r e =
      let w = whole (λ x. omega (arith, r)) e in
      due_kept e.due (subst (λ (n : ℕ). IsRefusal n) w.status_is r) e.is_due

  pub end_answer : (bytes : List ℕ) → IsInput words before.source.left bytes → IsUnhindered result → IsEnd device_of faults words before after result
      → (result ≡ (answer words bytes (map device_of before.devices)).status)
      × Appends before.sink.written after.sink.written (answer words bytes (map device_of before.devices)).text
      × (map device_of after.devices ≡ (answer words bytes (map device_of before.devices)).devices)
  end_answer bytes h u e =
      let w = whole u.no_write_fault e in
      let same : e.due ≡ answer words bytes (map device_of before.devices) =
      due_answer e.due bytes h (λ x. u.no_read_fault (w.status_is ∙ x)) (λ x. u.memory (w.status_is ∙ x)) (λ x. u.no_device_fault (w.status_is ∙ x)) e.is_due in
      subst (λ (a : Answer). (result ≡ a.status) × Appends before.sink.written after.sink.written a.text × (map device_of after.devices ≡ a.devices)) same
      (w.status_is, w.written, e.devices)

  -- ---- the reply

  pub end_replied : IsOfReply result → IsEnd device_of faults words before after result → IsReplied device_of faults words before after result
  end_replied f e =
      let w = whole f.no_write_fault e in
      let r =
      due_reply e.due (λ x. f.no_usage (w.status_is ∙ x)) (λ x. f.no_read_fault (w.status_is ∙ x)) (λ x. f.memory (w.status_is ∙ x)) (λ x. f.no_too_long (w.status_is ∙ x))
      e.is_due in
      let status : e.due.status ≡ result = sym w.status_is in
      let devices : e.due.devices ≡ map device_of after.devices = sym e.devices in
      let same : e.due ≡ answer_with result e.due.text (map device_of after.devices) = λ i. answer_with (status i) e.due.text (devices i) in
      record {
        command = r.command;
        asked = r.asked;
        bytes = r.bytes;
        read = r.read;
        text = e.due.text;
        written = w.written;
        reply = subst (λ (a : Answer). IsReplyTo device_of faults r.command r.bytes before.devices after.devices a) same r.reply;
        holds = subst (λ (a : Answer). HoldsFor r.command r.bytes (map device_of before.devices) a) same r.holds;
      }

  pub end_headline : HeadlineTold → command_of words ≡ Some (Run Guarded) → IsUnhindered result → result ≢ 11
      → IsEnd device_of faults words before after result → CarriesHeadline device_of before after result
  end_headline law asked u n e =
      let r =
      end_replied (record {
        no_usage = λ x. let none = end_usage_only x e in absurd (cc (none, asked));
        no_read_fault = u.no_read_fault;
        no_write_fault = u.no_write_fault;
        memory = u.memory;
        no_too_long = n;
      }) e in
      let same : Some r.command ≡ Some (Run Guarded) = sym r.asked ∙ asked in
      let is : r.command ≡ Run Guarded = cc same in
      record {
        bytes = r.bytes;
        read = subst (λ (c : Command). HasRead c before.source after.source r.bytes) is r.read;
        text = r.text;
        written = r.written;
        headline = λ deck means. reply_headline r.command r.bytes law (answer_with result r.text (map device_of after.devices)) u.no_device_fault r.reply deck is means;
      }

  -- ---- statuses of runs, where the input is known

  -- what is so of the bytes that were read is so of what the command reads of those that are told
  of_input : (P : List ℕ → Type 0) (r : IsReplied device_of faults words before after result) (bytes : List ℕ) → IsInput words before.source.left bytes → P r.bytes
      → P (input_of r.command bytes)
  of_input P r bytes h p = subst P (is_input r.command before.source after.source r.bytes r.read bytes (λ x. h (ap reads r.asked ∙ x))) p

  pub end_has : (P : Job → Trial → ℕ → Type 0) (Q : Option Outcome → Type 0) (n : ℕ) → (n ≡ 5) ⊎ (n ≡ 6) → StatusSays P Q n → (bytes : List ℕ) → IsInput words before.source.left bytes → result ≡ n
      → IsEnd device_of faults words before after result → Has P Q (command_of words) bytes (map device_of before.devices)
  end_has P Q n s law bytes h is e =
      let r = end_replied (of_run n (elim s [ inl x ↦ inl x | inr x ↦ inr (inl x) ]) is) e in
      let runs : RunsThat P Q r.command (input_of r.command bytes) (map device_of before.devices) =
      of_input (λ (xs : List ℕ). RunsThat P Q r.command xs (map device_of before.devices)) r bytes h
      (reply_runs r.command r.bytes P Q n s law (answer_with result r.text (map device_of after.devices)) is r.reply) in
      subst (λ (o : Option Command). Has P Q o bytes (map device_of before.devices)) (sym r.asked) runs

  pub end_is : (P : Job → Trial → ℕ → Type 0) (Q : Option Outcome → Type 0) (n : ℕ) → RunSays P Q n → (bytes : List ℕ) → IsInput words before.source.left bytes
      → length bytes ≤ limit_for (command_of words)
      → IsUnhindered result → Has P Q (command_of words) bytes (map device_of before.devices) → IsEnd device_of faults words before after result → result ≡ n
  end_is P Q n law bytes h l u has e =
      let all = end_answer bytes h u e in
      all.0 ∙ answer_is P Q n law (command_of words) bytes (map device_of before.devices) l has

  pub end_failed : (bytes : List ℕ) → IsInput words before.source.left bytes → result ≡ 10 → IsEnd device_of faults words before after result
      → HasFailed device_of faults words bytes before after
  end_failed bytes h is e =
      let r = end_replied (of_run 10 (inr (inr refl)) is) e in
      let f = reply_failed (answer_with result r.text (map device_of after.devices)) is r.reply in
      record {
        command = r.command;
        asked = r.asked;
        step = f.step;
        port = f.port;
        reply = answer_with result r.text (map device_of after.devices);
        fails = of_input (λ (xs : List ℕ). FailsInCommand r.command xs (map device_of before.devices) f.step f.port (answer_with result r.text (map device_of after.devices)))
            r bytes h f.fails;
        rose = f.rose;
        others = f.others;
        written = r.written;
        devices = refl;
      }
