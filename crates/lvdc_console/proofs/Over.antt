-- What the top call promises over boxes is what it promises over the devices that the boxes are.
use Rattle.std.proofs.Common.{◌≡◌, ◌≢◌, ℕ, List, map, false, Ok, Err, Result, IfOk, sym, ap, subst, ◌∙◌, arith}
use Rattle.std.proofs.lemmas.List.{map-id}
use Rattle.std.specs.declared.option.Option.{Option}
use Rattle.std.specs.Io.KnownBytes.{Appends}
use Rattle.lvdc_text.specs.Streams.{SourceState, SinkState}
use Rattle.lvdc_port.specs.Device.{Device}
use Rattle.lvdc_port.specs.Devices.{NeverFail}
use Rattle.lvdc_deck.specs.Deck.{deck_of}
use Rattle.lvdc_deck.specs.declared.deck.Deck.{Deck}
use Rattle.lvdc_reply.specs.Answer.{Answer, answer_with}
use Rattle.lvdc_reply.proofs.Statuses.{never-failed}
use Rattle.lvdc_reply.specs.declared.reply.Reply.{Reply as Told}
use Rattle.lvdc_word.specs.declared.memory.NoMemory.{NoMemory}
use Rattle.lvdc_command_run.specs.declared.job.Engine.TheVariants.{Guarded}
use Rattle.lvdc_command_run.specs.Headline.{Headline}
use Rattle.lvdc_command_run.specs.Trials.{trial_of}
use Rattle.lvdc_cli.specs.declared.command.Command.{Command}
use Rattle.lvdc_cli.specs.declared.command.Command.TheVariants.{Run}
use Rattle.lvdc_cli.specs.Commands.{command_answer, IsReplyTo, HoldsFor, answer}
use Rattle.lvdc_cli.specs.Outside.{Outside, outside}
use Rattle.lvdc_cli.specs.Top.{IsDue, usage, read_fault, too_long, replied, wants_memory, IsTold, told, cut, IsEnd, IsUnhindered, CarriesHeadline}
use Rattle.lvdc_console.specs.Over.{IsReplied, IsUntroubled, IsDueOver, usage as usage_over, read_fault as read_fault_over, too_long as too_long_over, replied as replied_over, wants_memory as wants_memory_over, IsAnswerOver, CarriesHeadlineOver}

-- what is told with a status that is no failure of a device has none
never_told : {before after : SinkState} {due result : ℕ} {text : List ℕ} → due ≢ 10 → IsTold before after due text result → result ≢ 10
never_told free (told is appends same room) = λ e. free (sym is ∙ e)
never_told free (cut is rose grew n short appends) = λ e. absurd (omega (arith, is, e))

module _ {B : Type 0} {device_of : B → Device} {faults : B → ℕ} where
  -- what is due, and that it is no failure of a device
  due_over : {words : List (List ℕ)} {before after : Outside B} {due : Answer} → IsDue device_of faults words before after due → NeverFail faults before.devices
      → IsDueOver (map device_of before.devices) words before.source after.source due.status due.text × (due.status ≢ 10)
  due_over (usage none same kept) sound = (usage_over none same, λ e. absurd (omega (arith, e)))
  due_over (read_fault reads rose took kept) sound = (read_fault_over reads rose took, λ e. absurd (omega (arith, e)))
  due_over (too_long reads same took kept) sound = (too_long_over reads same took, λ e. absurd (omega (arith, e)))
  due_over {words} {before} {after} (replied command bytes reply asked same read is holds) sound =
      let never = never-failed device_of faults _ _ before.devices _ reply sound is in
      let law = subst (λ (a : Answer). HoldsFor command bytes (map device_of before.devices) a) never.0 holds in (
        subst (λ (a : Answer). IsDueOver (map device_of before.devices) words before.source after.source a.status a.text) (sym never.0)
            (replied_over command bytes asked same read law),
        never.1,
      )
  due_over (wants_memory some same took left) sound = (wants_memory_over some same took, λ e. absurd (omega (arith, e)))

  -- how the call has ended
  pub end_over : {words : List (List ℕ)} {source rest : SourceState} {sink now : SinkState} {old new : List B} {status : ℕ} (devices : List Device)
      → map device_of old ≡ devices → IsEnd device_of faults words (outside source sink old) (outside rest now new) status → NeverFail faults old
      → IsAnswerOver devices words source rest sink now status
  end_over {words} {source} {rest} {sink} {now} {status = status} devices is e sound =
      subst (λ (ds : List Device). IsAnswerOver ds words source rest sink now status) is
      (record { due_status = e.due.status; due_text = e.due.text; is_due = (due_over e.is_due sound).0; told = e.told })

  -- the status is not that of a failure
  pub end_never : {words : List (List ℕ)} {before after : Outside B} {status : ℕ}
      → IsEnd device_of faults words before after status → NeverFail faults before.devices → status ≢ 10
  end_never e sound = never_told (due_over e.is_due sound).1 e.told

  -- so where nothing else is told, nothing is
  pub unhindered : {words : List (List ℕ)} {before after : Outside B} {status : ℕ}
      → IsEnd device_of faults words before after status → NeverFail faults before.devices → IsUntroubled status → IsUnhindered status
  unhindered e sound free =
      record { no_read_fault = free.no_read_fault; no_write_fault = free.no_write_fault; memory = free.memory; no_device_fault = end_never e sound }

-- the headline
pub headline_over : {B : Type 0} {device_of : B → Device} {source rest : SourceState} {sink now : SinkState} {old new : List B} {status : ℕ} (devices : List Device)
    → map device_of old ≡ devices → CarriesHeadline device_of (outside source sink old) (outside rest now new) status
    → CarriesHeadlineOver devices source rest sink now status
headline_over {device_of} {old} {new} {status} devices is h =
    let P : List Device → List Device → Type 0 = λ before after. (deck : Deck) → deck_of h.bytes before false ≡ Ok deck
    → Headline (trial_of before deck) deck.count status h.text after in
    record {
      left = map device_of new;
      headline = record {
        bytes = h.bytes;
        read = h.read;
        text = h.text;
        written = h.written;
        headline = subst (λ (before : List Device). P before (map (λ d. d) (map device_of new))) (is ∙ sym (map-id devices))
            (subst (λ (after : List Device). P (map device_of old) after) (sym (map-id (map device_of new))) h.headline);
      };
    }

-- the status and the text of the definition
pub answer_over : (words : List (List ℕ)) (bytes : List ℕ) (written now : Option (List ℕ)) (status : ℕ) (old left devices : List Device) → old ≡ devices
    → (status ≡ (answer words bytes old).status) × Appends written now (answer words bytes old).text × (left ≡ (answer words bytes old).devices)
    → (status ≡ (answer words bytes devices).status) × Appends written now (answer words bytes devices).text
answer_over words bytes written now status old left devices is said =
    subst (λ (ds : List Device). (status ≡ (answer words bytes ds).status) × Appends written now (answer words bytes ds).text) is (said.0, said.1)

-- ---- a reply with no source and no sink

-- what holds of a reply over boxes that never fail holds of it over the devices that the boxes are
pub replied_over_rack : {B : Type 0} (device_of : B → Device) (faults : B → ℕ) (command : Command) (bytes : List ℕ) (result : Result Told NoMemory) (old new : List B) (devices : List Device) → map device_of old ≡ devices
    → NeverFail faults old
    → IfOk result (λ reply. IsReplyTo device_of faults command bytes old new (answer_with reply.status reply.text (map device_of new)))
    → IfOk result (λ reply. HoldsFor command bytes (map device_of old) (answer_with reply.status reply.text (map device_of new)))
    → IfOk result (λ reply. reply.status ≢ 10 → (deck : Deck) → command ≡ Run Guarded → deck_of bytes (map device_of old) false ≡ Ok deck
    → Headline (trial_of (map device_of old) deck) deck.count reply.status reply.text (map device_of new))
    → IfOk result (λ reply. IsReplied devices command bytes reply.status reply.text × (reply.status ≢ 10))
replied_over_rack device_of faults command bytes (Err e) old new devices is sound reply holds headline = tt
replied_over_rack device_of faults command bytes (Ok it) old new devices is sound reply holds headline =
    let never = never-failed device_of faults _ _ old new _ sound reply in (
      subst (λ (ds : List Device). IsReplied ds command bytes it.status it.text) is
          (record { left = map device_of new; is_reply = never.0; holds = holds; headline = headline never.1 }),
      never.1,
    )

-- it is the reply of the definition, with its law and the headline
pub is_replied : (devices : List Device) (command : Command) (bytes : List ℕ) (result : Result Told NoMemory)
    → IfOk result (λ reply. IsReplied devices command bytes reply.status reply.text × (reply.status ≢ 10))
    → IfOk result (λ reply. IsReplied devices command bytes reply.status reply.text)
is_replied devices command bytes (Err e) h = tt
is_replied devices command bytes (Ok it) h = h.0

-- it tells no failure
pub is_unfailed : (devices : List Device) (command : Command) (bytes : List ℕ) (result : Result Told NoMemory)
    → IfOk result (λ reply. IsReplied devices command bytes reply.status reply.text × (reply.status ≢ 10)) → IfOk result (λ reply. reply.status ≢ 10)
is_unfailed devices command bytes (Err e) h = tt
is_unfailed devices command bytes (Ok it) h = h.1

-- its status and its text are those of the definition
pub is_answer : (devices : List Device) (command : Command) (bytes : List ℕ) (result : Result Told NoMemory)
    → IfOk result (λ reply. IsReplied devices command bytes reply.status reply.text × (reply.status ≢ 10))
    → IfOk result (λ reply. (reply.status ≡ (command_answer command bytes devices).status) × (reply.text ≡ (command_answer command bytes devices).text))
is_answer devices command bytes (Err e) h = tt
is_answer devices command bytes (Ok it) h = (ap (λ (a : Answer). a.status) h.0.is_reply, ap (λ (a : Answer). a.text) h.0.is_reply)
