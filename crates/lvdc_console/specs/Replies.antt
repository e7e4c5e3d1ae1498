-- How an inquiry is answered, by the definitions of its crate: an inquiry has one case in each of these.
use Rattle.std.specs.Prelude.{◌≡◌, ℕ, false, List, map, Ok, None}
use Rattle.lvdc_port.specs.Device.{Device}
use Rattle.lvdc_port.specs.Devices.{HoldWords}
use Rattle.lvdc_deck.specs.Deck.{deck_of}
use Rattle.lvdc_deck.specs.declared.deck.Deck.{Deck}
use Rattle.lvdc_reply.specs.Answer.{Answer}
use Rattle.lvdc_reply.specs.Replies.{IsReply}
use Rattle.lvdc_command_run.specs.Trials.{trial_of}
use Rattle.lvdc_trace.specs.Plainly.{TellsPlainly}
use Rattle.lvdc_command_form.specs.Answers.{unmet_in, form_answer}
use Rattle.lvdc_command_form.specs.Plainly.{RunsAsPlain}
use Rattle.lvdc_trace.specs.Answers.{trace_answer}
use Rattle.lvdc_trace.specs.Replies.{FailsInTrace}
use Rattle.lvdc_command_study.specs.Answers.{study_answer, RowsKeepLaws}
use Rattle.lvdc_command_study.specs.Replies.{FailsInStudy, IsStudyReply}
use Rattle.lvdc_console.specs.declared.words.Inquiry.{Inquiry}
use Rattle.lvdc_console.specs.declared.words.Inquiry.TheVariants.{Trace, Form, Study}

-- the answer where no device fails
abbrev pub inquiry_answer : Inquiry → List ℕ → List Device → Answer
inquiry_answer (Trace mode window) bytes devices = trace_answer mode window bytes devices
inquiry_answer Form bytes devices = form_answer bytes devices
inquiry_answer Study bytes devices = study_answer bytes devices

-- this is the answer where the device at this port fails in this step; the form of a script asks no device
abbrev pub FailsInInquiry : Inquiry → List ℕ → List Device → ℕ → ℕ → Answer → Type 0
FailsInInquiry (Trace mode window) bytes devices = FailsInTrace mode window bytes devices
FailsInInquiry Form bytes devices = λ step port reply. ⊥
FailsInInquiry Study bytes devices = FailsInStudy bytes devices

-- what its law says: each step that a guarded trace tells is one of the plain run; where a script masks by form, `run` answers the
-- same bytes as `run --plain`; and of a study each admissible row is the same, and each whose script masks by form is admissible
abbrev pub HoldsFor : Inquiry → List ℕ → List Device → Type 0
HoldsFor (Trace mode window) bytes devices = (deck : Deck) → deck_of bytes devices false ≡ Ok deck → TellsPlainly (trial_of devices deck)
HoldsFor Form bytes devices = (deck : Deck) → deck_of bytes devices false ≡ Ok deck → unmet_in deck ≡ None → HoldWords devices → RunsAsPlain bytes devices
HoldsFor Study bytes devices = RowsKeepLaws bytes devices

-- how an inquiry is answered over these bytes and devices; those of a study stay as they are, since its runs have others like them
abbrev pub IsReplyTo : {B : Type 0} → (B → Device) → (B → ℕ) → Inquiry → List ℕ → List B → List B → Answer → Type 0
IsReplyTo device_of faults Study bytes old new reply = (new ≡ old) × IsStudyReply bytes (map device_of old) reply
IsReplyTo device_of faults inquiry bytes old new reply =
    IsReply device_of faults (inquiry_answer inquiry bytes (map device_of old)) (FailsInInquiry inquiry bytes (map device_of old)) old new reply
