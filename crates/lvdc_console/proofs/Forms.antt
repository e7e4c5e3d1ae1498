-- How the question of a form is answered: with a refusal or its text, and the devices stay.
use Rattle.std.proofs.Common.{◌≡◌, ℕ, false, List, map, Ok, Err, None, refl, sym, ap, ◌∙◌, subst, inl}
use Rattle.std.specs.Prelude.{Result}
use Rattle.lvdc_port.specs.Device.{Device}
use Rattle.lvdc_port.specs.Devices.{HoldWords}
use Rattle.lvdc_deck.specs.Deck.{deck_of}
use Rattle.lvdc_deck.specs.declared.deck.Deck.{Deck}
use Rattle.lvdc_deck.specs.declared.fault.DeckFault.{DeckFault}
use Rattle.lvdc_reply.specs.Answer.{Answer}
use Rattle.lvdc_reply.specs.Replies.{IsUnfailed, IsReply, answered}
use Rattle.lvdc_reply.proofs.Statuses.{refused-unfailed}
use Rattle.lvdc_command_run.specs.Refusals.{refusal_status}
use Rattle.lvdc_command_run.proofs.Statuses.{refusal_is}
use Rattle.lvdc_command_form.specs.Answers.{form_text, unmet_in, answer_by, form_answer}
use Rattle.lvdc_command_form.specs.Plainly.{RunsAsPlain}

-- its status is that of a refusal, or 0
unfailed : (devices : List Device) (deck : Result Deck DeckFault) → IsUnfailed (answer_by devices deck).status
unfailed devices (Ok deck) = inl refl
unfailed devices (Err fault) = refused-unfailed (refusal_status fault) (refusal_is fault)

-- the answer is a reply over devices that stay
pub form_reply : {B : Type 0} (device_of : B → Device) (faults : B → ℕ) (Fails : ℕ → ℕ → Answer → Type 0) (bytes : List ℕ) (devices : List B) (a : Answer)
    → a ≡ form_answer bytes (map device_of devices) → IsReply device_of faults (form_answer bytes (map device_of devices)) Fails devices devices a
form_reply device_of faults Fails bytes devices a is =
    subst (λ (x : Answer). IsReply device_of faults (form_answer bytes (map device_of devices)) Fails devices devices x) (sym is)
    (answered (unfailed (map device_of devices) (deck_of bytes (map device_of devices) false)) (λ refused. refl) (λ port there. refl))

-- where no condition is unmet its text says so, and what follows from that text holds
pub form_holds : (bytes : List ℕ) (devices : List Device) (a : Answer) → a ≡ form_answer bytes devices
    → (a.text ≡ form_text None → HoldWords devices → RunsAsPlain bytes devices)
    → (deck : Deck) → deck_of bytes devices false ≡ Ok deck → unmet_in deck ≡ None → HoldWords devices → RunsAsPlain bytes devices
form_holds bytes devices a is plain deck means unmet =
    plain (ap (λ (x : Answer). x.text) is ∙ ap (λ (d : Result Deck DeckFault). (answer_by devices d).text) means ∙ ap form_text unmet)
