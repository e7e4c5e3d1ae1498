-- What holds of an inquiry's reply over boxes that never fail holds of it over the devices that the boxes are.
use Rattle.std.proofs.Common.{◌≡◌, ◌≢◌, ℕ, List, map, Ok, Err, Result, IfOk, refl, subst}
use Rattle.lvdc_word.specs.declared.memory.NoMemory.{NoMemory}
use Rattle.lvdc_port.specs.Device.{Device}
use Rattle.lvdc_port.specs.Devices.{NeverFail}
use Rattle.lvdc_reply.specs.Answer.{Answer, answer_with}
use Rattle.lvdc_reply.proofs.Statuses.{never-failed}
use Rattle.lvdc_reply.specs.declared.reply.Reply.{Reply as Told}
use Rattle.lvdc_console.proofs.Studies.{studied}
use Rattle.lvdc_console.specs.Replies.{inquiry_answer, IsReplyTo, HoldsFor}
use Rattle.lvdc_console.specs.declared.words.Inquiry.{Inquiry}
use Rattle.lvdc_console.specs.declared.words.Inquiry.TheVariants.{Trace, Form, Study}
use Rattle.lvdc_console.specs.Inquired.{IsInquired}

reply_over : {B : Type 0} (device_of : B → Device) (faults : B → ℕ) (inquiry : Inquiry) (bytes : List ℕ) (old new : List B) (told : Answer)
    → NeverFail faults old → (inquiry ≡ Study → told.status ≢ 10) → IsReplyTo device_of faults inquiry bytes old new told
    → (told ≡ inquiry_answer inquiry bytes (map device_of old)) × (told.status ≢ 10)
reply_over device_of faults (Trace mode window) bytes old new told sound free is = never-failed device_of faults _ _ old new told sound is
reply_over device_of faults Form bytes old new told sound free is = never-failed device_of faults _ _ old new told sound is
reply_over device_of faults Study bytes old new told sound free is = (studied is.1 (free refl), free refl)

pub inquired_over_rack : {B : Type 0} (device_of : B → Device) (faults : B → ℕ) (inquiry : Inquiry) (bytes : List ℕ) (result : Result Told NoMemory)
    (old new : List B) (devices : List Device) → map device_of old ≡ devices → NeverFail faults old
    → IfOk result (λ told. inquiry ≡ Study → told.status ≢ 10)
    → IfOk result (λ told. IsReplyTo device_of faults inquiry bytes old new (answer_with told.status told.text (map device_of new)))
    → IfOk result (λ told. HoldsFor inquiry bytes (map device_of old))
    → IfOk result (λ told. IsInquired devices inquiry bytes told.status told.text × (told.status ≢ 10))
inquired_over_rack device_of faults inquiry bytes (Err e) old new devices is sound free told holds = tt
inquired_over_rack device_of faults inquiry bytes (Ok it) old new devices is sound free told holds =
    let never = reply_over device_of faults inquiry bytes old new _ sound free told in (
      subst (λ (ds : List Device). IsInquired ds inquiry bytes it.status it.text) is
          (record { left = map device_of new; is_reply = never.0; holds = holds }),
      never.1,
    )

-- it is the reply of the definition, with its law
pub is_inquired : (devices : List Device) (inquiry : Inquiry) (bytes : List ℕ) (result : Result Told NoMemory)
    → IfOk result (λ told. IsInquired devices inquiry bytes told.status told.text × (told.status ≢ 10))
    → IfOk result (λ told. IsInquired devices inquiry bytes told.status told.text)
is_inquired devices inquiry bytes (Err e) h = tt
is_inquired devices inquiry bytes (Ok told) h = h.0

-- it tells no failure
pub is_unfailed : (devices : List Device) (inquiry : Inquiry) (bytes : List ℕ) (result : Result Told NoMemory)
    → IfOk result (λ told. IsInquired devices inquiry bytes told.status told.text × (told.status ≢ 10)) → IfOk result (λ told. told.status ≢ 10)
is_unfailed devices inquiry bytes (Err e) h = tt
is_unfailed devices inquiry bytes (Ok told) h = h.1
