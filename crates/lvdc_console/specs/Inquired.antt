-- How an inquiry is answered over devices that never fail and of which only the start is known outside.
use Rattle.std.specs.Prelude.{◌≡◌, ℕ, List}
use Rattle.lvdc_port.specs.Device.{Device}
use Rattle.lvdc_reply.specs.Answer.{answer_with}
use Rattle.lvdc_console.specs.Replies.{inquiry_answer, HoldsFor}
use Rattle.lvdc_console.specs.declared.words.Inquiry.{Inquiry}

-- An inquiry's reply over these bytes and devices, none of which ever fails, by its status and text: with some devices that are left it
-- is the answer of the definition, and the inquiry's law holds.
pub record IsInquired (devices : List Device) (inquiry : Inquiry) (bytes : List ℕ) (status : ℕ) (text : List ℕ) : Type 0 where
  pub left : List Device
  pub is_reply : answer_with status text left ≡ inquiry_answer inquiry bytes devices
  pub holds : HoldsFor inquiry bytes devices
