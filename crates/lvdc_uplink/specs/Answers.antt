-- The answer to bytes that hold an image and messages: the answers to the messages and the patched image, or the first refusal.
use Rattle.std.specs.Prelude.{◌≡◌, ℕ, true, List, ◌∷◌, ◌++◌, length, map, All, codes, decimal, Result, Ok, Err}
use Rattle.lvdc_text.specs.Numbers.{octal_text}
use Rattle.lvdc_port.specs.Device.{Device}
use Rattle.lvdc_image.specs.Image.{text_of as lines_text, image_text}
use Rattle.lvdc_reply.specs.Answer.{Answer, answer_with, refusal_text}
use Rattle.lvdc_uplink.specs.Link.{Link, link_to, after_text, is_acknowledged}
use Rattle.lvdc_uplink.specs.History.{answers_from, link_after, AreAbove}
use Rattle.lvdc_uplink.specs.Heard.{nothing_heard, heard_from, changed, IsWhole, AreHeld}
use Rattle.lvdc_uplink.specs.declared.answer.Answer.TheVariants as uplink
use Rattle.lvdc_uplink.specs.declared.answer.Answer.{Answer as Reply}
use Rattle.lvdc_uplink.specs.declared.fault.PatchFault.{PatchFault}
use Rattle.lvdc_uplink.specs.Faults.{name_of, line_of, refusal_status}
use Rattle.lvdc_uplink.specs.Input.{Request, request_of}

-- the line of an answer
abbrev pub answer_line : Reply → List ℕ
answer_line (uplink.Opened id) = codes "ACK OPEN " ++ decimal id
answer_line (uplink.Framed id number) = codes "ACK FRAME " ++ decimal id ++ codes " " ++ decimal number
answer_line (uplink.Committed id) = codes "ACK COMMIT " ++ decimal id
answer_line (uplink.Abandoned id) = codes "ACK ABANDON " ++ decimal id
answer_line uplink.Form = codes "NAK Form"
answer_line (uplink.Busy id) = codes "NAK Busy " ++ decimal id
answer_line (uplink.Old id) = codes "NAK Old " ++ decimal id
answer_line uplink.NoLoad = codes "NAK NoLoad"
answer_line uplink.Range = codes "NAK Range"
answer_line (uplink.Check word) = codes "NAK Check " ++ octal_text 9 word
answer_line (uplink.Differs number) = codes "NAK Differs " ++ decimal number
answer_line (uplink.Missing number) = codes "NAK Missing " ++ decimal number

-- the lines of answers
abbrev pub answers_text : List Reply → List ℕ
answers_text answers = lines_text (map answer_line answers)

-- the answers to these lines over a link, and the image after them
abbrev pub sent_text : Link → List (List ℕ) → List ℕ
sent_text link texts = answers_text (answers_from link texts) ++ image_text (link_after link texts).image

-- 2 or 4 where the bytes are refused
abbrev pub status_of : Result Request PatchFault → ℕ
status_of (Ok request) = 0
status_of (Err fault) = refusal_status fault

-- the answers and the image, or the refusal
abbrev pub text_of : Result Request PatchFault → List ℕ
text_of (Ok request) = sent_text (link_to request.image) request.messages
text_of (Err fault) = refusal_text (name_of fault) (line_of fault)

-- What whoever hears the messages and their answers knows. The text is the lines of as many answers and the image that was asked
-- for, changed by the loads that were committed by what is acknowledged alone: whole, each once, in their order. Each acknowledgement
-- says what is so. And an acknowledged message could have been sent twice: what is held after all messages is the same.
pub record IsHeard (request : Request) (text : List ℕ) : Type 0 where
  pub answers : List Reply
  pub each : length answers ≡ length request.messages
  pub told : text ≡ answers_text answers ++ image_text (changed request.image (heard_from request.messages answers nothing_heard).done)
  pub whole : All IsWhole (heard_from request.messages answers nothing_heard).done
  pub once : AreAbove 0 (heard_from request.messages answers nothing_heard).done
  pub held : AreHeld request.messages answers nothing_heard
  pub doubled : (before after : List (List ℕ)) (message : List ℕ) → request.messages ≡ before ++ message ∷ after
      → is_acknowledged (after_text (link_after (link_to request.image) before) message).answer ≡ true
      → link_after (link_to request.image) (before ++ message ∷ message ∷ after) ≡ link_after (link_to request.image) request.messages

-- the answer to the bytes, which has no use for devices
abbrev pub uplink_answer : List ℕ → List Device → Answer
uplink_answer bytes devices = answer_with (status_of (request_of bytes)) (text_of (request_of bytes)) devices
