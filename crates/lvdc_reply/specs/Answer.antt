-- What a command answers: a status, the text that is written, and what the devices are then.
use Rattle.std.specs.Prelude.{ℕ, List, ◌++◌, codes, decimal}
use Rattle.lvdc_port.specs.Device.{Device}
use Rattle.lvdc_reply.specs.declared.reply.Reply.{Reply}

-- what is answered: a status, a text, and what the devices are then
pub record Answer : Type 0 where
  pub status : ℕ
  pub text : List ℕ
  pub devices : List Device

-- the answer of these three
abbrev pub answer_with : ℕ → List ℕ → List Device → Answer
answer_with status text devices = record { status = status; text = text; devices = devices }

-- the answer that a reply is, with the devices that are left
abbrev pub answer_of : Reply → List Device → Answer
answer_of reply devices = record { status = reply.status; text = reply.text; devices = devices }

-- the text of a refusal: its cause and its line
abbrev pub refusal_text : List ℕ → ℕ → List ℕ
refusal_text cause line = codes "REFUSED " ++ cause ++ codes " " ++ decimal line ++ codes "\n"
