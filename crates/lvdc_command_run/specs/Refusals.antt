-- The refusals of decks: name, line and status.
use Rattle.std.specs.Prelude.{ℕ, List}
use Rattle.lvdc_port.specs.Device.{Device}
use Rattle.lvdc_deck.specs.Faults.{name_of, line_of}
use Rattle.lvdc_deck.specs.declared.fault.DeckFault.{DeckFault}
use Rattle.lvdc_deck.specs.declared.fault.DeckFault.TheVariants.{Image, Asm}
use Rattle.lvdc_reply.specs.Answer.{Answer, answer_with, refusal_text}

-- 4 where the program is no image, 3 where it is no source that can be assembled or START names no line of code of it, else 2
abbrev pub refusal_status : DeckFault → ℕ
refusal_status (Image fault) = 4
refusal_status (Asm fault) = 3
refusal_status fault = 2

-- a refusal leaves the devices as they were
abbrev pub refused_answer : List Device → DeckFault → Answer
refused_answer devices fault = answer_with (refusal_status fault) (refusal_text (name_of fault) (line_of fault)) devices
