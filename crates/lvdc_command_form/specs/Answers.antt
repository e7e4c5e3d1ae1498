-- The answer to the question of a deck's form: its form, or its refusal.
use Rattle.std.specs.Prelude.{ℕ, false, List, codes, Result, Ok, Err}
use Rattle.std.specs.declared.option.Option.{Option}
use Rattle.std.specs.declared.option.Option.TheVariants.{None, Some}
use Rattle.lvdc_port.specs.Device.{Device}
use Rattle.lvdc_withstands.specs.Form.{first_unmet}
use Rattle.lvdc_withstands.specs.declared.condition.Condition.{Condition}
use Rattle.lvdc_withstands.specs.declared.condition.Condition.TheVariants.{Copies, Pairs, Places, Deaths}
use Rattle.lvdc_deck.specs.Deck.{deck_of}
use Rattle.lvdc_deck.specs.declared.deck.Deck.{Deck}
use Rattle.lvdc_deck.specs.declared.fault.DeckFault.{DeckFault}
use Rattle.lvdc_reply.specs.Answer.{Answer, answer_with}
use Rattle.lvdc_command_run.specs.Refusals.{refused_answer}

-- whether a script masks by form, or the number of the first condition that it doesn't meet
abbrev pub form_text : Option Condition → List ℕ
form_text None = codes "FORM YES\n"
form_text (Some Copies) = codes "FORM NO 1\n"
form_text (Some Pairs) = codes "FORM NO 2\n"
form_text (Some Places) = codes "FORM NO 3\n"
form_text (Some Deaths) = codes "FORM NO 4\n"

-- the first condition that the script of a deck doesn't meet in the deck's run
abbrev pub unmet_in : Deck → Option Condition
unmet_in deck = first_unmet deck.script deck.banks deck.count

-- the answer to a deck, or to its refusal; the devices stay as they are
abbrev pub answer_by : List Device → Result Deck DeckFault → Answer
answer_by devices (Ok deck) = answer_with 0 (form_text (unmet_in deck)) devices
answer_by devices (Err fault) = refused_answer devices fault

-- the answer to these bytes, which are read as `run` reads them
abbrev pub form_answer : List ℕ → List Device → Answer
form_answer bytes devices = answer_by devices (deck_of bytes devices false)
