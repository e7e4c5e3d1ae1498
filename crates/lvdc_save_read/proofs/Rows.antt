-- Worked lines of saved texts as they are read, and worked refusals.
use Rattle.std.proofs.Common.{◌≡◌, ℕ, ◌+◌, List, [], ◌∷◌, Err, Some, None, Result, refl, codes}
use Rattle.lvdc_text.specs.Lines.{NumberedLine}
use Rattle.lvdc_text.specs.Numbers.{octal_text, word_in}
use Rattle.lvdc_save.specs.declared.entry.Entry.TheVariants as says
use Rattle.lvdc_save.specs.declared.fault.SaveFault.{SaveFault}
use Rattle.lvdc_save.specs.declared.fault.SaveFault.TheVariants.{BadSave, NoDevice}
use Rattle.lvdc_save.specs.Entries.{entry_of}
use Rattle.lvdc_port.specs.Device.{Device}
use Rattle.lvdc_port.specs.declared.device.Kind.TheVariants.{Tape, Ticker}
use Rattle.lvdc_save.specs.declared.section.Section.TheVariants as section
use Rattle.lvdc_save.specs.Reading.{Progress, nothing_said, told_from, after_entry}

word_read : entry_of (codes "WORD 4 01 000 377777777") ≡ Some (says.Word (record { at = record { pair = 4; sector = 1; loc = 0 }; word = 0o377777777 }))
unfolding octal_text word_in
word_read = refl

two_blanks : entry_of (codes "WORD 4 01  000 377777777") ≡ None
unfolding octal_text word_in
two_blanks = refl

digit_left_out : entry_of (codes "WORD 4 1 000 377777777") ≡ None
unfolding octal_text word_in
digit_left_out = refl

needless_zero : entry_of (codes "STEPS 03") ≡ None
needless_zero = refl

-- refusals

from : ℕ → List (List ℕ) → List NumberedLine
from number [] = []
from number (text ∷ texts) = record { number = number; text = text } ∷ from (number + 1) texts

told : List (List ℕ) → Result Progress SaveFault
told texts = told_from [] nothing_said (from 1 texts)

other_version : told (codes "LVDC SAVE 2" ∷ []) ≡ Err (BadSave 1)
unfolding told from told_from
other_version = refl

out_of_order : told (codes "LVDC SAVE 1" ∷ codes "WORD 0 00 000 000000001" ∷ []) ≡ Err (BadSave 2)
unfolding told from told_from octal_text word_in
out_of_order = refl

-- devices that aren't there for a line, by what the lines before it have said

abbrev tape : Device
tape = record { port = 1; kind = Tape; state = [] }

abbrev ticker : Device
ticker = record { port = 0o16; kind = Ticker; state = [] }

-- two times were made, and the tape has a STATE line
abbrev with_state : Progress
with_state =
    record nothing_said {
      section = section.States;
      least = 1;
      steps = 6;
      states = record { port = 1; word = 5 } ∷ [];
      marks = record { port = 1; line = 40 } ∷ [];
    }

-- no words are given back to a ticker, nor to a port without a device
no_words : (after_entry (tape ∷ ticker ∷ []) 41 with_state (says.State (record { port = 0o16; word = 5 })) ≡ Err (NoDevice 41))
    × (after_entry (tape ∷ ticker ∷ []) 41 with_state (says.State (record { port = 0o17; word = 5 })) ≡ Err (NoDevice 41))
no_words = (refl, refl)

-- an UNPLUG line takes away a device; one before the state is refused at the first STATE line of its port
no_device : (after_entry (ticker ∷ []) 41 with_state (says.Unplug (record { port = 1; time = 2 })) ≡ Err (NoDevice 41))
    × (after_entry (tape ∷ []) 41 with_state (says.Unplug (record { port = 1; time = 1 })) ≡ Err (NoDevice 40))
no_device = (refl, refl)

-- a device is taken away once
no_second : (after_entry (tape ∷ []) 42 (record with_state { section = section.Unplugs; least = 0; unplugs = record { port = 1; time = 2 } ∷ [] }) (says.Unplug (record { port = 1; time = 3 })) ≡ Err (NoDevice 42))
no_second = refl
