-- Worked lines of a saved text that don't fit the devices.
use Rattle.std.proofs.Common.{◌≡◌, ℕ, List, [], ◌∷◌, ◌++◌, codes, refl}
use Rattle.lvdc_command_resume.specs.Answers.{resume_answer}
use Rattle.lvdc_port.specs.Device.{Device}
use Rattle.lvdc_port.specs.declared.device.Kind.TheVariants.{Tape, Latch, Ticker}
use Rattle.lvdc_reply.specs.Answer.{Answer, answer_with}
use Rattle.lvdc_lines.specs.Noted.{lines_of}
use Rattle.lvdc_save.specs.Reading.{told_from, told_entries}
use Rattle.lvdc_lines.specs.Fields.{step_in, twin_in, pair_in, cell_in, module_copy_in, index_in, span_in, place_in}
use Rattle.lvdc_source.specs.Names.{is_name}
use Rattle.lvdc_text.specs.Joined.{text_of}
use Rattle.lvdc_text.specs.Lines.{lines_from, tokens_from}
use Rattle.lvdc_text.specs.Numbers.{octal_text, word_in}
use Rattle.lvdc_vote.specs.Bits.{majority, flipped, forced}
use Rattle.lvdc_word.specs.Cell.{with_stuck}
use Rattle.std.specs.Fmt.{digits}

-- a tape, a latch and a ticker
devices : List Device
devices = record { port = 0; kind = Tape; state = [] } ∷ record { port = 0o14; kind = Latch; state = 0 ∷ [] } ∷ record { port = 0o16; kind = Ticker; state = [] } ∷ []

-- the lines of an empty machine after one time, up to SELECT, line 25
lines_before : List (List ℕ)
lines_before =
    codes "LVDC SAVE 1" ∷ codes "STEPS 3" ∷ codes "COUNT 3"
    ∷ codes "COPY 1 1 0 000000000 000000000" ∷ codes "COPY 1 2 0 000000000 000000000" ∷ codes "COPY 1 3 0 000000000 000000000"
    ∷ codes "COPY 2 1 0 000000004 000000000" ∷ codes "COPY 2 2 0 000000004 000000000" ∷ codes "COPY 2 3 0 000000004 000000000"
    ∷ codes "COPY 3 1 0 000000000" ∷ codes "COPY 3 2 0 000000000" ∷ codes "COPY 3 3 0 000000000"
    ∷ codes "COPY 4 1 0 000000012" ∷ codes "COPY 4 2 0 000000012" ∷ codes "COPY 4 3 0 000000012"
    ∷ codes "COPY 5 1 0 000000000 000000000" ∷ codes "COPY 5 2 0 000000000 000000000" ∷ codes "COPY 5 3 0 000000000 000000000"
    ∷ codes "COPY 6 1 0 000000000 000000000 000000000 000000000 000000000"
    ∷ codes "COPY 6 2 0 000000000 000000000 000000000 000000000 000000000"
    ∷ codes "COPY 6 3 0 000000000 000000000 000000000 000000000 000000000"
    ∷ codes "COPY 7 1 0 000000000 000000000" ∷ codes "COPY 7 2 0 000000000 000000000" ∷ codes "COPY 7 3 0 000000000 000000000"
    ∷ codes "SELECT 0 0 0 0" ∷ []

-- what is answered to the saved text with these lines after them, over the three devices
answered : List (List ℕ) → Answer
answered lines = resume_answer (text_of (lines_before ++ lines ++ codes "ABCDEFGHIJKLMNOPQRSTU" ∷ codes "END" ∷ [])) devices

-- no device is there
unplugged_where_nothing_is : answered (codes "UNPLUG 020 5" ∷ []) ≡ answer_with 2 (codes "REFUSED NoDevice 26\n") devices
unfolding answered lines_before devices lines_from tokens_from octal_text word_in step_in twin_in pair_in cell_in module_copy_in index_in span_in place_in is_name with_stuck majority flipped forced lines_of digits told_from told_entries
unplugged_where_nothing_is = refl

-- a device is taken away once
unplugged_twice : answered (codes "UNPLUG 000 5" ∷ codes "UNPLUG 000 6" ∷ []) ≡ answer_with 2 (codes "REFUSED NoDevice 27\n") devices
unfolding answered lines_before devices lines_from tokens_from octal_text word_in step_in twin_in pair_in cell_in module_copy_in index_in span_in place_in is_name with_stuck majority flipped forced lines_of digits told_from told_entries
unplugged_twice = refl

-- one that was taken away before the state holds no word in it: its first STATE line is named
held_by_none : answered (codes "STATE 000 000000005" ∷ codes "UNPLUG 000 0" ∷ []) ≡ answer_with 2 (codes "REFUSED NoDevice 26\n") devices
unfolding answered lines_before devices lines_from tokens_from octal_text word_in step_in twin_in pair_in cell_in module_copy_in index_in span_in place_in is_name with_stuck majority flipped forced lines_of digits told_from told_entries
held_by_none = refl

-- a ticker holds no word, and a latch one
a_word_of_a_ticker : answered (codes "STATE 016 000000001" ∷ []) ≡ answer_with 2 (codes "REFUSED NoDevice 26\n") devices
unfolding answered lines_before devices lines_from tokens_from octal_text word_in step_in twin_in pair_in cell_in module_copy_in index_in span_in place_in is_name with_stuck majority flipped forced lines_of digits told_from told_entries
a_word_of_a_ticker = refl

two_words_of_a_latch : answered (codes "STATE 014 000000001" ∷ codes "STATE 014 000000001" ∷ []) ≡ answer_with 2 (codes "REFUSED BadSave 27\n") devices
unfolding answered lines_before devices lines_from tokens_from octal_text word_in step_in twin_in pair_in cell_in module_copy_in index_in span_in place_in is_name with_stuck majority flipped forced lines_of digits told_from told_entries
two_words_of_a_latch = refl
