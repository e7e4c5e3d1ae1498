-- Worked commands of the debugger: their limits, breakpoints, and sessions in which a device fails.
use Rattle.std.proofs.Common.{◌≡◌, ℕ, List, [], ◌∷◌, Bool, false, true, None, Result, Ok, Err, is_some, refl}
use Rattle.std.specs.Prelude.{codes}
use Rattle.std.specs.Fmt.{digits}
use Rattle.lvdc_debug.specs.Answers.{session_answer, failed_session, status_by}
use Rattle.lvdc_debug.specs.Commands.{command_in, syllable_in, count_in}
use Rattle.lvdc_debug.specs.Session.{Failure, entries, instruction_shown}
use Rattle.lvdc_deck.specs.Deck.{commands_from, told_from, deck_from, deck_of}
use Rattle.lvdc_deck.specs.declared.deck.Deck.{Deck}
use Rattle.lvdc_deck.specs.declared.fault.DeckFault.{DeckFault}
use Rattle.lvdc_fault.specs.declared.verdict.Verdict.TheVariants.{Memory}
use Rattle.lvdc_image.specs.Reading.{entry_in, words_from as words_told, banks_named, banks_in, image_of}
use Rattle.lvdc_lines.specs.Noted.{lines_of, lines_below}
use Rattle.lvdc_lines.specs.Fields.{step_in, twin_in, pair_in, cell_in, module_copy_in, index_in, span_in, place_in}
use Rattle.lvdc_machine.specs.declared.shown.Shown.TheVariants.{Unknown}
use Rattle.lvdc_port.specs.Device.{Device}
use Rattle.lvdc_port.specs.declared.device.Kind.TheVariants.{Tape, Recorder}
use Rattle.lvdc_reply.specs.Answer.{Answer, answer_with}
use Rattle.lvdc_source.specs.Names.{is_name}
use Rattle.lvdc_text.specs.Lines.{lines_from, tokens_from, token_texts_of}
use Rattle.lvdc_text.specs.Numbers.{octal_text, word_in}
use Rattle.lvdc_vote.specs.Bits.{majority, flipped, forced}
use Rattle.lvdc_word.specs.Cell.{with_stuck}

-- ---- limits

-- is a line a command?
is_command : List ℕ → Bool
is_command text = is_some (command_in (token_texts_of text))

syllables_of_breaks : (is_command (codes "BREAK 0 00 1 000") ≡ true) × (is_command (codes "BREAK 0 00 00 000") ≡ false)
unfolding is_command lines_from tokens_from octal_text word_in commands_from told_from deck_from entry_in words_told banks_named banks_in image_of step_in twin_in pair_in cell_in module_copy_in index_in span_in place_in is_name with_stuck majority flipped forced lines_of lines_below digits syllable_in count_in entries
syllables_of_breaks = (refl, refl)

words_of_mem : (is_command (codes "MEM 0 00 000 0") ≡ false) × (is_command (codes "MEM 0 00 000 256") ≡ true) × (is_command (codes "MEM 0 00 000 257") ≡ false)
unfolding is_command lines_from tokens_from octal_text word_in commands_from told_from deck_from entry_in words_told banks_named banks_in image_of step_in twin_in pair_in cell_in module_copy_in index_in span_in place_in is_name with_stuck majority flipped forced lines_of lines_below digits syllable_in count_in entries
words_of_mem = (refl, refl, refl)

-- from 377 on there is one instruction
instructions_of_dis : (is_command (codes "DIS 0 00 1 000 256") ≡ true) × (is_command (codes "DIS 0 00 1 377 1") ≡ true) × (is_command (codes "DIS 0 00 1 377 2") ≡ false)
    × (is_command (codes "DIS 0 00 1 001 256") ≡ false)
unfolding is_command lines_from tokens_from octal_text word_in commands_from told_from deck_from entry_in words_told banks_named banks_in image_of step_in twin_in pair_in cell_in module_copy_in index_in span_in place_in is_name with_stuck majority flipped forced lines_of lines_below digits syllable_in count_in entries
instructions_of_dis = (refl, refl, refl, refl)

modules_of_copies : (is_command (codes "COPIES 0") ≡ false) × (is_command (codes "COPIES 1") ≡ true) × (is_command (codes "COPIES 7") ≡ true)
    × (is_command (codes "COPIES 8") ≡ false)
unfolding is_command lines_from tokens_from octal_text word_in commands_from told_from deck_from entry_in words_told banks_named banks_in image_of step_in twin_in pair_in cell_in module_copy_in index_in span_in place_in is_name with_stuck majority flipped forced lines_of lines_below digits syllable_in count_in entries
modules_of_copies = (refl, refl, refl, refl)

-- ---- what is shown

no_word_to_show : instruction_shown (record { pair = 1; sector = 2; loc = 5 }) 1 Unknown ≡ codes "1 02 1 005 ?\n"
unfolding octal_text
no_word_to_show = refl

bad_memory : status_by (Memory 7 (record { pair = 0; sector = 0; loc = 0 })) None ≡ 5
bad_memory = refl

-- ---- breakpoints

-- one that is there already is no second one; where the limit leaves no time, GO makes none
go_at_the_limit : session_answer (codes "IMAGE\nLVDC 1\n0 00 000 000017000\n0 00 001 000010000\nEND\nRUN 1\nDEBUG\nBREAK 0 00 0 001\nBREAK 0 00 0 001\nSTEP 1\nGO\n") []
    ≡ answer_with 0 (codes "LVDC DEBUG\n> BREAK 0 00 0 001\nBREAKS 1\n> BREAK 0 00 0 001\nBREAKS 1\n> STEP 1\nAT 1 0 00 0 001\n> GO\nLIMIT 1\n") []
unfolding lines_from tokens_from octal_text word_in commands_from told_from deck_from entry_in words_told banks_named banks_in image_of step_in twin_in pair_in cell_in module_copy_in index_in span_in place_in is_name with_stuck majority flipped forced lines_of lines_below digits syllable_in count_in entries
go_at_the_limit = refl

-- ---- a device fails: PIO 400 reads a tape in times 0 and 3, and PIO 017 writes in time 1

tape : List ℕ → Device
tape words = record { port = 0; kind = Tape; state = words }

recorder : List ℕ → Device
recorder words = record { port = 0o17; kind = Recorder; state = words }

-- the answer to a deck in whose session this exchange fails
failing : List ℕ → Failure → Result Deck DeckFault → Answer
failing bytes failure (Ok deck) = failed_session bytes (tape (5 ∷ 6 ∷ []) ∷ recorder [] ∷ []) deck failure
failing bytes failure (Err fault) = answer_with 99 [] []

-- three times and then the fourth
stepped : List ℕ
stepped = codes "IMAGE\nLVDC 1\n0 00 000 000012400\n0 00 001 000012017\n0 00 002 000010000\nEND\nRUN 9\nDEBUG\nSTEP 3\nSTEP 1\n"

failed_read : failing stepped (record { step = 11; port = 0 }) (deck_of stepped (tape (5 ∷ 6 ∷ []) ∷ recorder [] ∷ []) true)
    ≡ answer_with 10 (codes "LVDC DEBUG\n> STEP 3\nAT 3 0 00 0 000\n> STEP 1\nEND DEVICE 11 000\n") (tape (6 ∷ []) ∷ recorder (5 ∷ []) ∷ [])
unfolding failing stepped tape recorder lines_from tokens_from octal_text word_in commands_from told_from deck_from entry_in words_told banks_named banks_in image_of step_in twin_in pair_in cell_in module_copy_in index_in span_in place_in is_name with_stuck majority flipped forced lines_of lines_below digits syllable_in count_in entries
failed_read = refl

-- a write in time 1
failed_write : failing stepped (record { step = 5; port = 0o17 }) (deck_of stepped (tape (5 ∷ 6 ∷ []) ∷ recorder [] ∷ []) true)
    ≡ answer_with 10 (codes "LVDC DEBUG\n> STEP 3\nEND DEVICE 5 017\n> STEP 1\nEND DEVICE 5 017\n") (tape (6 ∷ []) ∷ recorder [] ∷ [])
unfolding failing stepped tape recorder lines_from tokens_from octal_text word_in commands_from told_from deck_from entry_in words_told banks_named banks_in image_of step_in twin_in pair_in cell_in module_copy_in index_in span_in place_in is_name with_stuck majority flipped forced lines_of lines_below digits syllable_in count_in entries
failed_write = refl
