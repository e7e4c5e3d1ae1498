-- Worked sessions over whole decks: status and text.
use Rattle.std.proofs.Common.{◌≡◌, [], refl}
use Rattle.std.specs.Prelude.{codes}
use Rattle.lvdc_debug.specs.Answers.{session_answer}
use Rattle.lvdc_debug.specs.Commands.{syllable_in, count_in}
use Rattle.lvdc_debug.specs.Session.{entries}
use Rattle.lvdc_deck.specs.Deck.{commands_from, told_from, deck_from}
use Rattle.lvdc_image.specs.Reading.{entry_in, words_from as words_told, banks_named, banks_in, image_of}
use Rattle.lvdc_lines.specs.Noted.{lines_of, lines_below}
use Rattle.lvdc_lines.specs.Fields.{step_in, twin_in, pair_in, cell_in, module_copy_in, index_in, span_in, place_in}
use Rattle.lvdc_source.specs.Names.{is_name}
use Rattle.lvdc_text.specs.Lines.{lines_from, tokens_from}
use Rattle.lvdc_text.specs.Numbers.{octal_text, word_in}
use Rattle.lvdc_vote.specs.Bits.{majority, flipped, forced}
use Rattle.lvdc_word.specs.Cell.{with_stuck}
use Rattle.std.specs.Fmt.{digits}
use Rattle.lvdc_reply.specs.Answer.{answer_with}

-- a session, with blanks and a comment among its commands
a_session : session_answer (codes "IMAGE\nLVDC 1\n0 00 000 000017000\n0 00 001 000007001\n0 00 002 000013002\n0 00 003 000010003\n0 01 000 177777777\n0 01 001 000000001\nEND\nRUN 3\nDEBUG\nSTEP 1\n\n* A LINE\nGO\n") []
    ≡ answer_with 0 (codes "LVDC DEBUG\n> STEP 1\nAT 1 0 00 0 001\n> GO\nLIMIT 3\n") []
unfolding lines_from tokens_from octal_text word_in commands_from told_from deck_from entry_in words_told banks_named banks_in image_of step_in twin_in pair_in cell_in module_copy_in index_in span_in place_in is_name with_stuck majority flipped forced lines_of lines_below digits syllable_in count_in entries
a_session = refl

-- a step that is not admissible, a stop, and no command
two_copies : session_answer (codes "IMAGE\nLVDC 1\n0 00 000 000017000\n0 00 001 000007001\n0 00 002 000013002\n0 00 003 000010003\n0 01 000 177777777\n0 01 001 000000001\nEND\nFAULTS\nFLIP 3 1 4 4 0 1000\nFLIP 3 2 4 4 0 1000\nRUN 3\nDEBUG\nGO\n") []
    ≡ answer_with 5 (codes "LVDC DEBUG\n> GO\nEND INADMISSIBLE 4 LOGIC 3\n") []
unfolding lines_from tokens_from octal_text word_in commands_from told_from deck_from entry_in words_told banks_named banks_in image_of step_in twin_in pair_in cell_in module_copy_in index_in span_in place_in is_name with_stuck majority flipped forced lines_of lines_below digits syllable_in count_in entries
two_copies = refl

not_reached : session_answer (codes "IMAGE\nLVDC 1\n0 00 000 000017000\n0 00 001 000007001\n0 00 002 000013002\n0 00 003 000010003\n0 01 000 177777777\n0 01 001 000000001\nEND\nFAULTS\nFLIP 3 1 4 4 0 1000\nFLIP 3 2 4 4 0 1000\nRUN 3\nDEBUG\nSTEP 1\n") []
    ≡ answer_with 0 (codes "LVDC DEBUG\n> STEP 1\nAT 1 0 00 0 001\n") []
unfolding lines_from tokens_from octal_text word_in commands_from told_from deck_from entry_in words_told banks_named banks_in image_of step_in twin_in pair_in cell_in module_copy_in index_in span_in place_in is_name with_stuck majority flipped forced lines_of lines_below digits syllable_in count_in entries
not_reached = refl

a_stop : session_answer (codes "IMAGE\nLVDC 1\n0 00 000 000016600\nEND\nRUN 5\nDEBUG\nGO\nSTEP 1\n") []
    ≡ answer_with 6 (codes "LVDC DEBUG\n> GO\nEND STOPPED 2 EXM\n> STEP 1\nEND STOPPED 2 EXM\n") []
unfolding lines_from tokens_from octal_text word_in commands_from told_from deck_from entry_in words_told banks_named banks_in image_of step_in twin_in pair_in cell_in module_copy_in index_in span_in place_in is_name with_stuck majority flipped forced lines_of lines_below digits syllable_in count_in entries
a_stop = refl

no_command : session_answer (codes "IMAGE\nLVDC 1\n0 00 000 000017000\n0 00 001 000007001\n0 00 002 000013002\n0 00 003 000010003\n0 01 000 177777777\n0 01 001 000000001\nEND\nRUN 3\nDEBUG\n") []
    ≡ answer_with 0 (codes "LVDC DEBUG\n") []
unfolding lines_from tokens_from octal_text word_in commands_from told_from deck_from entry_in words_told banks_named banks_in image_of step_in twin_in pair_in cell_in module_copy_in index_in span_in place_in is_name with_stuck majority flipped forced lines_of lines_below digits syllable_in count_in entries
no_command = refl

-- no section DEBUG, and a refusal of the image
no_debug : session_answer (codes "IMAGE\nLVDC 1\n0 00 000 000017000\n0 00 001 000007001\n0 00 002 000013002\n0 00 003 000010003\n0 01 000 177777777\n0 01 001 000000001\nEND\nRUN 3\n") []
    ≡ answer_with 2 (codes "REFUSED BadSection 11\n") []
unfolding lines_from tokens_from octal_text word_in commands_from told_from deck_from entry_in words_told banks_named banks_in image_of step_in twin_in pair_in cell_in module_copy_in index_in span_in place_in is_name with_stuck majority flipped forced lines_of lines_below digits syllable_in count_in entries
no_debug = refl

bad_image : session_answer (codes "IMAGE\nLVDC 3\nEND\nRUN 3\nDEBUG\n") []
    ≡ answer_with 4 (codes "REFUSED BadImageLine 2\n") []
unfolding lines_from tokens_from octal_text word_in commands_from told_from deck_from entry_in words_told banks_named banks_in image_of step_in twin_in pair_in cell_in module_copy_in index_in span_in place_in is_name with_stuck majority flipped forced lines_of lines_below digits syllable_in count_in entries
bad_image = refl
