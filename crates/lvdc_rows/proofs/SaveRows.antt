-- Worked runs that are stopped and saved.
use Rattle.std.proofs.Common.{◌≡◌, [], refl}
use Rattle.std.specs.Prelude.{codes}
use Rattle.lvdc_command_save.specs.Answers.{save_answer}
use Rattle.lvdc_command_save.specs.Snapshots.{cells_in, placed_in}
use Rattle.lvdc_command_save.specs.States.{states_of}
use Rattle.lvdc_deck.specs.Deck.{commands_from, told_from, deck_from}
use Rattle.lvdc_image.specs.Reading.{entry_in, words_from as words_told, banks_named, banks_in, image_of}
use Rattle.lvdc_lines.specs.Noted.{lines_of, lines_below}
use Rattle.lvdc_report.specs.Voted.{counts_below}
use Rattle.lvdc_save.specs.Saved.{saved_text}
use Rattle.lvdc_lines.specs.Fields.{step_in, twin_in, pair_in, cell_in, module_copy_in, index_in, span_in, place_in}
use Rattle.lvdc_source.specs.Names.{is_name}
use Rattle.lvdc_text.specs.Lines.{lines_from, tokens_from}
use Rattle.lvdc_text.specs.Numbers.{octal_text, word_in}
use Rattle.lvdc_vote.specs.Bits.{majority, flipped, forced}
use Rattle.lvdc_word.specs.Cell.{with_stuck}
use Rattle.std.specs.Fmt.{digits}
use Rattle.lvdc_reply.specs.Answer.{answer_with}

-- a run that is stopped after one time: each copy, what is stored, what was repaired, and what is asked of the rest
one_time : save_answer 1 (codes "IMAGE\nLVDC 1\n0 00 000 000017000\n0 00 001 000007001\n0 00 002 000013002\n0 00 003 000010003\n0 01 000 177777777\n0 01 001 000000001\nEND\nFAULTS\nDAMAGE 0 0 01 000 1 1\nFLIP 5 1 2 2 0 1\nORDER\nUTSRQPONMLKJIHGFEDCBA\nRUN 3\n") []
    ≡ answer_with 0 (codes "LVDC SAVE 1\nSTEPS 3\nCOUNT 3\nCOPY 1 1 0 000000000 000000000\nCOPY 1 2 0 000000000 000000000\nCOPY 1 3 0 000000000 000000000\nCOPY 2 1 0 000002004 000000000\nCOPY 2 2 0 000002004 000000000\nCOPY 2 3 0 000002004 000000000\nCOPY 3 1 0 000017000\nCOPY 3 2 0 000017000\nCOPY 3 3 0 000017000\nCOPY 4 1 0 000000012\nCOPY 4 2 0 000000012\nCOPY 4 3 0 000000012\nCOPY 5 1 1 177777776 177777777\nCOPY 5 2 0 177777777 177777777\nCOPY 5 3 0 177777777 177777777\nCOPY 6 1 0 000000000 000000000 000000000 000000000 000000000\nCOPY 6 2 0 000000000 000000000 000000000 000000000 000000000\nCOPY 6 3 0 000000000 000000000 000000000 000000000 000000000\nCOPY 7 1 0 000000000 000000000\nCOPY 7 2 0 000000000 000000000\nCOPY 7 3 0 000000000 000000000\nSELECT 1 0 0 0\nCELL 0 0 00 000 1000037000\nCELL 0 0 00 001 1000027001\nCELL 0 0 00 002 1000033002\nCELL 0 0 00 003 1000010003\nCELL 0 0 01 000 1377757777\nCELL 0 0 01 001 1000000001\nCELL 1 0 00 000 1000037000\nCELL 1 0 00 001 1000027001\nCELL 1 0 00 002 1000033002\nCELL 1 0 00 003 1000010003\nCELL 1 0 01 000 1377757777\nCELL 1 0 01 001 1000000001\nWORD 0 00 000 000017000\nWORD 0 00 001 000007001\nWORD 0 00 002 000013002\nWORD 0 00 003 000010003\nWORD 0 01 000 177777777\nWORD 0 01 001 000000001\nREPAIR 1 0 01 000 0 SWITCH\nDAMAGE 0 0 01 000 1 0000000001\nFLIP 5 1 2 2 0 000000001\nUTSRQPONMLKJIHGFEDCBA\nEND\n") []
unfolding lines_from tokens_from octal_text word_in commands_from told_from deck_from entry_in words_told banks_named banks_in image_of step_in twin_in pair_in cell_in module_copy_in index_in span_in place_in is_name with_stuck majority flipped forced lines_of lines_below digits cells_in placed_in states_of saved_text counts_below
one_time = refl

-- a run that is not yet begun
no_time : save_answer 0 (codes "IMAGE\nLVDC 1\n0 00 000 000010000\nEND\nRUN 1\n") []
    ≡ answer_with 0 (codes "LVDC SAVE 1\nSTEPS 0\nCOUNT 1\nCOPY 1 1 0 000000000 000000000\nCOPY 1 2 0 000000000 000000000\nCOPY 1 3 0 000000000 000000000\nCOPY 2 1 0 000000004 000000000\nCOPY 2 2 0 000000004 000000000\nCOPY 2 3 0 000000004 000000000\nCOPY 3 1 0 000000000\nCOPY 3 2 0 000000000\nCOPY 3 3 0 000000000\nCOPY 4 1 0 000000012\nCOPY 4 2 0 000000012\nCOPY 4 3 0 000000012\nCOPY 5 1 0 000000000 000000000\nCOPY 5 2 0 000000000 000000000\nCOPY 5 3 0 000000000 000000000\nCOPY 6 1 0 000000000 000000000 000000000 000000000 000000000\nCOPY 6 2 0 000000000 000000000 000000000 000000000 000000000\nCOPY 6 3 0 000000000 000000000 000000000 000000000 000000000\nCOPY 7 1 0 000000000 000000000\nCOPY 7 2 0 000000000 000000000\nCOPY 7 3 0 000000000 000000000\nSELECT 0 0 0 0\nCELL 0 0 00 000 1000010000\nCELL 1 0 00 000 1000010000\nWORD 0 00 000 000010000\nABCDEFGHIJKLMNOPQRSTU\nEND\n") []
unfolding lines_from tokens_from octal_text word_in commands_from told_from deck_from entry_in words_told banks_named banks_in image_of step_in twin_in pair_in cell_in module_copy_in index_in span_in place_in is_name with_stuck majority flipped forced lines_of lines_below digits cells_in placed_in states_of saved_text counts_below
no_time = refl

-- a run that ends before the last of these times, and one that stops in it: the answer of `run` is due
ended : (save_answer 3 (codes "IMAGE\nLVDC 1\n0 00 000 000017000\n0 00 001 000007001\n0 00 002 000013002\n0 00 003 000010003\n0 01 000 177777777\n0 01 001 000000001\nEND\nFAULTS\nFLIP 3 1 4 4 0 1000\nFLIP 3 2 4 4 0 1000\nRUN 3\n") []).status ≡ 5
unfolding lines_from tokens_from octal_text word_in commands_from told_from deck_from entry_in words_told banks_named banks_in image_of step_in twin_in pair_in cell_in module_copy_in index_in span_in place_in is_name with_stuck majority flipped forced lines_of lines_below digits cells_in placed_in states_of saved_text counts_below
ended = refl

stopped : save_answer 1 (codes "IMAGE\nLVDC 1\n0 00 000 000016600\nEND\nRUN 5\n") []
    ≡ answer_with 6 (codes "LVDC RUN\nEND STOPPED 2 EXM\nTIMES 1\nPLACE 0 00 0 000\nDATA 0 01\nDUP 1 1\nA 000000000\nPQ 000000000\nSAVER 000000000\nMEM 0 00 000 000016600\n") []
unfolding lines_from tokens_from octal_text word_in commands_from told_from deck_from entry_in words_told banks_named banks_in image_of step_in twin_in pair_in cell_in module_copy_in index_in span_in place_in is_name with_stuck majority flipped forced lines_of lines_below digits cells_in placed_in states_of saved_text counts_below
stopped = refl

-- fewer times than are to be made, which are refused behind all else
too_few : save_answer 4 (codes "IMAGE\nLVDC 1\n0 00 000 000017000\n0 00 001 000007001\n0 00 002 000013002\n0 00 003 000010003\n0 01 000 177777777\n0 01 001 000000001\nEND\nRUN 3\n") []
    ≡ answer_with 2 (codes "REFUSED CountTooLarge 10\n") []
unfolding lines_from tokens_from octal_text word_in commands_from told_from deck_from entry_in words_told banks_named banks_in image_of step_in twin_in pair_in cell_in module_copy_in index_in span_in place_in is_name with_stuck majority flipped forced lines_of lines_below digits cells_in placed_in states_of saved_text counts_below
too_few = refl

deck_first : save_answer 4 (codes "IMAGE\nLVDC 1\n0 00 000 000010000\nEND\nFAULTS\nFLY\nRUN 3\n") []
    ≡ answer_with 2 (codes "REFUSED BadLine 6\n") []
unfolding lines_from tokens_from octal_text word_in commands_from told_from deck_from entry_in words_told banks_named banks_in image_of step_in twin_in pair_in cell_in module_copy_in index_in span_in place_in is_name with_stuck majority flipped forced lines_of lines_below digits cells_in placed_in states_of saved_text counts_below
deck_first = refl
