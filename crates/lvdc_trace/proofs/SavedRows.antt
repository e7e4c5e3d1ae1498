-- Worked traces of saved texts, by computing.
use Rattle.std.proofs.Common.{◌≡◌, ℕ, List, [], refl, false}
use Rattle.std.specs.Prelude.{codes}
use Rattle.std.specs.Fmt.{digits}
use Rattle.lvdc_word.specs.Cell.{with_stuck}
use Rattle.lvdc_vote.specs.Bits.{majority, flipped, forced}
use Rattle.lvdc_text.specs.Lines.{lines_from, tokens_from}
use Rattle.lvdc_text.specs.Numbers.{octal_text, word_in}
use Rattle.lvdc_machine.specs.declared.mode.Mode.TheVariants.{Guarded, Through}
use Rattle.lvdc_lines.specs.Fields.{step_in, twin_in, pair_in, cell_in, module_copy_in, index_in, span_in, place_in}
use Rattle.lvdc_lines.specs.Noted.{lines_of, lines_below}
use Rattle.lvdc_deck.specs.Deck.{deck_from}
use Rattle.lvdc_reply.specs.Answer.{answer_with}
use Rattle.lvdc_save.specs.Reading.{told_from}
use Rattle.lvdc_trace.specs.declared.window.Window.{Window}
use Rattle.lvdc_trace.specs.Answers.{is_saved, trace_answer}

abbrev window : ℕ → ℕ → Window
window first count = record { first = first; count = count }

-- the sum that wraps after one time of three, without devices, where another copy of the accumulator is wrong in each step from then on
text : List ℕ
text = codes "LVDC SAVE 1\nSTEPS 3\nCOUNT 3\nCOPY 1 1 0 000000000 000000000\nCOPY 1 2 0 000000000 000000000\nCOPY 1 3 0 000000000 000000000\nCOPY 2 1 0 000002004 000000000\nCOPY 2 2 0 000002004 000000000\nCOPY 2 3 0 000002004 000000000\nCOPY 3 1 0 000017000\nCOPY 3 2 0 000017000\nCOPY 3 3 0 000017000\nCOPY 4 1 0 000000012\nCOPY 4 2 0 000000012\nCOPY 4 3 0 000000012\nCOPY 5 1 0 177777777 177777777\nCOPY 5 2 0 177777777 177777777\nCOPY 5 3 0 177777777 177777777\nCOPY 6 1 0 000000000 000000000 000000000 000000000 000000000\nCOPY 6 2 0 000000000 000000000 000000000 000000000 000000000\nCOPY 6 3 0 000000000 000000000 000000000 000000000 000000000\nCOPY 7 1 0 000000000 000000000\nCOPY 7 2 0 000000000 000000000\nCOPY 7 3 0 000000000 000000000\nSELECT 0 0 0 0\nCELL 0 0 00 000 1000037000\nCELL 0 0 00 001 1000027001\nCELL 0 0 00 002 1000033002\nCELL 0 0 00 003 1000010003\nCELL 0 0 01 000 1377757777\nCELL 0 0 01 001 1000000001\nCELL 1 0 00 000 1000037000\nCELL 1 0 00 001 1000027001\nCELL 1 0 00 002 1000033002\nCELL 1 0 00 003 1000010003\nCELL 1 0 01 000 1377757777\nCELL 1 0 01 001 1000000001\nWORD 0 00 000 000017000\nWORD 0 00 001 000007001\nWORD 0 00 002 000013002\nWORD 0 00 003 000010003\nWORD 0 01 000 177777777\nWORD 0 01 001 000000001\nFLIP 5 1 3 3 0 000000001\nFLIP 5 2 4 4 0 000000001\nFLIP 5 3 5 5 0 000000001\nABCDEFGHIJKLMNOPQRSTU\nEND\n"

-- steps keep their numbers, and the first has the votes of all modules
steps_3_to_5 : List ℕ
steps_3_to_5 = codes "LVDC TRACE\nSTEP 3\nFETCH 0 00 001 000007001\nFAULT 5 1\nVOTE 1 000000001 000000000\nVOTE 2 000002004 000000000\nVOTE 3 000007001\nVOTE 4 000000012\nVOTE 5 177777777 177777777\nVOTE 6 000000000 000000000 000000000 000000000 000000000\nVOTE 7 000000000 000000000\nCOPY 5 1 177777776 177777777\nSTEP 4\nOPERAND 0 01 001 000000001\nFAULT 5 2\nVOTE 1 000000002 000000000\nVOTE 5 177777777 000000001\nCOPY 5 2 177777776 000000001\nSTEP 5\nFAULT 5 3\nVOTE 1 000000000 000000000\nVOTE 2 000004004 000000000\nVOTE 5 200000000 000000001\nCOPY 5 3 200000001 000000001\nMORE\n"

the_steps_that_are_left : trace_answer Guarded (window 3 3) text [] ≡ answer_with 0 steps_3_to_5 []
unfolding text steps_3_to_5 lines_from tokens_from octal_text word_in step_in twin_in pair_in cell_in module_copy_in index_in span_in place_in with_stuck majority flipped forced lines_of lines_below digits told_from
the_steps_that_are_left = refl

-- a window that begins before the state begins with it
from_before_the_state : trace_answer Guarded (window 0 3) text [] ≡ answer_with 0 steps_3_to_5 []
unfolding text steps_3_to_5 lines_from tokens_from octal_text word_in step_in twin_in pair_in cell_in module_copy_in index_in span_in place_in with_stuck majority flipped forced lines_of lines_below digits told_from
from_before_the_state = refl

-- it may begin after the last step
after_the_last_step : trace_answer Guarded (window 9 1) text [] ≡ answer_with 0 (codes "LVDC TRACE\nEND DONE\n") []
unfolding text lines_from tokens_from octal_text word_in step_in twin_in pair_in cell_in module_copy_in index_in span_in place_in with_stuck majority flipped forced lines_of lines_below digits told_from
after_the_last_step = refl

-- the title alone is a saved text, which lacks the rest
a_title_alone : trace_answer Guarded (window 0 1) (codes "LVDC SAVE 1\r\n") [] ≡ answer_with 2 (codes "REFUSED BadSave 2\n") []
unfolding lines_from tokens_from told_from digits
a_title_alone = refl

-- through every fault it is a deck's first line, and none
through_every_fault : trace_answer Through (window 0 1) (codes "LVDC SAVE 1\r\n") [] ≡ answer_with 2 (codes "REFUSED NoProgram 1\n") []
unfolding lines_from tokens_from deck_from digits
through_every_fault = refl

-- with a blank behind it the title is none
another_title : is_saved (codes "LVDC SAVE 1 \n") ≡ false
another_title = refl

-- and so is one behind a comment
a_title_behind_a_comment : is_saved (codes "*\nLVDC SAVE 1\n") ≡ false
a_title_behind_a_comment = refl
