-- Worked runs, from the bytes of a deck to the report: one that withstands its faults, and one that ends at the first step that is
-- inadmissible.
use Rattle.std.proofs.Common.{◌≡◌, [], refl}
use Rattle.std.specs.Prelude.{codes}
use Rattle.lvdc_command_run.specs.Answers.{job_answer}
use Rattle.lvdc_command_run.specs.declared.job.Engine.TheVariants.{Guarded}
use Rattle.lvdc_command_run.specs.declared.job.Job.TheVariants.{Deck}
use Rattle.lvdc_deck.specs.Deck.{commands_from, told_from, deck_from}
use Rattle.lvdc_image.specs.Reading.{entry_in, words_from as words_told, banks_named, banks_in, image_of}
use Rattle.lvdc_lines.specs.Noted.{lines_of, lines_below}
use Rattle.lvdc_report.specs.Voted.{counts_below}
use Rattle.lvdc_lines.specs.Fields.{step_in, twin_in, pair_in, cell_in, module_copy_in, index_in, span_in, place_in}
use Rattle.lvdc_source.specs.Names.{is_name}
use Rattle.lvdc_text.specs.Lines.{lines_from, tokens_from}
use Rattle.lvdc_text.specs.Numbers.{octal_text, word_in}
use Rattle.lvdc_vote.specs.Bits.{majority, flipped, forced}
use Rattle.lvdc_word.specs.Cell.{with_stuck}
use Rattle.std.specs.Fmt.{digits}
use Rattle.lvdc_reply.specs.Answer.{answer_with}

-- a copy is outvoted, and a damaged cell is repaired
withstood : job_answer (Deck Guarded) (codes "IMAGE\nLVDC 1\n0 00 000 000017000\n0 01 000 177777777\nEND\nFAULTS\nDAMAGE 0 0 01 000 1 1\nFLIP 5 1 2 2 0 1\nRUN 1\n") []
    ≡ answer_with 0 (codes "LVDC RUN\nEND DONE\nTIMES 1\nPLACE 0 00 0 001\nDATA 0 01\nDUP 1 1\nA 177777777\nPQ 000000000\nSAVER 000000000\nMEM 0 00 000 000017000\nMEM 0 01 000 177777777\nWRONG 5 1 1\nREPAIR 1 0 01 000 0 SWITCH\n") []
unfolding lines_from tokens_from octal_text word_in commands_from told_from deck_from entry_in words_told banks_named banks_in image_of step_in twin_in pair_in cell_in module_copy_in index_in span_in place_in is_name with_stuck majority flipped forced lines_of lines_below digits counts_below
withstood = refl

-- two copies of one module are wrong in one step
two_wrong_copies : job_answer (Deck Guarded) (codes "IMAGE\nLVDC 1\n0 00 000 000017000\n0 01 000 177777777\nEND\nFAULTS\nLAG 3 1 1 1\nLAG 3 2 1 1\nRUN 1\n") []
    ≡ answer_with 5 (codes "LVDC RUN\nEND INADMISSIBLE 1 LOGIC 3\nTIMES 0\nPLACE 0 00 0 000\nDATA 0 01\nDUP 1 1\nA 000000000\nPQ 000000000\nSAVER 000000000\nMEM 0 00 000 000017000\nMEM 0 01 000 177777777\n") []
unfolding lines_from tokens_from octal_text word_in commands_from told_from deck_from entry_in words_told banks_named banks_in image_of step_in twin_in pair_in cell_in module_copy_in index_in span_in place_in is_name with_stuck majority flipped forced lines_of lines_below digits counts_below
two_wrong_copies = refl
