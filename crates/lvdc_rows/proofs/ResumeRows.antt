-- Worked saved texts from which a run goes on, and refusals.
use Rattle.std.proofs.Common.{◌≡◌, ℕ, List, [], ◌∷◌, Option, None, Some, Result, Ok, Err, true, refl}
use Rattle.std.specs.Prelude.{codes}
use Rattle.lvdc_command_resume.specs.Answers.{resume_answer}
use Rattle.lvdc_command_resume.specs.Runs.{last_state}
use Rattle.lvdc_fault.specs.declared.verdict.Verdict.TheVariants.{Logic}
use Rattle.lvdc_model.specs.declared.outcome.Outcome.TheVariants.{Done, Inadmissible}
use Rattle.lvdc_model.specs.declared.outcome.Outcome.{Outcome}
use Rattle.lvdc_model.specs.declared.repair.Repair.{Repair}
use Rattle.lvdc_reply.specs.Answer.{answer_with}
use Rattle.lvdc_lines.specs.Noted.{lines_of, lines_below}
use Rattle.lvdc_report.specs.Report.{registers_text}
use Rattle.lvdc_report.specs.Voted.{counts_below, visible_of}
use Rattle.lvdc_save.specs.Reading.{told_from, told_entries, saved_of}
use Rattle.lvdc_save.specs.declared.fault.SaveFault.{SaveFault}
use Rattle.lvdc_save.specs.declared.saved.Saved.{Saved}
use Rattle.lvdc_lines.specs.Fields.{step_in, twin_in, pair_in, cell_in, module_copy_in, index_in, span_in, place_in}
use Rattle.lvdc_source.specs.Names.{is_name}
use Rattle.lvdc_text.specs.Lines.{lines_from, tokens_from}
use Rattle.lvdc_text.specs.Numbers.{octal_text, word_in}
use Rattle.lvdc_vote.specs.Bits.{majority, flipped, forced}
use Rattle.lvdc_word.specs.Cell.{with_stuck}
use Rattle.std.specs.Fmt.{digits}

-- what the run that goes on from a saved state comes to: its end, its registers, its repairs and how often each copy differed
pub record End : Type 0 where
  pub end : Option Outcome
  pub registers : List ℕ
  pub repairs : List Repair
  pub counts : List (List ℕ)

end_of : Result Saved SaveFault → Result End SaveFault
end_of (Ok s) =
    Ok (record {
      end = (last_state s []).end;
      registers = registers_text (visible_of (last_state s []));
      repairs = (last_state s []).repairs;
      counts = (last_state s []).counts;
    })
end_of (Err fault) = Err fault

-- the second half of a run, with the repair and the copy that differed in the first
second_half : end_of (saved_of [] (codes "LVDC SAVE 1\nSTEPS 3\nCOUNT 3\nCOPY 1 1 0 000000000 000000000\nCOPY 1 2 0 000000000 000000000\nCOPY 1 3 0 000000000 000000000\nCOPY 2 1 0 000002004 000000000\nCOPY 2 2 0 000002004 000000000\nCOPY 2 3 0 000002004 000000000\nCOPY 3 1 0 000017000\nCOPY 3 2 0 000017000\nCOPY 3 3 0 000017000\nCOPY 4 1 0 000000012\nCOPY 4 2 0 000000012\nCOPY 4 3 0 000000012\nCOPY 5 1 1 177777776 177777777\nCOPY 5 2 0 177777777 177777777\nCOPY 5 3 0 177777777 177777777\nCOPY 6 1 0 000000000 000000000 000000000 000000000 000000000\nCOPY 6 2 0 000000000 000000000 000000000 000000000 000000000\nCOPY 6 3 0 000000000 000000000 000000000 000000000 000000000\nCOPY 7 1 0 000000000 000000000\nCOPY 7 2 0 000000000 000000000\nCOPY 7 3 0 000000000 000000000\nSELECT 1 0 0 0\nCELL 0 0 00 000 1000037000\nCELL 0 0 00 001 1000027001\nCELL 0 0 00 002 1000033002\nCELL 0 0 00 003 1000010003\nCELL 0 0 01 000 1377757777\nCELL 0 0 01 001 1000000001\nCELL 1 0 00 000 1000037000\nCELL 1 0 00 001 1000027001\nCELL 1 0 00 002 1000033002\nCELL 1 0 00 003 1000010003\nCELL 1 0 01 000 1377757777\nCELL 1 0 01 001 1000000001\nWORD 0 00 000 000017000\nWORD 0 00 001 000007001\nWORD 0 00 002 000013002\nWORD 0 00 003 000010003\nWORD 0 01 000 177777777\nWORD 0 01 001 000000001\nREPAIR 1 0 01 000 0 SWITCH\nDAMAGE 0 0 01 000 1 0000000001\nFLIP 5 1 2 2 0 000000001\nABCDEFGHIJKLMNOPQRSTU\nEND\n"))
    ≡ Ok (record {
      end = None;
      registers = codes "TIMES 3\nPLACE 0 00 0 003\nDATA 0 01\nDUP 1 1\nA 200000000\nPQ 000000000\nSAVER 000000000\n";
      repairs = record { step = 1; at = record { pair = 0; sector = 1; loc = 0 }; twin = 0; switched = true } ∷ [];
      counts = (0 ∷ 0 ∷ 0 ∷ []) ∷ (0 ∷ 0 ∷ 0 ∷ []) ∷ (0 ∷ 0 ∷ 0 ∷ []) ∷ (0 ∷ 0 ∷ 0 ∷ []) ∷ (1 ∷ 0 ∷ 0 ∷ []) ∷ (0 ∷ 0 ∷ 0 ∷ []) ∷ (0 ∷ 0 ∷ 0 ∷ []) ∷ [];
    })
unfolding end_of lines_from tokens_from octal_text word_in step_in twin_in pair_in cell_in module_copy_in index_in span_in place_in is_name with_stuck majority flipped forced lines_of lines_below digits told_from told_entries counts_below
second_half = refl

-- it meets the step that is not admissible
inadmissible : end_of (saved_of [] (codes "LVDC SAVE 1\nSTEPS 3\nCOUNT 3\nCOPY 1 1 0 000000000 000000000\nCOPY 1 2 0 000000000 000000000\nCOPY 1 3 0 000000000 000000000\nCOPY 2 1 0 000002004 000000000\nCOPY 2 2 0 000002004 000000000\nCOPY 2 3 0 000002004 000000000\nCOPY 3 1 0 000017000\nCOPY 3 2 0 000017000\nCOPY 3 3 0 000017000\nCOPY 4 1 0 000000012\nCOPY 4 2 0 000000012\nCOPY 4 3 0 000000012\nCOPY 5 1 0 177777777 177777777\nCOPY 5 2 0 177777777 177777777\nCOPY 5 3 0 177777777 177777777\nCOPY 6 1 0 000000000 000000000 000000000 000000000 000000000\nCOPY 6 2 0 000000000 000000000 000000000 000000000 000000000\nCOPY 6 3 0 000000000 000000000 000000000 000000000 000000000\nCOPY 7 1 0 000000000 000000000\nCOPY 7 2 0 000000000 000000000\nCOPY 7 3 0 000000000 000000000\nSELECT 0 0 0 0\nCELL 0 0 00 000 1000037000\nCELL 0 0 00 001 1000027001\nCELL 0 0 00 002 1000033002\nCELL 0 0 00 003 1000010003\nCELL 0 0 01 000 1377757777\nCELL 0 0 01 001 1000000001\nCELL 1 0 00 000 1000037000\nCELL 1 0 00 001 1000027001\nCELL 1 0 00 002 1000033002\nCELL 1 0 00 003 1000010003\nCELL 1 0 01 000 1377757777\nCELL 1 0 01 001 1000000001\nWORD 0 00 000 000017000\nWORD 0 00 001 000007001\nWORD 0 00 002 000013002\nWORD 0 00 003 000010003\nWORD 0 01 000 177777777\nWORD 0 01 001 000000001\nFLIP 3 1 4 4 0 000001000\nFLIP 3 2 4 4 0 000001000\nABCDEFGHIJKLMNOPQRSTU\nEND\n"))
    ≡ Ok (record {
      end = Some (Inadmissible (Logic 4 3));
      registers = codes "TIMES 1\nPLACE 0 00 0 001\nDATA 0 01\nDUP 1 1\nA 177777777\nPQ 000000000\nSAVER 000000000\n";
      repairs = [];
      counts = (0 ∷ 0 ∷ 0 ∷ []) ∷ (0 ∷ 0 ∷ 0 ∷ []) ∷ (0 ∷ 0 ∷ 0 ∷ []) ∷ (0 ∷ 0 ∷ 0 ∷ []) ∷ (0 ∷ 0 ∷ 0 ∷ []) ∷ (0 ∷ 0 ∷ 0 ∷ []) ∷ (0 ∷ 0 ∷ 0 ∷ []) ∷ [];
    })
unfolding end_of lines_from tokens_from octal_text word_in step_in twin_in pair_in cell_in module_copy_in index_in span_in place_in is_name with_stuck majority flipped forced lines_of lines_below digits told_from told_entries counts_below
inadmissible = refl

-- refusals: of the title, of a line that is missing, of one behind the end
no_title : resume_answer (codes "LVDC SAVE 2\n") [] ≡ answer_with 2 (codes "REFUSED BadSave 1\n") []
unfolding lines_from tokens_from octal_text word_in step_in twin_in pair_in cell_in module_copy_in index_in span_in place_in is_name with_stuck majority flipped forced lines_of lines_below digits told_from told_entries counts_below
no_title = refl

no_text : resume_answer (codes "") [] ≡ answer_with 2 (codes "REFUSED BadSave 1\n") []
unfolding lines_from tokens_from octal_text word_in step_in twin_in pair_in cell_in module_copy_in index_in span_in place_in is_name with_stuck majority flipped forced lines_of lines_below digits told_from told_entries counts_below
no_text = refl

a_line_too_few : resume_answer (codes "LVDC SAVE 1\nSTEPS 3\nCOUNT 3\nCOPY 1 1 0 000000000 000000000\nCOPY 1 3 0 000000000 000000000\nCOPY 2 1 0 000002004 000000000\nCOPY 2 2 0 000002004 000000000\nCOPY 2 3 0 000002004 000000000\nCOPY 3 1 0 000017000\nCOPY 3 2 0 000017000\nCOPY 3 3 0 000017000\nCOPY 4 1 0 000000012\nCOPY 4 2 0 000000012\nCOPY 4 3 0 000000012\nCOPY 5 1 1 177777776 177777777\nCOPY 5 2 0 177777777 177777777\nCOPY 5 3 0 177777777 177777777\nCOPY 6 1 0 000000000 000000000 000000000 000000000 000000000\nCOPY 6 2 0 000000000 000000000 000000000 000000000 000000000\nCOPY 6 3 0 000000000 000000000 000000000 000000000 000000000\nCOPY 7 1 0 000000000 000000000\nCOPY 7 2 0 000000000 000000000\nCOPY 7 3 0 000000000 000000000\nSELECT 1 0 0 0\nCELL 0 0 00 000 1000037000\nCELL 0 0 00 001 1000027001\nCELL 0 0 00 002 1000033002\nCELL 0 0 00 003 1000010003\nCELL 0 0 01 000 1377757777\nCELL 0 0 01 001 1000000001\nCELL 1 0 00 000 1000037000\nCELL 1 0 00 001 1000027001\nCELL 1 0 00 002 1000033002\nCELL 1 0 00 003 1000010003\nCELL 1 0 01 000 1377757777\nCELL 1 0 01 001 1000000001\nWORD 0 00 000 000017000\nWORD 0 00 001 000007001\nWORD 0 00 002 000013002\nWORD 0 00 003 000010003\nWORD 0 01 000 177777777\nWORD 0 01 001 000000001\nREPAIR 1 0 01 000 0 SWITCH\nDAMAGE 0 0 01 000 1 0000000001\nFLIP 5 1 2 2 0 000000001\nABCDEFGHIJKLMNOPQRSTU\nEND\n") [] ≡ answer_with 2 (codes "REFUSED BadSave 5\n") []
unfolding lines_from tokens_from octal_text word_in step_in twin_in pair_in cell_in module_copy_in index_in span_in place_in is_name with_stuck majority flipped forced lines_of lines_below digits told_from told_entries counts_below
a_line_too_few = refl

after_the_end : resume_answer (codes "LVDC SAVE 1\nSTEPS 3\nCOUNT 3\nCOPY 1 1 0 000000000 000000000\nCOPY 1 2 0 000000000 000000000\nCOPY 1 3 0 000000000 000000000\nCOPY 2 1 0 000002004 000000000\nCOPY 2 2 0 000002004 000000000\nCOPY 2 3 0 000002004 000000000\nCOPY 3 1 0 000017000\nCOPY 3 2 0 000017000\nCOPY 3 3 0 000017000\nCOPY 4 1 0 000000012\nCOPY 4 2 0 000000012\nCOPY 4 3 0 000000012\nCOPY 5 1 1 177777776 177777777\nCOPY 5 2 0 177777777 177777777\nCOPY 5 3 0 177777777 177777777\nCOPY 6 1 0 000000000 000000000 000000000 000000000 000000000\nCOPY 6 2 0 000000000 000000000 000000000 000000000 000000000\nCOPY 6 3 0 000000000 000000000 000000000 000000000 000000000\nCOPY 7 1 0 000000000 000000000\nCOPY 7 2 0 000000000 000000000\nCOPY 7 3 0 000000000 000000000\nSELECT 1 0 0 0\nCELL 0 0 00 000 1000037000\nCELL 0 0 00 001 1000027001\nCELL 0 0 00 002 1000033002\nCELL 0 0 00 003 1000010003\nCELL 0 0 01 000 1377757777\nCELL 0 0 01 001 1000000001\nCELL 1 0 00 000 1000037000\nCELL 1 0 00 001 1000027001\nCELL 1 0 00 002 1000033002\nCELL 1 0 00 003 1000010003\nCELL 1 0 01 000 1377757777\nCELL 1 0 01 001 1000000001\nWORD 0 00 000 000017000\nWORD 0 00 001 000007001\nWORD 0 00 002 000013002\nWORD 0 00 003 000010003\nWORD 0 01 000 177777777\nWORD 0 01 001 000000001\nREPAIR 1 0 01 000 0 SWITCH\nDAMAGE 0 0 01 000 1 0000000001\nFLIP 5 1 2 2 0 000000001\nABCDEFGHIJKLMNOPQRSTU\nEND\nEND\n") [] ≡ answer_with 2 (codes "REFUSED BadSave 49\n") []
unfolding lines_from tokens_from octal_text word_in step_in twin_in pair_in cell_in module_copy_in index_in span_in place_in is_name with_stuck majority flipped forced lines_of lines_below digits told_from told_entries counts_below
after_the_end = refl

no_end : resume_answer (codes "LVDC SAVE 1\nSTEPS 3\nCOUNT 3\nCOPY 1 1 0 000000000 000000000\nCOPY 1 2 0 000000000 000000000\nCOPY 1 3 0 000000000 000000000\nCOPY 2 1 0 000002004 000000000\nCOPY 2 2 0 000002004 000000000\nCOPY 2 3 0 000002004 000000000\nCOPY 3 1 0 000017000\nCOPY 3 2 0 000017000\nCOPY 3 3 0 000017000\nCOPY 4 1 0 000000012\nCOPY 4 2 0 000000012\nCOPY 4 3 0 000000012\nCOPY 5 1 1 177777776 177777777\nCOPY 5 2 0 177777777 177777777\nCOPY 5 3 0 177777777 177777777\nCOPY 6 1 0 000000000 000000000 000000000 000000000 000000000\nCOPY 6 2 0 000000000 000000000 000000000 000000000 000000000\nCOPY 6 3 0 000000000 000000000 000000000 000000000 000000000\nCOPY 7 1 0 000000000 000000000\nCOPY 7 2 0 000000000 000000000\nCOPY 7 3 0 000000000 000000000\nSELECT 1 0 0 0\nCELL 0 0 00 000 1000037000\nCELL 0 0 00 001 1000027001\nCELL 0 0 00 002 1000033002\nCELL 0 0 00 003 1000010003\nCELL 0 0 01 000 1377757777\nCELL 0 0 01 001 1000000001\nCELL 1 0 00 000 1000037000\nCELL 1 0 00 001 1000027001\nCELL 1 0 00 002 1000033002\nCELL 1 0 00 003 1000010003\nCELL 1 0 01 000 1377757777\nCELL 1 0 01 001 1000000001\nWORD 0 00 000 000017000\nWORD 0 00 001 000007001\nWORD 0 00 002 000013002\nWORD 0 00 003 000010003\nWORD 0 01 000 177777777\nWORD 0 01 001 000000001\nREPAIR 1 0 01 000 0 SWITCH\nDAMAGE 0 0 01 000 1 0000000001\nFLIP 5 1 2 2 0 000000001\nABCDEFGHIJKLMNOPQRSTU\n") [] ≡ answer_with 2 (codes "REFUSED BadSave 48\n") []
unfolding lines_from tokens_from octal_text word_in step_in twin_in pair_in cell_in module_copy_in index_in span_in place_in is_name with_stuck majority flipped forced lines_of lines_below digits told_from told_entries counts_below
no_end = refl

a_device : resume_answer (codes "LVDC SAVE 1\nSTEPS 3\nCOUNT 3\nCOPY 1 1 0 000000000 000000000\nCOPY 1 2 0 000000000 000000000\nCOPY 1 3 0 000000000 000000000\nCOPY 2 1 0 000002004 000000000\nCOPY 2 2 0 000002004 000000000\nCOPY 2 3 0 000002004 000000000\nCOPY 3 1 0 000017000\nCOPY 3 2 0 000017000\nCOPY 3 3 0 000017000\nCOPY 4 1 0 000000012\nCOPY 4 2 0 000000012\nCOPY 4 3 0 000000012\nCOPY 5 1 1 177777776 177777777\nCOPY 5 2 0 177777777 177777777\nCOPY 5 3 0 177777777 177777777\nCOPY 6 1 0 000000000 000000000 000000000 000000000 000000000\nCOPY 6 2 0 000000000 000000000 000000000 000000000 000000000\nCOPY 6 3 0 000000000 000000000 000000000 000000000 000000000\nCOPY 7 1 0 000000000 000000000\nCOPY 7 2 0 000000000 000000000\nCOPY 7 3 0 000000000 000000000\nSELECT 1 0 0 0\nCELL 0 0 00 000 1000037000\nCELL 0 0 00 001 1000027001\nCELL 0 0 00 002 1000033002\nCELL 0 0 00 003 1000010003\nCELL 0 0 01 000 1377757777\nCELL 0 0 01 001 1000000001\nCELL 1 0 00 000 1000037000\nCELL 1 0 00 001 1000027001\nCELL 1 0 00 002 1000033002\nCELL 1 0 00 003 1000010003\nCELL 1 0 01 000 1377757777\nCELL 1 0 01 001 1000000001\nWORD 0 00 000 000017000\nWORD 0 00 001 000007001\nWORD 0 00 002 000013002\nWORD 0 00 003 000010003\nWORD 0 01 000 177777777\nWORD 0 01 001 000000001\nREPAIR 1 0 01 000 0 SWITCH\nUNPLUG 000 2\nDAMAGE 0 0 01 000 1 0000000001\nFLIP 5 1 2 2 0 000000001\nABCDEFGHIJKLMNOPQRSTU\nEND\n") [] ≡ answer_with 2 (codes "REFUSED NoDevice 45\n") []
unfolding lines_from tokens_from octal_text word_in step_in twin_in pair_in cell_in module_copy_in index_in span_in place_in is_name with_stuck majority flipped forced lines_of lines_below digits told_from told_entries counts_below
a_device = refl
