-- Worked lines of studies, and worked studies.
use Rattle.std.proofs.Common.{◌≡◌, List, ℕ, [], ◌∷◌, ◌++◌, true, false, None, Some, refl}
use Rattle.std.specs.Prelude.{codes}
use Rattle.std.specs.Fmt.{digits}
use Rattle.lvdc_word.specs.Cell.{with_stuck}
use Rattle.lvdc_vote.specs.Bits.{majority, flipped}
use Rattle.lvdc_text.specs.Joined.{text_of}
use Rattle.lvdc_text.specs.Lines.{lines_from, tokens_from}
use Rattle.lvdc_text.specs.Numbers.{octal_text, word_in}
use Rattle.lvdc_image.specs.Reading.{entry_in, words_from as words_told, image_of}
use Rattle.lvdc_lines.specs.Fields.{module_copy_in, index_in, span_in, step_in}
use Rattle.lvdc_source.specs.Names.{is_name}
use Rattle.lvdc_deck.specs.Deck.{told_from, deck_from}
use Rattle.lvdc_campaign_deck.specs.Campaign.{from_campaign}
use Rattle.lvdc_campaign_deck.specs.Scripts.{scripts_from}
use Rattle.lvdc_reply.specs.Answer.{Answer, answer_with}
use Rattle.lvdc_report.specs.Voted.{counts_below}
use Rattle.lvdc_campaign_deck.specs.Study.{other_line}
use Rattle.lvdc_study.specs.Outcomes.{least_below}
use Rattle.lvdc_fault.specs.declared.verdict.Verdict.TheVariants.{Admissible, Logic, Memory}
use Rattle.lvdc_lines.specs.Noted.{lines_of}
use Rattle.lvdc_study.specs.declared.difference.Difference.TheVariants.{End, Port, Registers, Words}
use Rattle.lvdc_study.specs.declared.row.Row.{Row}
use Rattle.lvdc_command_study.specs.Answers.{study_answer, failed_text}
use Rattle.lvdc_command_study.specs.Texts.{row_line, study_text}

abbrev a : Row
a = record { name = codes "A"; verdict = Admissible; difference = None; copies = 1; repairs = 0; first_repair = None; masks = true }

abbrev b : Row
b = record { name = codes "B"; verdict = Logic 4 3; difference = Some Registers; copies = 1; repairs = 0; first_repair = None; masks = false }

abbrev c : Row
c = record { name = codes "C"; verdict = Logic 0 5; difference = None; copies = 0; repairs = 0; first_repair = None; masks = false }

-- the whole text of these three
whole : study_text (a ∷ b ∷ c ∷ [])
    ≡ codes "SCRIPT A ADMISSIBLE SAME COPIES 1 REPAIRS 0 - FORM YES\n" ++ codes "SCRIPT B LOGIC 4 3 DIFFERS REGISTERS COPIES 1 REPAIRS 0 - FORM NO\n"
    ++ codes "SCRIPT C LOGIC 0 5 SAME COPIES 0 REPAIRS 0 - FORM NO\n" ++ codes "STUDY 3 ADMISSIBLE 1 SAME 2 FORM 1\n"
unfolding digits lines_of
whole = refl

output : row_line (record { name = codes "OUTPUT"; verdict = Logic 5 5; difference = Some (Port 2); copies = 1; repairs = 0; first_repair = None; masks = false })
    ≡ codes "SCRIPT OUTPUT LOGIC 5 5 DIFFERS PORT 2 COPIES 1 REPAIRS 0 - FORM NO\n"
unfolding digits
output = refl

stored : row_line (record { name = codes "STORED"; verdict = Logic 3 5; difference = Some (Words (record { pair = 0; sector = 1; loc = 2 })); copies = 2; repairs = 0; first_repair = None; masks = false })
    ≡ codes "SCRIPT STORED LOGIC 3 5 DIFFERS WORDS 0 01 002 COPIES 2 REPAIRS 0 - FORM NO\n"
unfolding digits octal_text
stored = refl

both : row_line (record { name = codes "BOTH"; verdict = Memory 6 (record { pair = 0; sector = 0; loc = 2 }); difference = Some End; copies = 0; repairs = 0; first_repair = None; masks = false })
    ≡ codes "SCRIPT BOTH MEMORY 6 0 00 002 DIFFERS END COPIES 0 REPAIRS 0 - FORM NO\n"
unfolding digits octal_text
both = refl

one : row_line (record { name = codes "ONE"; verdict = Admissible; difference = None; copies = 0; repairs = 1; first_repair = Some 3; masks = true })
    ≡ codes "SCRIPT ONE ADMISSIBLE SAME COPIES 0 REPAIRS 1 3 FORM YES\n"
unfolding digits
one = refl

at_a_port : failed_text 0o17 ≡ codes "DEVICE 017\n"
unfolding octal_text
at_a_port = refl

-- ---- studies

-- what is answered to a study with these lines behind its first two, where there are no devices
answered : List (List ℕ) → Answer
answered lines = study_answer (text_of (codes "IMAGE" ∷ codes "LVDC 1" ∷ lines)) []

-- a sum that wraps at the sign: one wrong copy, and two that make an AND of it
of_a_sum : answered (codes "0 00 000 000017000" ∷ codes "0 00 001 000007001" ∷ codes "0 00 002 000013002" ∷ codes "0 00 003 000010003" ∷ codes "0 01 000 177777777"
    ∷ codes "0 01 001 000000001" ∷ codes "END" ∷ codes "RUN 3" ∷ codes "CAMPAIGN" ∷ codes "SCRIPT A" ∷ codes "FLIP 5 1 3 3 0 000000001" ∷ codes "SCRIPT B"
    ∷ codes "FLIP 3 1 4 4 0 000001000" ∷ codes "FLIP 3 2 4 4 0 000001000" ∷ []) ≡
    answer_with 0 (codes "SCRIPT A ADMISSIBLE SAME COPIES 1 REPAIRS 0 - FORM YES\nSCRIPT B LOGIC 4 3 DIFFERS REGISTERS COPIES 1 REPAIRS 0 - FORM NO\nSTUDY 2 ADMISSIBLE 1 SAME 1 FORM 1\n") []
unfolding answered lines_from tokens_from told_from deck_from words_told image_of entry_in word_in module_copy_in index_in span_in step_in is_name from_campaign other_line scripts_from with_stuck majority flipped counts_below least_below digits octal_text lines_of
of_a_sum = refl

faults_before_campaign : answered (codes "END" ∷ codes "FAULTS" ∷ codes "LAG 1 1 0 0" ∷ codes "RUN 3" ∷ codes "CAMPAIGN" ∷ codes "SCRIPT A" ∷ []) ≡ answer_with 2 (codes "REFUSED BadSection 4\n") []
unfolding answered lines_from tokens_from told_from deck_from words_told image_of word_in module_copy_in span_in step_in is_name from_campaign other_line scripts_from digits
faults_before_campaign = refl
