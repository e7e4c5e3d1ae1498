-- Worked campaigns, and refusals where each is the first.
use Rattle.std.proofs.Common.{◌≡◌, ℕ, zero, suc, true, List, [], ◌∷◌, ◌++◌, Result, Err, is_ok, replicate, refl}
use Rattle.std.specs.Prelude.{codes, decimal}
use Rattle.lvdc_text.specs.Joined.{text_of}
use Rattle.lvdc_runs.specs.Same.{are_same_below}
use Rattle.lvdc_campaign_deck.specs.Campaign.{from_campaign, campaign_of}
use Rattle.lvdc_campaign_deck.specs.Scripts.{scripts_from}
use Rattle.lvdc_campaign_deck.specs.declared.deck.CampaignDeck.{CampaignDeck}
use Rattle.lvdc_campaign_deck.specs.declared.fault.CampaignFault.{CampaignFault}
use Rattle.lvdc_campaign_deck.specs.declared.fault.CampaignFault.TheVariants.{TooManyScripts}
use Rattle.lvdc_command_campaign.specs.Answers.{campaign_answer}
use Rattle.lvdc_deck.specs.Deck.{commands_from, told_from, deck_from}
use Rattle.lvdc_image.specs.Reading.{entry_in, words_from as words_told, banks_named, banks_in, image_of}
use Rattle.lvdc_lines.specs.Noted.{lines_of, lines_below}
use Rattle.lvdc_lines.specs.Fields.{step_in, twin_in, pair_in, cell_in, module_copy_in, index_in, span_in, place_in}
use Rattle.lvdc_source.specs.Names.{is_name}
use Rattle.lvdc_text.specs.Lines.{lines_from, tokens_from}
use Rattle.lvdc_text.specs.Numbers.{octal_text, word_in}
use Rattle.lvdc_vote.specs.Bits.{majority, flipped, forced}
use Rattle.lvdc_word.specs.Cell.{with_stuck}
use Rattle.std.specs.Fmt.{digits}
use Rattle.lvdc_reply.specs.Answer.{answer_with}

-- one script that is admissible, one that is not and comes to something else, one that is not and comes to the same
three_scripts : campaign_answer (codes "IMAGE\nLVDC 1\n0 00 000 000017000\n0 00 001 000007001\n0 00 002 000013002\n0 00 003 000010003\n0 01 000 177777777\n0 01 001 000000001\nEND\nRUN 3\nCAMPAIGN\nSCRIPT A\nFLIP 5 1 3 3 0 1\nSCRIPT B\nFLIP 3 1 4 4 0 1000\nFLIP 3 2 4 4 0 1000\nSCRIPT C\nLAG 5 1 0 0\nLAG 5 2 0 0\n") []
    ≡ answer_with 0 (codes "SCRIPT A ADMISSIBLE SAME\nSCRIPT B LOGIC 4 3 DIFFERS\nSCRIPT C LOGIC 0 5 SAME\nCAMPAIGN 3 ADMISSIBLE 1 SAME 2\n") []
unfolding lines_from tokens_from octal_text word_in commands_from told_from deck_from entry_in words_told banks_named banks_in image_of step_in twin_in pair_in cell_in module_copy_in index_in span_in place_in is_name with_stuck majority flipped forced lines_of lines_below digits from_campaign scripts_from are_same_below
three_scripts = refl

-- a lost word, and an unread one
words : campaign_answer (codes "IMAGE\nLVDC 1\n0 00 000 000017000\n0 00 001 000007001\n0 00 002 000013002\n0 00 003 000010003\n0 01 000 177777777\n0 01 001 000000001\nEND\nRUN 2\nCAMPAIGN\nSCRIPT BOTH\nDAMAGE 0 0 01 000 0 1\nDAMAGE 1 0 01 000 0 1\nSCRIPT UNREAD\nDAMAGE 0 0 01 007 0 3\n") []
    ≡ answer_with 0 (codes "SCRIPT BOTH MEMORY 1 0 01 000 DIFFERS\nSCRIPT UNREAD ADMISSIBLE SAME\nCAMPAIGN 2 ADMISSIBLE 1 SAME 1\n") []
unfolding lines_from tokens_from octal_text word_in commands_from told_from deck_from entry_in words_told banks_named banks_in image_of step_in twin_in pair_in cell_in module_copy_in index_in span_in place_in is_name with_stuck majority flipped forced lines_of lines_below digits from_campaign scripts_from are_same_below
words = refl

-- no script
none : campaign_answer (codes "IMAGE\nLVDC 1\n0 00 000 000010000\nEND\nRUN 2\nCAMPAIGN\n") []
    ≡ answer_with 0 (codes "CAMPAIGN 0 ADMISSIBLE 0 SAME 0\n") []
unfolding lines_from tokens_from octal_text word_in commands_from told_from deck_from entry_in words_told banks_named banks_in image_of step_in twin_in pair_in cell_in module_copy_in index_in span_in place_in is_name with_stuck majority flipped forced lines_of lines_below digits from_campaign scripts_from are_same_below
none = refl

-- a comment of 120 bytes, and one of 121
long_comment : campaign_answer (codes "IMAGE\nLVDC 1\n0 00 000 000010000\nEND\nRUN 2\nCAMPAIGN\n* XXXXXXXXXXXXXXXXXXXXXXXXXXXXXXXXXXXXXXXXXXXXXXXXXXXXXXXXXXXXXXXXXXXXXXXXXXXXXXXXXXXXXXXXXXXXXXXXXXXXXXXXXXXXXXXXXXXXXX\nSCRIPT A\n") []
    ≡ answer_with 0 (codes "SCRIPT A ADMISSIBLE SAME\nCAMPAIGN 1 ADMISSIBLE 1 SAME 1\n") []
unfolding lines_from tokens_from octal_text word_in commands_from told_from deck_from entry_in words_told banks_named banks_in image_of step_in twin_in pair_in cell_in module_copy_in index_in span_in place_in is_name with_stuck majority flipped forced lines_of lines_below digits from_campaign scripts_from are_same_below
long_comment = refl

too_long_comment : campaign_answer (codes "IMAGE\nLVDC 1\n0 00 000 000010000\nEND\nRUN 2\nCAMPAIGN\nSCRIPT A\n* XXXXXXXXXXXXXXXXXXXXXXXXXXXXXXXXXXXXXXXXXXXXXXXXXXXXXXXXXXXXXXXXXXXXXXXXXXXXXXXXXXXXXXXXXXXXXXXXXXXXXXXXXXXXXXXXXXXXXXX\n") []
    ≡ answer_with 2 (codes "REFUSED BadLine 8\n") []
unfolding lines_from tokens_from octal_text word_in commands_from told_from deck_from entry_in words_told banks_named banks_in image_of step_in twin_in pair_in cell_in module_copy_in index_in span_in place_in is_name with_stuck majority flipped forced lines_of lines_below digits from_campaign scripts_from are_same_below
too_long_comment = refl

-- a fault before the first script, a name again, and no name
no_script : campaign_answer (codes "IMAGE\nLVDC 1\n0 00 000 000010000\nEND\nRUN 2\nCAMPAIGN\nLAG 1 1 0 0\n") []
    ≡ answer_with 2 (codes "REFUSED BadLine 7\n") []
unfolding lines_from tokens_from octal_text word_in commands_from told_from deck_from entry_in words_told banks_named banks_in image_of step_in twin_in pair_in cell_in module_copy_in index_in span_in place_in is_name with_stuck majority flipped forced lines_of lines_below digits from_campaign scripts_from are_same_below
no_script = refl

name_again : campaign_answer (codes "IMAGE\nLVDC 1\n0 00 000 000010000\nEND\nRUN 2\nCAMPAIGN\nSCRIPT A\nLAG 1 1 0 0\nSCRIPT B\nSCRIPT A\n") []
    ≡ answer_with 2 (codes "REFUSED BadLine 10\n") []
unfolding lines_from tokens_from octal_text word_in commands_from told_from deck_from entry_in words_told banks_named banks_in image_of step_in twin_in pair_in cell_in module_copy_in index_in span_in place_in is_name with_stuck majority flipped forced lines_of lines_below digits from_campaign scripts_from are_same_below
name_again = refl

no_name : campaign_answer (codes "IMAGE\nLVDC 1\n0 00 000 000010000\nEND\nRUN 2\nCAMPAIGN\nSCRIPT A B\n") []
    ≡ answer_with 2 (codes "REFUSED BadLine 7\n") []
unfolding lines_from tokens_from octal_text word_in commands_from told_from deck_from entry_in words_told banks_named banks_in image_of step_in twin_in pair_in cell_in module_copy_in index_in span_in place_in is_name with_stuck majority flipped forced lines_of lines_below digits from_campaign scripts_from are_same_below
no_name = refl

no_fault_line : campaign_answer (codes "IMAGE\nLVDC 1\n0 00 000 000010000\nEND\nRUN 2\nCAMPAIGN\nSCRIPT A\nLAG 8 1 0 0\n") []
    ≡ answer_with 2 (codes "REFUSED BadLine 8\n") []
unfolding lines_from tokens_from octal_text word_in commands_from told_from deck_from entry_in words_told banks_named banks_in image_of step_in twin_in pair_in cell_in module_copy_in index_in span_in place_in is_name with_stuck majority flipped forced lines_of lines_below digits from_campaign scripts_from are_same_below
no_fault_line = refl

-- ten thousand times, and one more; that comes before the scripts, and a section before it
too_many_times : campaign_answer (codes "IMAGE\nLVDC 1\n0 00 000 000010000\nEND\nRUN 10001\nCAMPAIGN\nFLY\n") []
    ≡ answer_with 2 (codes "REFUSED CountTooLarge 5\n") []
unfolding lines_from tokens_from octal_text word_in commands_from told_from deck_from entry_in words_told banks_named banks_in image_of step_in twin_in pair_in cell_in module_copy_in index_in span_in place_in is_name with_stuck majority flipped forced lines_of lines_below digits from_campaign scripts_from are_same_below
too_many_times = refl

section_first : campaign_answer (codes "IMAGE\nLVDC 1\n0 00 000 000010000\nEND\nFAULTS\nLAG 1 1 0 0\nRUN 10001\nCAMPAIGN\nFLY\n") []
    ≡ answer_with 2 (codes "REFUSED BadSection 5\n") []
unfolding lines_from tokens_from octal_text word_in commands_from told_from deck_from entry_in words_told banks_named banks_in image_of step_in twin_in pair_in cell_in module_copy_in index_in span_in place_in is_name with_stuck majority flipped forced lines_of lines_below digits from_campaign scripts_from are_same_below
section_first = refl

no_campaign : campaign_answer (codes "IMAGE\nLVDC 1\n0 00 000 000010000\nEND\nRUN 2\n") []
    ≡ answer_with 2 (codes "REFUSED BadSection 6\n") []
unfolding lines_from tokens_from octal_text word_in commands_from told_from deck_from entry_in words_told banks_named banks_in image_of step_in twin_in pair_in cell_in module_copy_in index_in span_in place_in is_name with_stuck majority flipped forced lines_of lines_below digits from_campaign scripts_from are_same_below
no_campaign = refl

-- a refusal of the deck has its own status: of its image 4, else 2
bad_image : campaign_answer (codes "IMAGE\nLVDC 3\nEND\nRUN 2\nCAMPAIGN\n") []
    ≡ answer_with 4 (codes "REFUSED BadImageLine 2\n") []
unfolding lines_from tokens_from octal_text word_in commands_from told_from deck_from entry_in words_told banks_named banks_in image_of step_in twin_in pair_in cell_in module_copy_in index_in span_in place_in is_name with_stuck majority flipped forced lines_of lines_below digits from_campaign scripts_from are_same_below
bad_image = refl

no_program : campaign_answer (codes "RUN 2\nCAMPAIGN\n") []
    ≡ answer_with 2 (codes "REFUSED NoProgram 1\n") []
unfolding lines_from tokens_from octal_text word_in commands_from told_from deck_from entry_in words_told banks_named banks_in image_of step_in twin_in pair_in cell_in module_copy_in index_in span_in place_in is_name with_stuck majority flipped forced lines_of lines_below digits from_campaign scripts_from are_same_below
no_program = refl

-- ---- ends other than that of the count

-- plain stops at EXM in step 2. Of the scripts one changes nothing; by the second the instruction is a wrong shift, so that the machine
-- stops in the same step for another cause and all else is the same; the third takes the first word away; by the fourth it is no stop
stops : campaign_answer (codes "IMAGE\nLVDC 1\n0 00 000 000016600\nEND\nRUN 2\nCAMPAIGN\nSCRIPT NONE\nSCRIPT CAUSE\nFLIP 3 1 0 0 0 403\nFLIP 3 2 0 0 0 403\nSCRIPT LOST\nDAMAGE 0 0 00 000 0 1\nDAMAGE 1 0 00 000 0 1\nSCRIPT GOES\nFLIP 3 1 0 0 0 400\nFLIP 3 3 0 0 0 400\n") []
    ≡ answer_with 0 (codes "SCRIPT NONE ADMISSIBLE SAME\nSCRIPT CAUSE LOGIC 0 3 DIFFERS\nSCRIPT LOST MEMORY 0 0 00 000 DIFFERS\nSCRIPT GOES LOGIC 0 3 DIFFERS\nCAMPAIGN 4 ADMISSIBLE 1 SAME 1\n") []
unfolding lines_from tokens_from octal_text word_in commands_from told_from deck_from entry_in words_told banks_named banks_in image_of step_in twin_in pair_in cell_in module_copy_in index_in span_in place_in is_name with_stuck majority flipped forced lines_of lines_below digits from_campaign scripts_from are_same_below
stops = refl

-- what comes after the stop is no fault of the script, and neither is what comes before it and is voted away
after_the_stop : campaign_answer (codes "IMAGE\nLVDC 1\n0 00 000 000016600\nEND\nRUN 2\nCAMPAIGN\nSCRIPT LATE\nLAG 3 1 3 3\nLAG 3 2 3 3\nSCRIPT ONE\nFLIP 3 1 0 0 0 403\n") []
    ≡ answer_with 0 (codes "SCRIPT LATE ADMISSIBLE SAME\nSCRIPT ONE ADMISSIBLE SAME\nCAMPAIGN 2 ADMISSIBLE 2 SAME 2\n") []
unfolding lines_from tokens_from octal_text word_in commands_from told_from deck_from entry_in words_told banks_named banks_in image_of step_in twin_in pair_in cell_in module_copy_in index_in span_in place_in is_name with_stuck majority flipped forced lines_of lines_below digits from_campaign scripts_from are_same_below
after_the_stop = refl

-- ---- the line CAMPAIGN

blanks_around_campaign : campaign_answer (codes "IMAGE\nLVDC 1\n0 00 000 000010000\nEND\nRUN 2\n \tCAMPAIGN \t\nSCRIPT A\n") []
    ≡ answer_with 0 (codes "SCRIPT A ADMISSIBLE SAME\nCAMPAIGN 1 ADMISSIBLE 1 SAME 1\n") []
unfolding lines_from tokens_from octal_text word_in commands_from told_from deck_from entry_in words_told banks_named banks_in image_of step_in twin_in pair_in cell_in module_copy_in index_in span_in place_in is_name with_stuck majority flipped forced lines_of lines_below digits from_campaign scripts_from are_same_below
blanks_around_campaign = refl

campaign_with_a_word : campaign_answer (codes "IMAGE\nLVDC 1\n0 00 000 000010000\nEND\nRUN 2\nCAMPAIGN A\nSCRIPT A\n") []
    ≡ answer_with 2 (codes "REFUSED BadSection 6\n") []
unfolding lines_from tokens_from octal_text word_in commands_from told_from deck_from entry_in words_told banks_named banks_in image_of step_in twin_in pair_in cell_in module_copy_in index_in span_in place_in is_name with_stuck majority flipped forced lines_of lines_below digits from_campaign scripts_from are_same_below
campaign_with_a_word = refl

-- the line has 120 bytes, and one more
longest_campaign : campaign_answer (codes "IMAGE\nLVDC 1\n0 00 000 000010000\nEND\nRUN 2\nCAMPAIGN" ++ replicate 112 32 ++ codes "\nSCRIPT A\n") []
    ≡ answer_with 0 (codes "SCRIPT A ADMISSIBLE SAME\nCAMPAIGN 1 ADMISSIBLE 1 SAME 1\n") []
unfolding lines_from tokens_from octal_text word_in commands_from told_from deck_from entry_in words_told banks_named banks_in image_of step_in twin_in pair_in cell_in module_copy_in index_in span_in place_in is_name with_stuck majority flipped forced lines_of lines_below digits from_campaign scripts_from are_same_below
longest_campaign = refl

too_long_campaign : campaign_answer (codes "IMAGE\nLVDC 1\n0 00 000 000010000\nEND\nRUN 2\nCAMPAIGN" ++ replicate 113 32 ++ codes "\nSCRIPT A\n") []
    ≡ answer_with 2 (codes "REFUSED BadLine 6\n") []
unfolding lines_from tokens_from octal_text word_in commands_from told_from deck_from entry_in words_told banks_named banks_in image_of step_in twin_in pair_in cell_in module_copy_in index_in span_in place_in is_name with_stuck majority flipped forced lines_of lines_below digits from_campaign scripts_from are_same_below
too_long_campaign = refl

-- ---- a simplex pair has one cell for a word, which isn't repaired

simplex : campaign_answer (codes "IMAGE\nLVDC 2\nSTART 000000016\nSIMPLEX 0\n0 00 000 000010000\nEND\nRUN 2\nCAMPAIGN\nSCRIPT A\nDAMAGE 0 0 00 000 0 1\n") []
    ≡ answer_with 0 (codes "SCRIPT A MEMORY 0 0 00 000 DIFFERS\nCAMPAIGN 1 ADMISSIBLE 0 SAME 0\n") []
unfolding lines_from tokens_from octal_text word_in commands_from told_from deck_from entry_in words_told banks_named banks_in image_of step_in twin_in pair_in cell_in module_copy_in index_in span_in place_in is_name with_stuck majority flipped forced lines_of lines_below digits from_campaign scripts_from are_same_below
simplex = refl

-- ---- 256 scripts, and one more

-- lines SCRIPT with the names S1, S2 and so on, from this number on
script_lines : ℕ → ℕ → List (List ℕ)
script_lines first zero = []
script_lines first (suc more) = (codes "SCRIPT S" ++ decimal first) ∷ script_lines (suc first) more

-- the campaign of so many of them, from line 6 on
with_scripts : ℕ → Result CampaignDeck CampaignFault
with_scripts count = campaign_of (text_of (codes "IMAGE" ∷ codes "LVDC 1" ∷ codes "END" ∷ codes "RUN 1" ∷ codes "CAMPAIGN" ∷ script_lines 1 count)) []

last_script : is_ok (with_scripts 256) ≡ true
unfolding with_scripts script_lines digits lines_from tokens_from word_in commands_from told_from deck_from words_told image_of is_name from_campaign scripts_from
last_script = refl

one_script_more : with_scripts 257 ≡ Err (TooManyScripts 262)
unfolding with_scripts script_lines digits lines_from tokens_from word_in commands_from told_from deck_from words_told image_of is_name from_campaign scripts_from
one_script_more = refl
