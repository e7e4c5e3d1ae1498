-- Worked campaigns, the order of their refusals, and each limit with what is one beyond it.
use Rattle.std.proofs.Common.{◌≡◌, ℕ, List, [], ◌∷◌, ◌++◌, Result, Ok, Err, Some, refl}
use Rattle.std.specs.Prelude.{codes, replicate}
use Rattle.lvdc_text.specs.Joined.{text_of}
use Rattle.lvdc_text.specs.Lines.{lines_of, lines_from, tokens_from}
use Rattle.lvdc_text.specs.Numbers.{word_in}
use Rattle.lvdc_image.specs.Reading.{words_from as words_told, image_of}
use Rattle.lvdc_fault.specs.declared.event.Event.TheVariants.{Lag, Dead}
use Rattle.lvdc_fault.specs.declared.named.Named.{Named}
use Rattle.lvdc_lines.specs.Fields.{module_copy_in, span_in, step_in, twin_in, pair_in}
use Rattle.lvdc_source.specs.Names.{is_name}
use Rattle.lvdc_deck.specs.Deck.{commands_from, told_from, deck_from}
use Rattle.lvdc_deck.specs.declared.deck.Deck.{Deck}
use Rattle.lvdc_deck.specs.declared.fault.DeckFault.TheVariants as deck
use Rattle.lvdc_campaign_deck.specs.Campaign.{from_campaign, by_count, campaign_of}
use Rattle.lvdc_campaign_deck.specs.Faults.{name_of, line_of}
use Rattle.lvdc_campaign_deck.specs.Scripts.{Scripts, named, nothing_said, with_script, with_event, scripts_from}
use Rattle.lvdc_fault.specs.declared.TheConstants.{MOST_EVENTS}
use Rattle.lvdc_campaign_deck.specs.declared.TheConstants.{MOST_CAMPAIGN_TIMES, MOST_CAMPAIGN_SCRIPTS}
use Rattle.lvdc_campaign_deck.specs.declared.deck.CampaignDeck.{CampaignDeck}
use Rattle.lvdc_campaign_deck.specs.declared.fault.CampaignFault.{CampaignFault}
use Rattle.lvdc_campaign_deck.specs.declared.fault.CampaignFault.TheVariants.{NoMemory, BadSection, BadLine, CountTooLarge, TooManyScripts, TooManyEvents, Deck as InDeck}

-- ---- limits

limits : (MOST_CAMPAIGN_TIMES ≡ 10000) × (MOST_CAMPAIGN_SCRIPTS ≡ 256) × (MOST_EVENTS ≡ 65536)
limits = (refl, refl, refl)

most_times : (d : Deck) → by_count (record d { count = 10000 }) ≡ Ok (record d { count = 10000 })
most_times d = refl

one_time_more : (d : Deck) → by_count (record d { count = 10001; run_line = 7 }) ≡ Err (CountTooLarge 7)
one_time_more d = refl

-- so many scripts in all, of the most that there may be
told : ℕ → Scripts
told count = record { most = 256; before = replicate count (named (codes "A") []); last = Some (named (codes "B") []); events = 0 }

last_script : with_script (told 254) 9 (codes "C") ≡ Ok (record (told 254) { before = replicate 254 (named (codes "A") []) ++ named (codes "B") [] ∷ []; last = Some (named (codes "C") []) })
unfolding told
last_script = refl

one_script_more : with_script (told 255) 9 (codes "C") ≡ Err (TooManyScripts 9)
unfolding told
one_script_more = refl

last_event : with_event (Some (named (codes "B") [])) (record (nothing_said 256) { events = 65535 }) 9 (Lag 1 1 0 0)
    ≡ Ok (record (nothing_said 256) { last = Some (named (codes "B") (Lag 1 1 0 0 ∷ [])); events = 65536 })
last_event = refl

one_event_more : with_event (Some (named (codes "B") [])) (record (nothing_said 256) { events = 65536 }) 9 (Lag 1 1 0 0) ≡ Err (TooManyEvents 9)
one_event_more = refl

-- ---- scripts

scripts : List ℕ → Result (List Named) CampaignFault
scripts bytes = scripts_from bytes (nothing_said 256) (lines_of bytes)

two_scripts : scripts (codes "SCRIPT A\n* A COMMENT\n\nLAG 1 1 0 5\n DEAD 0 3 1 2\nSCRIPT B2\n")
    ≡ Ok (named (codes "A") (Lag 1 1 0 5 ∷ Dead 0 3 1 2 ∷ []) ∷ named (codes "B2") [] ∷ [])
unfolding scripts lines_from tokens_from scripts_from is_name module_copy_in span_in step_in twin_in pair_in
two_scripts = refl

no_script : scripts (codes "LAG 1 1 0 5\n") ≡ Err (BadLine 1)
unfolding scripts lines_from tokens_from scripts_from is_name module_copy_in span_in step_in
no_script = refl

name_again : scripts (codes "SCRIPT A\nSCRIPT B\nLAG 1 1 0 5\nSCRIPT A\n") ≡ Err (BadLine 4)
unfolding scripts lines_from tokens_from scripts_from is_name module_copy_in span_in step_in
name_again = refl

-- a name, and one alone
no_name : (scripts (codes "SCRIPT\n") ≡ Err (BadLine 1)) × (scripts (codes "SCRIPT A B\n") ≡ Err (BadLine 1)) × (scripts (codes "SCRIPT a\n") ≡ Err (BadLine 1))
    × (scripts (codes "SCRIPT A12345678\n") ≡ Err (BadLine 1))
unfolding scripts lines_from tokens_from scripts_from is_name
no_name = (refl, refl, refl, refl)

no_fault_line : scripts (codes "SCRIPT A\nLAG 8 1 0 5\n") ≡ Err (BadLine 2)
unfolding scripts lines_from tokens_from scripts_from is_name module_copy_in span_in step_in
no_fault_line = refl

-- a comment of 120 bytes, and one more
longest_comment : scripts (codes "*" ++ replicate 119 65) ≡ Ok []
unfolding scripts lines_from tokens_from scripts_from
longest_comment = refl

long_comment : scripts (codes "*" ++ replicate 120 65) ≡ Err (BadLine 1)
unfolding scripts lines_from tokens_from scripts_from
long_comment = refl

-- ---- whole campaigns

-- how many times, and the scripts, of a campaign
asked_by : Result CampaignDeck CampaignFault → Result (ℕ × List Named) CampaignFault
asked_by (Ok campaign) = Ok (campaign.count, campaign.scripts)
asked_by (Err fault) = Err fault

-- those of an empty image with these lines after it, from line 4 on
after_image : List (List ℕ) → Result (ℕ × List Named) CampaignFault
after_image lines = asked_by (campaign_of (text_of (codes "IMAGE" ∷ codes "LVDC 1" ∷ codes "END" ∷ lines)) [])

one_script : after_image (codes "RUN 10000" ∷ codes "CAMPAIGN" ∷ codes "SCRIPT A" ∷ []) ≡ Ok (10000, named (codes "A") [] ∷ [])
unfolding after_image asked_by lines_from tokens_from commands_from told_from deck_from words_told image_of word_in is_name from_campaign scripts_from
one_script = refl

-- the count comes before the scripts
count_first : after_image (codes "RUN 10001" ∷ codes "CAMPAIGN" ∷ codes "FLY" ∷ []) ≡ Err (CountTooLarge 4)
unfolding after_image asked_by lines_from tokens_from commands_from told_from deck_from words_told image_of word_in is_name from_campaign scripts_from
count_first = refl

-- and the first section that a campaign has not before the count
section_first : after_image (codes "PORTS" ∷ codes "FAULTS" ∷ codes "RUN 10001" ∷ codes "CAMPAIGN" ∷ codes "FLY" ∷ []) ≡ Err (BadSection 4)
unfolding after_image asked_by lines_from tokens_from commands_from told_from deck_from words_told image_of word_in is_name from_campaign scripts_from
section_first = refl

-- what the deck is refused for comes before both
deck_first : after_image (codes "FAULTS" ∷ codes "RUN 1000001" ∷ codes "CAMPAIGN" ∷ []) ≡ Err (InDeck (deck.CountTooLarge 5))
unfolding after_image asked_by lines_from tokens_from commands_from told_from deck_from words_told image_of word_in is_name from_campaign scripts_from
deck_first = refl

-- CAMPAIGN is missing behind the last line, which comes after all of the deck
no_campaign : after_image (codes "RUN 3" ∷ []) ≡ Err (BadSection 5)
unfolding after_image asked_by lines_from tokens_from commands_from told_from deck_from words_told image_of word_in is_name from_campaign scripts_from
no_campaign = refl

count_before_campaign : after_image (codes "RUN 10001" ∷ []) ≡ Err (CountTooLarge 4)
unfolding after_image asked_by lines_from tokens_from commands_from told_from deck_from words_told image_of word_in is_name from_campaign scripts_from
count_before_campaign = refl

-- ---- what is told

causes : (name_of NoMemory ≡ codes "NoMemory") × (name_of (BadSection 1) ≡ codes "BadSection") × (name_of (BadLine 1) ≡ codes "BadLine") × (name_of (CountTooLarge 1) ≡ codes "CountTooLarge")
    × (name_of (TooManyScripts 1) ≡ codes "TooManyScripts") × (name_of (TooManyEvents 1) ≡ codes "TooManyEvents") × (name_of (InDeck (deck.NoProgram 1)) ≡ codes "NoProgram")
causes = (refl, refl, refl, refl, refl, refl, refl)

lines_told : (line_of NoMemory ≡ 0) × (line_of (BadSection 3) ≡ 3) × (line_of (BadLine 4) ≡ 4) × (line_of (CountTooLarge 5) ≡ 5) × (line_of (TooManyScripts 6) ≡ 6)
    × (line_of (TooManyEvents 7) ≡ 7) × (line_of (InDeck (deck.NoProgram 8)) ≡ 8)
lines_told = (refl, refl, refl, refl, refl, refl, refl)
