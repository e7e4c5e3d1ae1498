-- Worked studies.
use Rattle.std.proofs.Common.{◌≡◌, ℕ, zero, suc, ◌+◌, ◌/◌, ◌%◌, nat_lt, true, List, [], ◌∷◌, ◌++◌, length, codes, Result, Ok, Err, None, Some, refl}
use Rattle.std.specs.Bool.{if◌then◌else◌}
use Rattle.std.specs.Prelude.{is_ok}
use Rattle.lvdc_map.specs.Hop.{hop_of}
use Rattle.lvdc_text.specs.Joined.{text_of}
use Rattle.lvdc_text.specs.Lines.{lines_from, tokens_from}
use Rattle.lvdc_port.specs.Device.{Device}
use Rattle.lvdc_port.specs.declared.device.Kind.TheVariants.{Tape}
use Rattle.lvdc_image.specs.Reading.{words_from as words_told, image_of}
use Rattle.lvdc_fault.specs.declared.event.Event.TheVariants.{Lag}
use Rattle.lvdc_lines.specs.Fields.{module_copy_in, span_in, step_in}
use Rattle.lvdc_source.specs.Names.{is_name}
use Rattle.lvdc_text.specs.Numbers.{word_in}
use Rattle.lvdc_fault.specs.declared.named.Named.{Named}
use Rattle.lvdc_deck.specs.Deck.{commands_from, told_from, deck_from}
use Rattle.lvdc_deck.specs.declared.deck.Deck.{Deck}
use Rattle.lvdc_deck.specs.declared.fault.DeckFault.TheVariants as deck
use Rattle.lvdc_campaign_deck.specs.Campaign.{from_campaign}
use Rattle.lvdc_campaign_deck.specs.Scripts.{Scripts, named, all_scripts, with_script, scripts_from}
use Rattle.lvdc_campaign_deck.specs.declared.fault.CampaignFault.{CampaignFault}
use Rattle.lvdc_campaign_deck.specs.declared.fault.CampaignFault.TheVariants.{BadSection, BadLine, CountTooLarge, TooManyScripts, Deck as InDeck}
use Rattle.lvdc_campaign_deck.specs.declared.TheConstants.{MOST_STUDY_SCRIPTS}
use Rattle.lvdc_campaign_deck.specs.declared.study.StudyDeck.{StudyDeck}
use Rattle.lvdc_campaign_deck.specs.Study.{other_line, by_times, study_of}

-- a tape at port 000
devices : List Device
devices = record { port = 0; kind = Tape; state = [] } ∷ []

-- the study of an empty image with these lines after it, from line 4 on
after_image : List (List ℕ) → Result StudyDeck CampaignFault
after_image lines = study_of (text_of (codes "IMAGE" ∷ codes "LVDC 1" ∷ codes "END" ∷ lines)) devices

-- ---- what is told and what is refused before CAMPAIGN

ports_and_scripts : after_image (codes "PORTS" ∷ codes "TAPE 000 5" ∷ codes "UNPLUG 000 2" ∷ codes "RUN 3" ∷ codes "CAMPAIGN" ∷ codes "SCRIPT A" ∷ codes "LAG 1 1 0 0" ∷ codes "SCRIPT B" ∷ []) ≡
    Ok (record { deck = record { image = record { words = []; start = None; banks = 0 }; start = hop_of 0o16; banks = 0; supplies = record { port = 0; word = 5 } ∷ []; unplugs = record { port = 0; time = 2 } ∷ []; script = []; orders = []; count = 3; commands = []; run_line = 7; other_line = Some 4 }; scripts = named (codes "A") (Lag 1 1 0 0 ∷ []) ∷ named (codes "B") [] ∷ [] })
unfolding after_image devices lines_from tokens_from commands_from told_from deck_from words_told image_of word_in module_copy_in span_in step_in is_name from_campaign other_line scripts_from
ports_and_scripts = refl

a_count_above_a_campaigns : after_image (codes "RUN 10001" ∷ codes "CAMPAIGN" ∷ []) ≡
    Ok (record { deck = record { image = record { words = []; start = None; banks = 0 }; start = hop_of 0o16; banks = 0; supplies = []; unplugs = []; script = []; orders = []; count = 10001; commands = []; run_line = 4; other_line = None }; scripts = [] })
unfolding after_image devices lines_from tokens_from commands_from told_from deck_from words_told image_of word_in module_copy_in span_in step_in is_name from_campaign other_line scripts_from
a_count_above_a_campaigns = refl

faults_before_campaign : after_image (codes "FAULTS" ∷ codes "LAG 1 1 0 0" ∷ codes "RUN 3" ∷ codes "CAMPAIGN" ∷ codes "SCRIPT A" ∷ []) ≡ Err (BadSection 4)
unfolding after_image devices lines_from tokens_from commands_from told_from deck_from words_told image_of word_in module_copy_in span_in step_in is_name from_campaign other_line scripts_from
faults_before_campaign = refl

debug_after_ports : after_image (codes "PORTS" ∷ codes "TAPE 000 5" ∷ codes "RUN 3" ∷ codes "DEBUG" ∷ codes "GO" ∷ codes "CAMPAIGN" ∷ codes "SCRIPT A" ∷ []) ≡ Err (BadSection 7)
unfolding after_image devices lines_from tokens_from commands_from told_from deck_from words_told image_of word_in module_copy_in span_in step_in is_name from_campaign other_line scripts_from
debug_after_ports = refl

faults_as_a_command : after_image (codes "RUN 3" ∷ codes " DEBUG " ∷ codes "FAULTS" ∷ codes "CAMPAIGN" ∷ codes "SCRIPT A" ∷ []) ≡ Err (BadSection 5)
unfolding after_image devices lines_from tokens_from commands_from told_from deck_from words_told image_of word_in module_copy_in span_in step_in is_name from_campaign other_line scripts_from
faults_as_a_command = refl

faults_after_ports : after_image (codes "PORTS" ∷ codes "FAULTS" ∷ codes "RUN 3" ∷ codes "DEBUG" ∷ codes "CAMPAIGN" ∷ []) ≡ Err (BadSection 5)
unfolding after_image devices lines_from tokens_from commands_from told_from deck_from words_told image_of word_in module_copy_in span_in step_in is_name from_campaign other_line scripts_from
faults_after_ports = refl

faults_before_what_the_scripts_say : after_image (codes "FAULTS" ∷ codes "RUN 3" ∷ codes "CAMPAIGN" ∷ codes "FLY" ∷ []) ≡ Err (BadSection 4)
unfolding after_image devices lines_from tokens_from commands_from told_from deck_from words_told image_of word_in module_copy_in span_in step_in is_name from_campaign other_line scripts_from
faults_before_what_the_scripts_say = refl

faults_before_the_end_of_the_input : after_image (codes "FAULTS" ∷ codes "RUN 3" ∷ []) ≡ Err (BadSection 4)
unfolding after_image devices lines_from tokens_from commands_from told_from deck_from words_told image_of word_in module_copy_in span_in step_in is_name from_campaign other_line scripts_from
faults_before_the_end_of_the_input = refl

no_campaign : after_image (codes "RUN 3" ∷ []) ≡ Err (BadSection 5)
unfolding after_image devices lines_from tokens_from commands_from told_from deck_from words_told image_of word_in module_copy_in span_in step_in is_name from_campaign other_line scripts_from
no_campaign = refl

no_device : after_image (codes "PORTS" ∷ codes "TAPE 014 5" ∷ codes "FAULTS" ∷ codes "RUN 3" ∷ codes "CAMPAIGN" ∷ []) ≡ Err (InDeck (deck.NoDevice 5))
unfolding after_image devices lines_from tokens_from commands_from told_from deck_from words_told image_of word_in module_copy_in span_in step_in is_name from_campaign other_line scripts_from
no_device = refl

-- what is missing in the deck is named at CAMPAIGN, and before FAULTS
no_run : after_image (codes "FAULTS" ∷ codes "CAMPAIGN" ∷ codes "SCRIPT A" ∷ []) ≡ Err (InDeck (deck.BadSection 5))
unfolding after_image devices lines_from tokens_from commands_from told_from deck_from words_told image_of word_in module_copy_in span_in step_in is_name from_campaign other_line scripts_from
no_run = refl

the_bound_of_a_deck : after_image (codes "RUN 1000001" ∷ codes "CAMPAIGN" ∷ codes "FLY" ∷ []) ≡ Err (InDeck (deck.CountTooLarge 4))
unfolding after_image devices lines_from tokens_from commands_from told_from deck_from words_told image_of word_in module_copy_in span_in step_in is_name from_campaign other_line scripts_from
the_bound_of_a_deck = refl

-- ---- what is refused of the scripts

a_name_again : after_image (codes "RUN 10001" ∷ codes "CAMPAIGN" ∷ codes "SCRIPT A" ∷ codes "LAG 1 1 0 0" ∷ codes "SCRIPT A" ∷ []) ≡ Err (BadLine 8)
unfolding after_image devices lines_from tokens_from commands_from told_from deck_from words_told image_of word_in module_copy_in span_in step_in is_name from_campaign other_line scripts_from
a_name_again = refl

a_name_again_behind_others : after_image (codes "RUN 3" ∷ codes "CAMPAIGN" ∷ codes "SCRIPT A" ∷ codes "SCRIPT B" ∷ codes "LAG 1 1 0 0" ∷ codes "SCRIPT C" ∷ codes "SCRIPT A" ∷ []) ≡ Err (BadLine 10)
unfolding after_image devices lines_from tokens_from commands_from told_from deck_from words_told image_of word_in module_copy_in span_in step_in is_name from_campaign other_line scripts_from
a_name_again_behind_others = refl

faults_after_campaign : after_image (codes "RUN 3" ∷ codes "CAMPAIGN" ∷ codes "SCRIPT A" ∷ codes "FAULTS" ∷ []) ≡ Err (BadLine 7)
unfolding after_image devices lines_from tokens_from commands_from told_from deck_from words_told image_of word_in module_copy_in span_in step_in is_name from_campaign other_line scripts_from
faults_after_campaign = refl

a_fault_of_no_script : after_image (codes "RUN 3" ∷ codes "CAMPAIGN" ∷ codes "LAG 1 1 0 0" ∷ []) ≡ Err (BadLine 6)
unfolding after_image devices lines_from tokens_from commands_from told_from deck_from words_told image_of word_in module_copy_in span_in step_in is_name from_campaign other_line scripts_from
a_fault_of_no_script = refl

-- ---- how many instruction times in all

-- a number below 1000 in decimal
digits : ℕ → List ℕ
digits n =
    if nat_lt n 10 then (48 + n) ∷ []
    else (if nat_lt n 100 then (48 + n / 10) ∷ (48 + n % 10) ∷ [] else (48 + n / 100) ∷ (48 + n / 10 % 10) ∷ (48 + n % 10) ∷ [])

-- so many lines SCRIPT, named S and a number, from this number on
script_lines : ℕ → ℕ → List (List ℕ)
script_lines first zero = []
script_lines first (suc more) = (codes "SCRIPT S" ++ digits first) ∷ script_lines (suc first) more

scripts_101 : after_image (codes "RUN 1000000" ∷ codes "CAMPAIGN" ∷ script_lines 1 101) ≡ Err (CountTooLarge 4)
unfolding after_image devices digits script_lines lines_from tokens_from commands_from told_from deck_from words_told image_of word_in module_copy_in span_in step_in is_name from_campaign other_line scripts_from
scripts_101 = refl

scripts_100 : is_ok (after_image (codes "RUN 1000000" ∷ codes "CAMPAIGN" ∷ script_lines 1 100)) ≡ true
unfolding after_image devices digits script_lines lines_from tokens_from commands_from told_from deck_from words_told image_of word_in module_copy_in span_in step_in is_name from_campaign other_line scripts_from
scripts_100 = refl

the_lines_before_the_times : after_image (codes "RUN 1000000" ∷ codes "CAMPAIGN" ∷ script_lines 1 101 ++ codes "SCRIPT S1" ∷ []) ≡ Err (BadLine 107)
unfolding after_image devices digits script_lines lines_from tokens_from commands_from told_from deck_from words_told image_of word_in module_copy_in span_in step_in is_name from_campaign other_line scripts_from
the_lines_before_the_times = refl

the_most_times : (deck : Deck) (scripts : List Named) → deck.count ≡ 1000000 → length scripts ≡ 100 → by_times deck scripts ≡ Ok (record { deck = deck; scripts = scripts })
the_most_times deck scripts count many = rw (count, many)

as_many_as_may_be : (deck : Deck) (scripts : List Named) → deck.count ≡ 1525 → length scripts ≡ 65536 → by_times deck scripts ≡ Ok (record { deck = deck; scripts = scripts })
as_many_as_may_be deck scripts count many = rw (count, many)

one_time_more_each : (deck : Deck) (scripts : List Named) → deck.count ≡ 1526 → length scripts ≡ 65536 → by_times deck scripts ≡ Err (CountTooLarge deck.run_line)
one_time_more_each deck scripts count many = rw (count, many)

-- ---- how many scripts

the_last_script : (s : Scripts) (number : ℕ) (name : List ℕ) → s.most ≡ MOST_STUDY_SCRIPTS → length (all_scripts s) ≡ 65535
    → with_script s number name ≡ Ok (record s { before = all_scripts s; last = Some (named name []) })
the_last_script s number name most many = rw (most, many)

one_script_more : (s : Scripts) (number : ℕ) (name : List ℕ) → s.most ≡ MOST_STUDY_SCRIPTS → length (all_scripts s) ≡ 65536 → with_script s number name ≡ Err (TooManyScripts number)
one_script_more s number name most many = rw (most, many)
