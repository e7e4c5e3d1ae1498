-- The study that bytes mean, or its first refusal.
use Rattle.std.specs.Prelude.{ℕ, ◌+◌, ◌*◌, nat_lt, Bool, false, ◌||◌, List, [], ◌∷◌, take, length, codes, if◌then◌else◌, Result, Ok, Err}
use Rattle.std.specs.declared.option.Option.{Option}
use Rattle.std.specs.declared.option.Option.TheVariants.{None, Some}
use Rattle.lvdc_text.specs.Headings.{is_alone}
use Rattle.lvdc_text.specs.Lines.{lines_of, part_of}
use Rattle.lvdc_text.specs.declared.cutting.Line.{Line}
use Rattle.lvdc_port.specs.Device.{Device}
use Rattle.lvdc_fault.specs.declared.named.Named.{Named}
use Rattle.lvdc_deck.specs.Deck.{after_program, deck_of}
use Rattle.lvdc_deck.specs.declared.deck.Deck.{Deck}
use Rattle.lvdc_campaign_deck.specs.Campaign.{is_campaign, from_campaign, by_deck, by_others}
use Rattle.lvdc_campaign_deck.specs.Scripts.{and_then, nothing_said, scripts_from}
use Rattle.lvdc_campaign_deck.specs.declared.fault.CampaignFault.{CampaignFault}
use Rattle.lvdc_campaign_deck.specs.declared.fault.CampaignFault.TheVariants.{BadSection, CountTooLarge}
use Rattle.lvdc_campaign_deck.specs.declared.TheConstants.{MOST_STUDY_SCRIPTS, MOST_TIMES_IN_ALL}
use Rattle.lvdc_campaign_deck.specs.declared.study.StudyDeck.{StudyDeck}

-- ---- the deck before CAMPAIGN

-- FAULTS or DEBUG, the sections that the deck of a study may not have
abbrev pub is_faults_or_debug : List ℕ → Bool
is_faults_or_debug text = is_alone (codes "FAULTS") text || is_alone (codes "DEBUG") text

-- the number of the first line FAULTS or DEBUG before the line CAMPAIGN
unfoldable pub other_line : List ℕ → List Line → Option ℕ
other_line bytes [] = None
other_line bytes (line ∷ lines) =
    if is_campaign (part_of bytes line) then None
    else (if is_faults_or_debug (part_of bytes line) then Some line.number else other_line bytes lines)

-- the deck that the text before CAMPAIGN means over these devices, where this is the first line FAULTS or DEBUG there
abbrev pub program_of : List ℕ → List Device → Option ℕ → Result Deck CampaignFault
program_of text devices other = and_then (by_deck (deck_of text devices false)) (λ deck. by_others deck other)

-- ---- the whole

-- the deck and the scripts, unless all scripts together ask for too many instruction times
abbrev pub by_times : Deck → List Named → Result StudyDeck CampaignFault
by_times deck scripts =
    if nat_lt MOST_TIMES_IN_ALL (deck.count * length scripts) then Err (CountTooLarge deck.run_line)
    else Ok (record { deck = deck; scripts = scripts })

-- by the first line FAULTS or DEBUG before CAMPAIGN and the lines from CAMPAIGN on: the deck is that of the bytes before it; next is one
-- more than the last line
abbrev pub by_lines : List ℕ → List Device → ℕ → Option ℕ → List Line → Result StudyDeck CampaignFault
by_lines bytes devices next other [] = and_then (program_of bytes devices other) (λ deck. Err (BadSection next))
by_lines bytes devices next other (line ∷ lines) =
    and_then (program_of (take line.start bytes) devices other)
    (λ deck. and_then (scripts_from bytes (nothing_said MOST_STUDY_SCRIPTS) lines) (by_times deck))

-- by the lines after the program
abbrev pub by_program : List ℕ → List Device → ℕ → List Line → Result StudyDeck CampaignFault
by_program bytes devices next after = by_lines bytes devices next (other_line bytes after) (from_campaign bytes after)

-- the study that the bytes mean, its deck over these devices; or its first refusal
abbrev pub study_of : List ℕ → List Device → Result StudyDeck CampaignFault
study_of bytes devices = by_program bytes devices (length (lines_of bytes) + 1) (after_program bytes (lines_of bytes))
