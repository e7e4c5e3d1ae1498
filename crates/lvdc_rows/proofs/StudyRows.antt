-- Worked parts of studies: the first address at which words differ, what is counted in so many times, what a run starts from, limits, and
-- the answer where a device fails.
use Rattle.std.proofs.Common.{◌≡◌, ℕ, ◌==◌, true, false, List, [], ◌∷◌, ◌++◌, Result, Ok, Err, Option, Some, None, take, length, replicate, refl}
use Rattle.std.specs.Prelude.{codes, if◌then◌else◌}
use Rattle.std.specs.Fmt.{digits}
use Rattle.lvdc_word.specs.Cell.{with_stuck}
use Rattle.lvdc_vote.specs.Bits.{majority, flipped}
use Rattle.lvdc_map.specs.Address.{Spot, number_of}
use Rattle.lvdc_map.specs.Hop.{hop_of}
use Rattle.lvdc_map.specs.declared.placed.Placed.{Placed}
use Rattle.lvdc_text.specs.Lines.{lines_from, tokens_from}
use Rattle.lvdc_text.specs.Numbers.{octal_text, word_in}
use Rattle.lvdc_text.specs.declared.cutting.Line.{Line}
use Rattle.lvdc_port.specs.Device.{Device}
use Rattle.lvdc_port.specs.declared.device.Kind.TheVariants.{Tape, Recorder}
use Rattle.lvdc_image.specs.Reading.{entry_in, words_from as words_told, image_of}
use Rattle.lvdc_fault.specs.declared.event.Event.TheVariants.{Flip, Damage}
use Rattle.lvdc_fault.specs.declared.named.Named.{Named}
use Rattle.lvdc_fault.specs.declared.verdict.Verdict.TheVariants.{Admissible}
use Rattle.lvdc_model.specs.Voted.{Voted, voted_start}
use Rattle.lvdc_plain.specs.Run.{Opening}
use Rattle.lvdc_lines.specs.Fields.{module_copy_in, index_in, span_in, step_in}
use Rattle.lvdc_lines.specs.Noted.{lines_of}
use Rattle.lvdc_source.specs.Names.{is_name}
use Rattle.lvdc_deck.specs.Deck.{told_from, deck_from}
use Rattle.lvdc_deck.specs.declared.deck.Deck.{Deck}
use Rattle.lvdc_soak_deck.specs.Soak.{soak_of}
use Rattle.lvdc_campaign_deck.specs.Campaign.{from_campaign}
use Rattle.lvdc_campaign_deck.specs.Scripts.{nothing_said, scripts_from}
use Rattle.lvdc_campaign_deck.specs.Study.{is_faults_or_debug, other_line, program_of, by_times, by_lines}
use Rattle.lvdc_campaign_deck.specs.declared.fault.CampaignFault.{CampaignFault}
use Rattle.lvdc_campaign_deck.specs.declared.fault.CampaignFault.TheVariants.{CountTooLarge}
use Rattle.lvdc_report.specs.Voted.{counts_below}
use Rattle.lvdc_study.specs.declared.program.Program.{Program}
use Rattle.lvdc_study.specs.Outcomes.{least_below, address_of_difference}
use Rattle.lvdc_study.specs.Study.{opening_over, row_of}
use Rattle.lvdc_study.specs.Waypoints.{apart}
use Rattle.lvdc_reply.specs.Answer.{answer_with}
use Rattle.lvdc_command_study.specs.Answers.{study_answer, failed_answer}

-- ---- the first address at which words differ

-- no word but a 7 at the address of this number
seven_at : ℕ → Spot → ℕ
seven_at number at = if number_of at == number then 7 else 0

-- address 20,480 is the first one of bank 5, which is there where pair 1 is simplex
a_word_of_bank_5 : least_below 2 (λ at. 0) (seven_at 20480) 20482 ≡ Some (record { pair = 5; sector = 0; loc = 0 })
unfolding seven_at least_below
a_word_of_bank_5 = refl

no_bank_5 : least_below 1 (λ at. 0) (seven_at 20480) 20482 ≡ None
unfolding seven_at least_below
no_bank_5 = refl

-- all differ from the second one on
the_least_address : least_below 0 number_of (λ at. 0) 4 ≡ Some (record { pair = 0; sector = 0; loc = 1 })
unfolding least_below
the_least_address = refl

the_last_address : address_of_difference 8 (λ at. 0) (seven_at 32767) ≡ Some (record { pair = 7; sector = 15; loc = 255 })
unfolding seven_at least_below
the_last_address = refl

-- ---- so many times

holds : ℕ → ℕ → Placed
holds loc word = record { at = record { pair = 0; sector = 0; loc = loc }; word = word }

-- PIO 400, PIO 017 and TRA 000, over a tape of one word and a recorder
ports : Opening
ports =
    record {
      image = holds 0 0o12400 ∷ holds 1 0o12017 ∷ holds 2 0o10000 ∷ [];
      banks = 0;
      start = hop_of 0o16;
      unplugs = [];
      devices = record { port = 0; kind = Tape; state = 5 ∷ [] } ∷ record { port = 0o17; kind = Recorder; state = [] } ∷ [];
    }

-- the last time of three reads its instruction in step 6 and has step 8; in step 9 a copy would differ and a word be mended again
what_three_times_bring : row_of ports 3 (record { name = codes "A"; script = Flip 5 1 8 8 0 1 ∷ Flip 5 1 9 9 0 1 ∷ Damage 0 (holds 2 0).at 6 1 ∷ Damage 0 (holds 0 0).at 9 1 ∷ [] })
    ≡ record { name = codes "A"; verdict = Admissible; difference = None; copies = 1; repairs = 1; first_repair = Some 6; masks = true }
unfolding ports holds with_stuck majority flipped counts_below least_below
what_three_times_bring = refl

-- two times, which line 5 asks for: step 9 isn't one of theirs
two_times : study_answer (codes "IMAGE\nLVDC 1\n0 00 000 000010000\nEND\nRUN 2\nCAMPAIGN\nSCRIPT A\nFLIP 5 1 9 9 0 000000001\n") []
    ≡ answer_with 0 (codes "SCRIPT A ADMISSIBLE SAME COPIES 0 REPAIRS 0 - FORM YES\nSTUDY 1 ADMISSIBLE 1 SAME 1 FORM 1\n") []
unfolding lines_from tokens_from told_from deck_from words_told image_of entry_in word_in module_copy_in index_in span_in step_in is_name from_campaign other_line scripts_from with_stuck majority flipped counts_below least_below digits octal_text lines_of
two_times = refl

-- ---- what a run starts from, and what of a state doesn't count at a waypoint

simplex_pairs_of_a_run : (program : Program) (devices : List Device) → (opening_over program devices).banks ≡ program.banks
simplex_pairs_of_a_run program devices = refl

-- a state with two devices and a line in its log
logged : Voted
logged = record (voted_start (record { opening = ports; script = [] })) { log = record { time = 0; port = 0; reading = true; word = 5 } ∷ [] }

neither_devices_nor_log : ((apart logged).devices ≡ []) × ((apart logged).log ≡ []) × ((apart logged).counts ≡ replicate 7 (0 ∷ 0 ∷ 0 ∷ []))
unfolding logged ports holds
neither_devices_nor_log = (refl, refl, refl)

-- ---- limits

blanks_around_a_section : (is_faults_or_debug (codes " FAULTS\t") ≡ true) × (is_faults_or_debug (codes "\tDEBUG ") ≡ true) × (is_faults_or_debug (codes "FAULTS 1") ≡ false)
blanks_around_a_section = (refl, refl, refl)

-- a deck of so many times, which its line 7 asks for
asks : ℕ → Deck
asks times = record (soak_of 1) { count = times; run_line = 7 }

one_time_too_many : by_times (asks 100000001) (record { name = codes "A"; script = [] } ∷ []) ≡ Err (CountTooLarge 7)
unfolding asks
one_time_too_many = refl

before_the_first_script : nothing_said 65536 ≡ record { most = 65536; before = []; last = None; events = 0 }
before_the_first_script = refl

-- the scripts of a study are those of lines of which 65,536 may be scripts
refusal_of_scripts : (bytes : List ℕ) (devices : List Device) (next : ℕ) (other : Option ℕ) (line : Line) (lines : List Line) (deck : Deck) (fault : CampaignFault)
    → program_of (take line.start bytes) devices other ≡ Ok deck → scripts_from bytes (nothing_said 65536) lines ≡ Err fault
    → by_lines bytes devices next other (line ∷ lines) ≡ Err fault
refusal_of_scripts bytes devices next other line lines deck fault reads refused = rw (reads, refused) refl

-- ---- a device that fails

failed_device : failed_answer [] 0o17 ≡ answer_with 10 (codes "DEVICE 017\n") []
unfolding octal_text
failed_device = refl
