-- Worked answers of soak runs with inadmissible steps and with a device that fails, and of a plain run that stops.
use Rattle.std.proofs.Common.{◌≡◌, ℕ, List, [], ◌∷◌, refl}
use Rattle.std.specs.Prelude.{codes}
use Rattle.std.specs.Fmt.{digits}
use Rattle.lvdc_word.specs.Cell.{with_stuck}
use Rattle.lvdc_vote.specs.Bits.{majority, flipped}
use Rattle.lvdc_map.specs.Address.{Spot}
use Rattle.lvdc_map.specs.Hop.{hop_of}
use Rattle.lvdc_map.specs.declared.placed.Placed.{Placed}
use Rattle.lvdc_text.specs.Numbers.{octal_text}
use Rattle.lvdc_port.specs.Device.{Device}
use Rattle.lvdc_port.specs.declared.device.Kind.TheVariants.{Tape, Recorder}
use Rattle.lvdc_fault.specs.declared.event.Event.{Event}
use Rattle.lvdc_fault.specs.declared.event.Event.TheVariants.{Flip, Damage}
use Rattle.lvdc_model.specs.Trial.{Trial}
use Rattle.lvdc_lines.specs.Noted.{lines_of, lines_below}
use Rattle.lvdc_report.specs.Voted.{counts_below}
use Rattle.lvdc_reply.specs.Answer.{answer_with}
use Rattle.lvdc_command_run.specs.Answers.{run_answer, failed_answer}
use Rattle.lvdc_command_run.specs.declared.job.Engine.TheVariants.{Plain}
use Rattle.lvdc_command_run.specs.declared.job.Job.TheVariants as job

at : ℕ → Spot
at loc = record { pair = 0; sector = 0; loc = loc }

holds : ℕ → ℕ → Placed
holds loc word = record { at = at loc; word = word }

tape : List ℕ → Device
tape words = record { port = 0; kind = Tape; state = words }

recorder : List ℕ → Device
recorder words = record { port = 0o17; kind = Recorder; state = words }

-- these words under a script, over a tape with the word 5 and a recorder
trial : List Placed → List Event → Trial
trial image script =
    record {
      opening = record { image = image; banks = 0; start = hop_of 0o16; unplugs = []; devices = tape (5 ∷ []) ∷ recorder [] ∷ [] };
      script = script;
    }

-- PIO 400, PIO 017 and TRA 000
ports : List Event → Trial
ports script = trial (holds 0 0o12400 ∷ holds 1 0o12017 ∷ holds 2 0o10000 ∷ []) script

-- bit 1 of A is turned over in these copies at this step
flips : ℕ → ℕ → Event
flips copy step = Flip 5 copy step step 0 1

-- ---- two copies differ alike in step 5, which ends a soak run

outvoted : List Event
outvoted = flips 1 5 ∷ flips 2 5 ∷ []

inadmissible_soak : run_answer (job.Soak 9) (ports outvoted) 2
    ≡ answer_with 5 (codes "LVDC SOAK 9\nEND INADMISSIBLE 5 LOGIC 5\nTIMES 1\nA 000000005\nWRONG 0\nREPAIRS 0\n") (tape [] ∷ recorder [] ∷ [])
unfolding ports trial outvoted flips at holds tape recorder digits octal_text with_stuck majority flipped counts_below
inadmissible_soak = refl

-- ---- both twins are damaged alike, and read in step 3

both_twins : run_answer (job.Soak 9) (ports (Damage 0 (at 1) 3 1 ∷ Damage 1 (at 1) 3 1 ∷ [])) 2
    ≡ answer_with 5 (codes "LVDC SOAK 9\nEND INADMISSIBLE 3 MEMORY 0 00 001\nTIMES 1\nA 000000005\nWRONG 0\nREPAIRS 0\n") (tape [] ∷ recorder [] ∷ [])
unfolding ports trial flips at holds tape recorder digits octal_text with_stuck majority flipped counts_below
both_twins = refl

-- ---- EXM 600 stops the plain run in the last step of its only time

stopped_plain : run_answer (job.Deck Plain) (trial (holds 0 0o16600 ∷ []) []) 5
    ≡ answer_with 6 (codes "LVDC PLAIN\nEND STOPPED 2 EXM\nTIMES 1\nPLACE 0 00 0 000\nDATA 0 01\nDUP 1 1\nA 000000000\nPQ 000000000\nSAVER 000000000\nMEM 0 00 000 000016600\n") (tape (5 ∷ []) ∷ recorder [] ∷ [])
unfolding trial at holds tape recorder digits octal_text lines_of lines_below
stopped_plain = refl

-- ---- a write fails in step 5, and a copy differed in step 4; in step 10 it would again

failed : List Event
failed = flips 1 4 ∷ flips 1 10 ∷ []

failed_soak : failed_answer (job.Soak 9) (ports failed) 5 0o17
    ≡ answer_with 10 (codes "LVDC SOAK 9\nEND DEVICE 5 017\nTIMES 1\nA 000000005\nWRONG 1\nREPAIRS 0\n") (tape [] ∷ recorder [] ∷ [])
unfolding ports trial failed flips at holds tape recorder digits octal_text with_stuck majority flipped counts_below
failed_soak = refl
