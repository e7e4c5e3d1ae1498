-- Worked answers of runs and soak runs, over a word from tape to recorder: where a device fails, where copies differ, and where two do in one
-- step; and how long a soak run is.
use Rattle.std.proofs.Common.{◌≡◌, ℕ, List, [], ◌∷◌, refl}
use Rattle.std.specs.Prelude.{codes}
use Rattle.std.specs.Fmt.{digits}
use Rattle.lvdc_word.specs.Cell.{with_stuck}
use Rattle.lvdc_vote.specs.Bits.{majority, flipped}
use Rattle.lvdc_map.specs.Hop.{hop_of}
use Rattle.lvdc_map.specs.declared.placed.Placed.{Placed}
use Rattle.lvdc_text.specs.Numbers.{octal_text}
use Rattle.lvdc_port.specs.Device.{Device}
use Rattle.lvdc_port.specs.declared.device.Kind.TheVariants.{Tape, Recorder}
use Rattle.lvdc_fault.specs.declared.event.Event.{Event}
use Rattle.lvdc_fault.specs.declared.event.Event.TheVariants.{Flip}
use Rattle.lvdc_model.specs.Trial.{Trial}
use Rattle.lvdc_lines.specs.Noted.{lines_of, lines_below}
use Rattle.lvdc_report.specs.Voted.{counts_below}
use Rattle.lvdc_reply.specs.Answer.{answer_with}
use Rattle.lvdc_soak_deck.specs.Soak.{soak_of}
use Rattle.lvdc_command_run.specs.Answers.{run_answer, failed_answer, job_answer}
use Rattle.lvdc_command_run.specs.Trials.{trial_of}
use Rattle.lvdc_command_run.specs.declared.job.Engine.TheVariants.{Guarded, Through, Plain}
use Rattle.lvdc_command_run.specs.declared.job.Job.TheVariants as job
use Rattle.lvdc_command_resume.specs.Answers.{device_text}

holds : ℕ → ℕ → Placed
holds loc word = record { at = record { pair = 0; sector = 0; loc = loc }; word = word }

tape : ℕ → List ℕ → Device
tape port words = record { port = port; kind = Tape; state = words }

recorder : List ℕ → Device
recorder words = record { port = 0o17; kind = Recorder; state = words }

-- PIO 400, PIO 017 and TRA 000, under a script
ports : List Event → Trial
ports script =
    record {
      opening =
          record {
            image = holds 0 0o12400 ∷ holds 1 0o12017 ∷ holds 2 0o10000 ∷ [];
            banks = 0;
            start = hop_of 0o16;
            unplugs = [];
            devices = tape 0 (5 ∷ []) ∷ recorder [] ∷ [];
          };
      script = script;
    }

-- ---- a write fails in step 5: the report is of the state after one time

failed_through : failed_answer (job.Deck Through) (ports []) 5 0o17
    ≡ answer_with 10 (codes "LVDC THROUGH\nEND DEVICE 5 017\nTIMES 1\nPLACE 0 00 0 001\nDATA 0 01\nDUP 1 1\nA 000000005\nPQ 000000000\nSAVER 000000000\nIN 0 000 000000005\nMEM 0 00 000 000012400\nMEM 0 00 001 000012017\nMEM 0 00 002 000010000\n") (tape 0 [] ∷ recorder [] ∷ [])
unfolding ports holds tape recorder digits octal_text lines_of lines_below with_stuck majority flipped
failed_through = refl

failed_plain : failed_answer (job.Deck Plain) (ports []) 5 0o17
    ≡ answer_with 10 (codes "LVDC PLAIN\nEND DEVICE 5 017\nTIMES 1\nPLACE 0 00 0 001\nDATA 0 01\nDUP 1 1\nA 000000005\nPQ 000000000\nSAVER 000000000\nIN 0 000 000000005\nMEM 0 00 000 000012400\nMEM 0 00 001 000012017\nMEM 0 00 002 000010000\n") (tape 0 [] ∷ recorder [] ∷ [])
unfolding ports holds tape recorder digits octal_text lines_of lines_below
failed_plain = refl

failed_soak : failed_answer (job.Soak 9) (ports []) 5 0o17
    ≡ answer_with 10 (codes "LVDC SOAK 9\nEND DEVICE 5 017\nTIMES 1\nA 000000005\nWRONG 0\nREPAIRS 0\n") (tape 0 [] ∷ recorder [] ∷ [])
unfolding ports holds tape recorder digits octal_text with_stuck majority flipped counts_below
failed_soak = refl

-- ---- three times of four: a copy differs in step 8, and again in step 10, which isn't made

flips : List Event
flips = Flip 5 1 8 8 0 1 ∷ Flip 5 1 10 10 0 1 ∷ []

three_times_of_a_soak : run_answer (job.Soak 9) (ports flips) 3
    ≡ answer_with 0 (codes "LVDC SOAK 9\nEND DONE\nTIMES 3\nA 000000005\nWRONG 1\nREPAIRS 0\n") (tape 0 [] ∷ recorder (5 ∷ []) ∷ [])
unfolding ports flips holds tape recorder digits octal_text with_stuck majority flipped counts_below
three_times_of_a_soak = refl

-- ---- one instruction alone, over no device

only : ℕ → List Event → Trial
only word script = record { opening = record { image = holds 0 word ∷ []; banks = 0; start = hop_of 0o16; unplugs = []; devices = [] }; script = script }

-- TRA 000 no time and once: a copy differs in step 0, which isn't made; in step 2, and again in step 3, which isn't made
no_time : run_answer (job.Deck Guarded) (only 0o10000 (Flip 5 1 0 0 0 1 ∷ [])) 0
    ≡ answer_with 0 (codes "LVDC RUN\nEND DONE\nTIMES 0\nPLACE 0 00 0 000\nDATA 0 01\nDUP 1 1\nA 000000000\nPQ 000000000\nSAVER 000000000\nMEM 0 00 000 000010000\n") []
unfolding only holds digits octal_text lines_of lines_below with_stuck majority flipped counts_below
no_time = refl

one_time : run_answer (job.Deck Guarded) (only 0o10000 (Flip 5 1 2 2 0 1 ∷ Flip 5 1 3 3 0 1 ∷ [])) 1
    ≡ answer_with 0 (codes "LVDC RUN\nEND DONE\nTIMES 1\nPLACE 0 00 0 000\nDATA 0 01\nDUP 1 1\nA 000000000\nPQ 000000000\nSAVER 000002016\nMEM 0 00 000 000010000\nWRONG 5 1 1\n") []
unfolding only holds digits octal_text lines_of lines_below with_stuck majority flipped counts_below
one_time = refl

two_times_through : run_answer (job.Deck Through) (only 0o10000 []) 2
    ≡ answer_with 0 (codes "LVDC THROUGH\nEND DONE\nTIMES 2\nPLACE 0 00 0 000\nDATA 0 01\nDUP 1 1\nA 000000000\nPQ 000000000\nSAVER 000002016\nMEM 0 00 000 000010000\n") []
unfolding only holds digits octal_text lines_of lines_below with_stuck majority flipped counts_below
two_times_through = refl

one_time_through : run_answer (job.Deck Through) (only 0o10000 (Flip 5 1 3 3 0 1 ∷ [])) 1
    ≡ answer_with 0 (codes "LVDC THROUGH\nEND DONE\nTIMES 1\nPLACE 0 00 0 000\nDATA 0 01\nDUP 1 1\nA 000000000\nPQ 000000000\nSAVER 000002016\nMEM 0 00 000 000010000\n") []
unfolding only holds digits octal_text lines_of lines_below with_stuck majority flipped counts_below
one_time_through = refl

-- two copies of A are wrong in step 0, and one in step 1; of the first two the third one differs
two_copies : List Event
two_copies = Flip 5 1 0 0 0 1 ∷ Flip 5 2 0 0 0 1 ∷ Flip 5 1 1 1 0 2 ∷ []

ended_in_step_0 : run_answer (job.Deck Guarded) (only 0o10000 two_copies) 1
    ≡ answer_with 5 (codes "LVDC RUN\nEND INADMISSIBLE 0 LOGIC 5\nTIMES 0\nPLACE 0 00 0 000\nDATA 0 01\nDUP 1 1\nA 000000000\nPQ 000000000\nSAVER 000000000\nMEM 0 00 000 000010000\n") []
unfolding only two_copies holds digits octal_text lines_of lines_below with_stuck majority flipped counts_below
ended_in_step_0 = refl

through_step_0 : run_answer (job.Deck Through) (only 0o10000 two_copies) 1
    ≡ answer_with 0 (codes "LVDC THROUGH\nEND DONE\nTIMES 1\nPLACE 0 00 0 000\nDATA 0 01\nDUP 1 1\nA 000000001\nPQ 000000000\nSAVER 000002016\nMEM 0 00 000 000010000\nWRONG 5 1 1\nWRONG 5 3 1\n") []
unfolding only two_copies holds digits octal_text lines_of lines_below with_stuck majority flipped counts_below
through_step_0 = refl

-- PIO 017, whose exchange in step 2 fails: a copy differed in step 1, and would differ again in step 3
failed_guarded : failed_answer (job.Deck Guarded) (only 0o12017 (Flip 5 1 1 1 0 1 ∷ Flip 5 1 3 3 0 1 ∷ [])) 2 0o17
    ≡ answer_with 10 (codes "LVDC RUN\nEND DEVICE 2 017\nTIMES 0\nPLACE 0 00 0 000\nDATA 0 01\nDUP 1 1\nA 000000000\nPQ 000000000\nSAVER 000000000\nMEM 0 00 000 000012017\nWRONG 5 1 1\n") []
unfolding only holds digits octal_text lines_of lines_below with_stuck majority flipped counts_below
failed_guarded = refl

failed_behind_step_0 : failed_answer (job.Deck Through) (only 0o12017 two_copies) 2 0o17
    ≡ answer_with 10 (codes "LVDC THROUGH\nEND DEVICE 2 017\nTIMES 0\nPLACE 0 00 0 000\nDATA 0 01\nDUP 1 1\nA 000000001\nPQ 000000000\nSAVER 000000000\nMEM 0 00 000 000012017\nWRONG 5 1 1\nWRONG 5 3 1\n") []
unfolding only two_copies holds digits octal_text lines_of lines_below with_stuck majority flipped counts_below
failed_behind_step_0 = refl

-- ---- a soak run has 200,000 times

times_of_a_soak : (number : ℕ) (bytes : List ℕ) (devices : List Device)
    → job_answer (job.Soak number) bytes devices ≡ run_answer (job.Soak number) (trial_of devices (soak_of number)) 200000
times_of_a_soak number bytes devices = refl

-- ---- a device that fails as it is given its state

device_017 : device_text 0o17 ≡ codes "REFUSED Device 017\n"
unfolding octal_text
device_017 = refl
