-- Worked runs that go on from a saved state whose devices fail: as they are given their words, and in an exchange.
use Rattle.std.proofs.Common.{◌≡◌, ℕ, List, [], ◌∷◌, ◌++◌, true, replicate, refl}
use Rattle.std.specs.Prelude.{codes}
use Rattle.std.specs.Fmt.{digits}
use Rattle.lvdc_map.specs.Address.{Spot}
use Rattle.lvdc_map.specs.declared.placed.Placed.{Placed}
use Rattle.lvdc_text.specs.Numbers.{octal_text}
use Rattle.lvdc_twin.specs.declared.held.Held.{Held}
use Rattle.lvdc_vote.specs.Bits.{majority, flipped}
use Rattle.lvdc_word.specs.Cell.{with_stuck}
use Rattle.lvdc_port.specs.Device.{Device}
use Rattle.lvdc_port.specs.declared.device.Kind.TheVariants.{Tape, Recorder}
use Rattle.lvdc_lines.specs.Noted.{lines_of, lines_below}
use Rattle.lvdc_report.specs.Voted.{counts_below}
use Rattle.lvdc_save.specs.declared.saved.Saved.{Saved}
use Rattle.lvdc_reply.specs.Answer.{answer_with}
use Rattle.lvdc_command_resume.specs.Answers.{failed_answer, unrestored_answer}
use Rattle.lvdc_command_resume.specs.Restore.{left_of}
use Rattle.lvdc_command_resume.specs.Runs.{trial_of}

at : ℕ → Spot
at loc = record { pair = 0; sector = 0; loc = loc }

holds : ℕ → ℕ → Placed
holds loc word = record { at = at loc; word = word }

held : ℕ → ℕ → ℕ → Held
held twin loc cell = record { twin = twin; at = at loc; cell = cell }

tape : List ℕ → Device
tape words = record { port = 0; kind = Tape; state = words }

recorder : List ℕ → Device
recorder words = record { port = 0o17; kind = Recorder; state = words }

-- three copies alike
three : List ℕ → List ℕ
three latches = latches ++ latches ++ latches

-- PIO 400, PIO 017 and TRA 000 after one time of two, in which 5 was read
saved : Saved
saved =
    record {
      snapshot = record {
        steps = 3;
        latches =
            three (0 ∷ 0 ∷ []) ++ three (0o2004 ∷ 0 ∷ []) ++ three (0o12400 ∷ []) ++ three (0o12 ∷ []) ++ three (5 ∷ 0 ∷ [])
            ++ replicate 15 0 ++ three (0 ∷ 0 ∷ []);
        differed = replicate 21 0;
        selected = 0 ∷ 0 ∷ 0 ∷ 0 ∷ [];
        cells =
            held 0 0 0o1000012400 ∷ held 0 1 0o1000032017 ∷ held 0 2 0o1000010000
            ∷ held 1 0 0o1000012400 ∷ held 1 1 0o1000032017 ∷ held 1 2 0o1000010000 ∷ [];
        words = holds 0 0o12400 ∷ holds 1 0o12017 ∷ holds 2 0o10000 ∷ [];
        log = record { time = 0; port = 0; reading = true; word = 5 } ∷ [];
        repairs = [];
        banks = 0;
      };
      count = 2;
      states = [];
      unplugs = [];
      script = [];
      orders = [];
    }

-- the second time writes in step 5
failed_write : failed_answer saved (tape [] ∷ recorder [] ∷ []) 5 0o17
    ≡ answer_with 10 (codes "LVDC RUN\nEND DEVICE 5 017\nTIMES 1\nPLACE 0 00 0 001\nDATA 0 01\nDUP 1 1\nA 000000005\nPQ 000000000\nSAVER 000000000\nIN 0 000 000000005\nMEM 0 00 000 000012400\nMEM 0 00 001 000012017\nMEM 0 00 002 000010000\n") (tape [] ∷ recorder [] ∷ [])
unfolding saved three at holds held tape recorder digits octal_text lines_of lines_below with_stuck majority flipped counts_below
failed_write = refl

-- the recorder, which has the second of three words, doesn't take it: the tape has the first
failed_state : unrestored_answer (record saved { states = record { port = 0; word = 7 } ∷ record { port = 0o17; word = 6 } ∷ record { port = 0o17; word = 8 } ∷ [] }) (tape [] ∷ recorder [] ∷ []) 1 0o17
    ≡ answer_with 10 (codes "REFUSED Device 017\n") (tape (7 ∷ []) ∷ recorder [] ∷ [])
unfolding saved three at holds held tape recorder octal_text
failed_state = refl

-- after four times those of times 0 to 3 are taken away
left_after_four_times : left_of (record saved { snapshot = record (saved.snapshot) { steps = 12 }; unplugs = record { port = 0o17; time = 3 } ∷ record { port = 0; time = 4 } ∷ [] }) (tape [] ∷ recorder [] ∷ [])
    ≡ tape [] ∷ []
unfolding saved three at holds held tape recorder
left_after_four_times = refl

simplex_pairs : (trial_of (record saved { snapshot = record (saved.snapshot) { banks = 2 } }) []).opening.banks ≡ 2
unfolding saved three at holds held
simplex_pairs = refl
