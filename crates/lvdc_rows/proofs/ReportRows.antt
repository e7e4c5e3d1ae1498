-- Worked reports of states whose numbers are unlike: of the plain machine after a device failed, and of the voted one.
use Rattle.std.proofs.Common.{◌≡◌, ℕ, List, [], ◌∷◌, true, false, Some, None, codes, refl}
use Rattle.std.specs.Fmt.{digits}
use Rattle.lvdc_map.specs.Address.{Spot}
use Rattle.lvdc_map.specs.Hop.{hop_of}
use Rattle.lvdc_map.specs.Memory.{filled_with, stored}
use Rattle.lvdc_text.specs.Numbers.{octal_text}
use Rattle.lvdc_plain.specs.Plain.{PlainState}
use Rattle.lvdc_plain.specs.declared.records.Exchange.{Exchange}
use Rattle.lvdc_plain.specs.declared.records.PlainEnd.TheVariants as plain
use Rattle.lvdc_model.specs.Trial.{Trial}
use Rattle.lvdc_model.specs.Voted.{Voted, voted_start}
use Rattle.lvdc_model.specs.declared.outcome.Outcome.TheVariants.{Device}
use Rattle.lvdc_vote.specs.Bits.{majority}
use Rattle.lvdc_word.specs.Cell.{with_stuck}
use Rattle.lvdc_lines.specs.Noted.{lines_of, lines_below}
use Rattle.lvdc_report.specs.Report.{report_text}
use Rattle.lvdc_report.specs.Voted.{wrong_text, all_counts, counts_below, voted_text}
use Rattle.lvdc_report.specs.declared.title.Title.TheVariants as titles

-- an address of sector 01
spot : ℕ → ℕ → Spot
spot pair loc = record { pair = pair; sector = 1; loc = loc }

-- a read of port 014 at time 12
exchange : Exchange
exchange = record { time = 12; port = 0o14; reading = true; word = 7 }

-- pairs 1 and 3 are simplex, so there is no bank 4; the constant is 101 1011 1 10101010 011 0110 1 0 1
state : PlainState
state =
    record {
      banks = 10;
      place = hop_of 0o267524665;
      a = 1;
      pq = 2;
      saver = 3;
      pending = None;
      hold = 0;
      memory = stored (stored (stored (filled_with 0) (spot 4 0) 0o44) (spot 5 3) 0o55) (record { pair = 7; sector = 15; loc = 255 }) 0o77;
      log = exchange ∷ [];
      times = 15;
      stop = None;
    }

a_device_failed : report_text titles.Plain (plain.Device 45 0o14) state
    ≡ codes "LVDC PLAIN\nEND DEVICE 45 014\nTIMES 15\nPLACE 5 13 1 252\nDATA 3 06\nDUP 1 0\nA 000000001\nPQ 000000002\nSAVER 000000003\nIN 12 014 000000007\nMEM 5 01 003 000000055\nMEM 7 17 377 000000077\n"
unfolding state exchange spot digits octal_text lines_of lines_below
a_device_failed = refl

-- ---- how often each copy differed, by modules

counts : List (List ℕ)
counts = (1 ∷ 2 ∷ 3 ∷ []) ∷ (0 ∷ 0 ∷ 0 ∷ []) ∷ (0 ∷ 4 ∷ 0 ∷ []) ∷ (0 ∷ 0 ∷ 0 ∷ []) ∷ (5 ∷ 0 ∷ 0 ∷ []) ∷ (0 ∷ 0 ∷ 0 ∷ []) ∷ (0 ∷ 0 ∷ 6 ∷ []) ∷ []

lines_of_copies : wrong_text counts ≡ codes "WRONG 1 1 1\nWRONG 1 2 2\nWRONG 1 3 3\nWRONG 3 2 4\nWRONG 5 1 5\nWRONG 7 3 6\n"
unfolding counts digits lines_below
lines_of_copies = refl

in_all : all_counts counts ≡ 21
unfolding counts counts_below
in_all = refl

-- ---- the whole: a state of the voted machine in the step before which a device failed

trial : Trial
trial = record { opening = record { image = record { at = spot 0 3; word = 0o77 } ∷ []; banks = 0; start = hop_of 0o16; unplugs = []; devices = [] }; script = [] }

failed : Voted
failed =
    record (voted_start trial) {
      log = exchange ∷ [];
      counts = counts;
      repairs = record { step = 7; at = spot 0 3; twin = 1; switched = false } ∷ [];
      steps = 45;
      end = Some (Device 45 0o14);
    }

the_whole : voted_text titles.Run trial failed
    ≡ codes "LVDC RUN\nEND DEVICE 45 014\nTIMES 15\nPLACE 0 00 0 000\nDATA 0 01\nDUP 1 1\nA 000000000\nPQ 000000000\nSAVER 000000000\nIN 12 014 000000007\nMEM 0 01 003 000000077\nWRONG 1 1 1\nWRONG 1 2 2\nWRONG 1 3 3\nWRONG 3 2 4\nWRONG 5 1 5\nWRONG 7 3 6\nREPAIR 7 0 01 003 1\n"
unfolding failed trial counts exchange spot digits octal_text lines_of lines_below majority with_stuck
the_whole = refl
