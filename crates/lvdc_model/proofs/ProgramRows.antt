-- A whole program with devices and faults that wander over all copies, by computing.
use Rattle.std.proofs.Common.{◌≡◌, ℕ, zero, suc, ◌+◌, ◌*◌, ◌%◌, refl, true, false, List, [], ◌∷◌, ◌++◌}
use Rattle.lvdc_map.specs.Hop.{hop_of}
use Rattle.lvdc_map.specs.Memory as memory
use Rattle.lvdc_port.specs.Device.{Device}
use Rattle.lvdc_port.specs.declared.device.Kind.TheVariants.{Tape, Recorder}
use Rattle.lvdc_fault.specs.declared.event.Event.{Event}
use Rattle.lvdc_fault.specs.declared.event.Event.TheVariants.{Flip}
use Rattle.lvdc_plain.specs.Plain.{PlainState}
use Rattle.lvdc_plain.specs.declared.records.Exchange.{Exchange}
use Rattle.lvdc_model.specs.Runs.{through}
use Rattle.lvdc_model.specs.Trial.{Trial, plain_at}
use Rattle.lvdc_model.specs.Voted.{Voted}
use Rattle.lvdc_model.proofs.LedgerRows.{placed, at}
use Rattle.lvdc_model.proofs.VotedRows.{a_of}
use Rattle.lvdc_word.specs.Cell.{with_stuck}
use Rattle.lvdc_vote.specs.Bits.{majority, flipped}

-- event i flips one bit of latch 0 of a copy at the step 2 i
abbrev pub flips : ℕ → List Event
flips zero = []
flips (suc i) = flips i ++ Flip (i % 7 + 1) (i % 3 + 1) (2 * i) (2 * i) 0 1 ∷ []

abbrev pub program : Trial
program =
    record {
      opening = record {
        image =
            placed 0 0 (0o12400 ∷ 0o13000 ∷ 0o04004 ∷ 0o10003 ∷ 0o00002 ∷ 0o17001 ∷ 0o12017 ∷ 0o10000
            ∷ 0o13776 ∷ 0o17000 ∷ 0o01400 ∷ 0o17001 ∷ 0o17001 ∷ 0o17001 ∷ 0o17001 ∷ 0o07775 ∷ 0o13001 ∷ 0o00776 ∷ [])
            ++ placed 1 0 (0 ∷ 0 ∷ 0o000020016 ∷ []) ++ placed 15 0 (0o100000000 ∷ []);
        banks = 0;
        start = hop_of 0o16;
        unplugs = [];
        devices = record { port = 0; kind = Tape; state = 0o10 ∷ 0o20 ∷ [] } ∷ record { port = 0o17; kind = Recorder; state = [] } ∷ [];
      };
      script = flips 60;
    }

-- A, PQ, the saver and the location of a plain state, its log, and two of its words
abbrev pub shown_plainly : PlainState → ℕ × ℕ × ℕ × ℕ × List Exchange × ℕ × ℕ
shown_plainly p = (p.a, p.pq, p.saver, p.place.loc, p.log, memory.word_at p.memory (at 1 1), memory.word_at p.memory (at 15 0o376))

plain_run : shown_plainly (plain_at program 40) ≡ (
  0,
  0o10,
  0o000010016,
  3,
  record { time = 0; port = 0; reading = true; word = 0o10 } ∷ record { time = 15; port = 0o17; reading = false; word = 0o4 }
      ∷ record { time = 17; port = 0; reading = true; word = 0o20 } ∷ record { time = 32; port = 0o17; reading = false; word = 0o14 }
      ∷ record { time = 34; port = 0; reading = true; word = 0 } ∷ [],
  0o14,
  0o12016,
)
unfolding with_stuck majority flipped
plain_run = refl

forty_times_are_made : (plain_at program 40).times ≡ 40
unfolding with_stuck majority flipped
forty_times_are_made = refl

-- the voted A of a voted state, its counts and its devices
abbrev pub shown_voted : Voted → ℕ × List (List ℕ) × List Device
shown_voted v = (a_of v, v.counts, v.devices)

voted_run : shown_voted (through program 120) ≡ (
  0,
  (3 ∷ 3 ∷ 3 ∷ []) ∷ (3 ∷ 3 ∷ 3 ∷ []) ∷ (3 ∷ 3 ∷ 3 ∷ []) ∷ (3 ∷ 3 ∷ 3 ∷ []) ∷ (2 ∷ 3 ∷ 3 ∷ []) ∷ (3 ∷ 2 ∷ 3 ∷ []) ∷ (3 ∷ 3 ∷ 2 ∷ []) ∷ [],
  record { port = 0; kind = Tape; state = [] } ∷ record { port = 0o17; kind = Recorder; state = 0o4 ∷ 0o14 ∷ [] } ∷ [],
)
unfolding with_stuck majority flipped
voted_run = refl
