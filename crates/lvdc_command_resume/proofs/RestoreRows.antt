-- Worked devices of a run that goes on: which are left, and the words that they are given.
use Rattle.std.proofs.Common.{◌≡◌, ℕ, List, [], ◌∷◌, true, false, None, Some, refl}
use Rattle.lvdc_port.specs.Device.{Device}
use Rattle.lvdc_port.specs.declared.device.Kind.TheVariants.{Tape, Latch, Recorder}
use Rattle.lvdc_port.specs.declared.requests.Supply.{Supply}
use Rattle.lvdc_plain.specs.declared.records.Unplug.{Unplug}
use Rattle.lvdc_save.specs.declared.saved.Saved.{Saved}
use Rattle.lvdc_command_resume.specs.Restore.{left_before, after_state, with_states, time_of, has_word, is_written}
use Rattle.lvdc_command_resume.specs.Reordered.{device_at}

abbrev tape : Device
tape = record { port = 0; kind = Tape; state = [] }

abbrev latch : Device
latch = record { port = 0o14; kind = Latch; state = 0 ∷ [] }

abbrev recorder : Device
recorder = record { port = 0o17; kind = Recorder; state = [] }

-- the tape is taken away at time 2, the recorder at time 5
abbrev unplugs : List Unplug
unplugs = record { port = 0; time = 2 } ∷ record { port = 0o17; time = 5 } ∷ []

-- a device is there up to its time, and gone once that time was made
devices_left : (left_before unplugs 2 (tape ∷ latch ∷ recorder ∷ []) ≡ tape ∷ latch ∷ recorder ∷ []) × (left_before unplugs 3 (tape ∷ latch ∷ recorder ∷ []) ≡ latch ∷ recorder ∷ [])
    × (left_before unplugs 6 (tape ∷ latch ∷ recorder ∷ []) ≡ latch ∷ [])
devices_left = (refl, refl, refl)

-- a tape is supplied, a latch and a recorder are written
one_word : (after_state (record { port = 0; word = 5 }) (tape ∷ latch ∷ []) ≡ record tape { state = 5 ∷ [] } ∷ latch ∷ [])
    × (after_state (record { port = 0o14; word = 5 }) (tape ∷ latch ∷ []) ≡ tape ∷ record latch { state = 5 ∷ [] } ∷ [])
    × (after_state (record { port = 0o17; word = 5 }) (tape ∷ recorder ∷ []) ≡ tape ∷ record recorder { state = 5 ∷ [] } ∷ [])
one_word = (refl, refl, refl)

-- words in their order, to their ports
words_in_order : with_states (record { port = 0; word = 5 } ∷ record { port = 0; word = 6 } ∷ record { port = 0o14; word = 7 } ∷ record { port = 0o17; word = 8 } ∷ record { port = 0o17; word = 9 } ∷ [])
    (tape ∷ latch ∷ recorder ∷ [])
    ≡ record tape { state = 5 ∷ 6 ∷ [] } ∷ record latch { state = 7 ∷ [] } ∷ record recorder { state = 8 ∷ 9 ∷ [] } ∷ []
words_in_order = refl

-- the time at which words are written is the number of times that were made
abbrev saved_after : ℕ → Saved
saved_after steps =
    record {
      snapshot = record { steps = steps; latches = []; differed = []; selected = []; cells = []; words = []; log = []; repairs = []; banks = 0 };
      count = 9;
      states = [];
      unplugs = [];
      script = [];
      orders = [];
    }

time_told : (time_of (saved_after 0) ≡ 0) × (time_of (saved_after 3) ≡ 1) × (time_of (saved_after 27) ≡ 9)
time_told = (refl, refl, refl)

-- the words of a latch and of a tape
abbrev two_words : List Supply
two_words = record { port = 0o14; word = 5 } ∷ record { port = 0; word = 6 } ∷ []

-- which ports they are for, and to which devices one is written: a tape is supplied
words_by_port : (has_word 0o14 two_words ≡ true) × (has_word 0 two_words ≡ true) × (has_word 0o17 two_words ≡ false) × (has_word 0 [] ≡ false)
words_by_port = (refl, refl, refl, refl)

words_written : (is_written (Some Latch) 0o14 two_words ≡ true) × (is_written (Some Tape) 0 two_words ≡ false) × (is_written (Some Recorder) 0o17 two_words ≡ false)
words_written = (refl, refl, refl)

-- the device at a port is the same in any order
at_a_port : (device_at 0o17 (tape ∷ recorder ∷ []) ≡ Some recorder) × (device_at 0o17 (recorder ∷ tape ∷ []) ≡ Some recorder) × (device_at 0o14 (tape ∷ recorder ∷ []) ≡ None)
at_a_port = (refl, refl, refl)
