-- Worked exchanges with devices: what a read leaves, and the time that a device is told.
use Rattle.std.proofs.Common.{◌≡◌, ◌+◌, ◌-◌, ◌^◌, [], ◌∷◌, refl}
use Rattle.lvdc_port.specs.Device.{Device, word_of_time, read_word, after_read}
use Rattle.lvdc_port.specs.Devices.{exchange_word, after_exchange}
use Rattle.lvdc_port.specs.declared.device.Kind.TheVariants.{Tape, Latch, Ticker, Recorder}
use Rattle.lvdc_port.specs.declared.requests.PortRequest.TheVariants.{Read}

-- a tape, a latch, a ticker and a recorder
tape : Device
tape = record { port = 0; kind = Tape; state = 0o5 ∷ 0o7 ∷ [] }

latch : Device
latch = record { port = 0o14; kind = Latch; state = 0o6 ∷ [] }

ticker : Device
ticker = record { port = 0o16; kind = Ticker; state = [] }

recorder : Device
recorder = record { port = 0o17; kind = Recorder; state = 0o1 ∷ 0o2 ∷ [] }

-- ---- only a tape gives its word away

a_read_latch_keeps_its_word : after_read latch ≡ latch
unfolding latch
a_read_latch_keeps_its_word = refl

a_latch_answers_the_same_again : read_word (after_read latch) 9 ≡ 0o6
unfolding latch
a_latch_answers_the_same_again = refl

a_read_ticker_holds_nothing : after_read ticker ≡ ticker
unfolding ticker
a_read_ticker_holds_nothing = refl

a_read_recorder_keeps_its_words : after_read recorder ≡ recorder
unfolding recorder
a_read_recorder_keeps_its_words = refl

an_empty_tape_stays_empty : after_read (record tape { state = [] }) ≡ record tape { state = [] }
unfolding tape
an_empty_tape_stays_empty = refl

a_read_at_a_latch : after_exchange (Read 0o14) (tape ∷ latch ∷ recorder ∷ []) ≡ tape ∷ latch ∷ recorder ∷ []
unfolding tape latch recorder
a_read_at_a_latch = refl

a_read_at_a_tape : after_exchange (Read 0) (tape ∷ latch ∷ recorder ∷ []) ≡ record tape { state = 0o7 ∷ [] } ∷ latch ∷ recorder ∷ []
unfolding tape latch recorder
a_read_at_a_tape = refl

-- the second of two devices answers
a_word_behind_another_device : exchange_word (Read 0o14) 9 (tape ∷ latch ∷ ticker ∷ []) ≡ 0o6
unfolding tape latch ticker
a_word_behind_another_device = refl

-- ---- the time: the instruction time modulo 2 ^ 26

the_time_at_2_to_the_19 : word_of_time (2 ^ 19) ≡ 2 ^ 19
the_time_at_2_to_the_19 = refl

the_greatest_time : word_of_time (2 ^ 26 - 1) ≡ 2 ^ 26 - 1
the_greatest_time = refl

the_time_begins_again : word_of_time (2 ^ 26) ≡ 0
the_time_begins_again = refl

five_times_later : word_of_time (2 ^ 26 + 5) ≡ 5
five_times_later = refl
