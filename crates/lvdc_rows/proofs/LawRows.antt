-- Worked values of what the laws of the voted machine speak of: what an exchange leaves, and the end of a run that stops.
use Rattle.std.proofs.Common.{◌≡◌, ◌+◌, ◌^◌, List, [], ◌∷◌, true, false, Some, None, refl}
use Rattle.lvdc_map.specs.Address.{Spot}
use Rattle.lvdc_map.specs.Memory.{filled_with, word_at}
use Rattle.lvdc_port.specs.Device.{Device}
use Rattle.lvdc_port.specs.declared.device.Kind.TheVariants.{Tape, Latch, Ticker}
use Rattle.lvdc_modules.specs.declared.wanted.Wanted.TheVariants.{Nothing, Fetch, Operand, Store, PortRead, PortWrite}
use Rattle.lvdc_plain.specs.declared.records.Exchange.{Exchange}
use Rattle.lvdc_plain.specs.declared.records.Stop.TheVariants.{Shift, Exm}
use Rattle.lvdc_model.specs.declared.outcome.Outcome.TheVariants.{Stopped}
use Rattle.lvdc_laws_voted.specs.Ends.{stop_end}
use Rattle.lvdc_laws_voted.specs.Leaves.{memory_after, devices_after, log_after}

-- location 003 of sector 01
place : Spot
place = record { pair = 0; sector = 1; loc = 3 }

tape : Device
tape = record { port = 0; kind = Tape; state = 0o5 ∷ 0o7 ∷ [] }

latch : Device
latch = record { port = 0o14; kind = Latch; state = 0o6 ∷ [] }

ticker : Device
ticker = record { port = 0o16; kind = Ticker; state = [] }

devices : List Device
devices = tape ∷ latch ∷ ticker ∷ []

-- a read of the tape at time 2
earlier : Exchange
earlier = record { time = 2; port = 0; reading = true; word = 0o5 }

-- ---- memory: only a store changes it, at its own address

a_store : (word_at (memory_after (Store place 0o77) (filled_with 0o1)) place ≡ 0o77) × (word_at (memory_after (Store place 0o77) (filled_with 0o1)) (record { pair = 0; sector = 1; loc = 4 }) ≡ 0o1)
unfolding place
a_store = (refl, refl)

a_read_stores_nothing : (memory_after (Fetch place) (filled_with 0o1) ≡ filled_with 0o1) × (memory_after (Operand place) (filled_with 0o1) ≡ filled_with 0o1)
    × (memory_after (PortWrite 0o14 0o77) (filled_with 0o1) ≡ filled_with 0o1)
a_read_stores_nothing = (refl, refl, refl)

-- ---- devices

a_read_of_the_tape : devices_after (PortRead 0) devices ≡ record tape { state = 0o7 ∷ [] } ∷ latch ∷ ticker ∷ []
unfolding devices tape latch ticker
a_read_of_the_tape = refl

a_write_of_the_latch : devices_after (PortWrite 0o14 0o77) devices ≡ tape ∷ record latch { state = 0o77 ∷ [] } ∷ ticker ∷ []
unfolding devices tape latch ticker
a_write_of_the_latch = refl

a_store_asks_no_device : (devices_after (Store place 0o77) devices ≡ devices) × (devices_after Nothing devices ≡ devices)
a_store_asks_no_device = (refl, refl)

-- ---- the log: the latest line is the last one

a_line_of_a_read : log_after (PortRead 0o14) (earlier ∷ []) devices 3 ≡ earlier ∷ record { time = 3; port = 0o14; reading = true; word = 0o6 } ∷ []
unfolding devices tape latch ticker earlier
a_line_of_a_read = refl

a_line_of_a_write : log_after (PortWrite 0o14 0o77) (earlier ∷ []) devices 3 ≡ earlier ∷ record { time = 3; port = 0o14; reading = false; word = 0o77 } ∷ []
unfolding devices tape latch ticker earlier
a_line_of_a_write = refl

no_line_of_a_store : (log_after (Store place 0o77) (earlier ∷ []) devices 3 ≡ earlier ∷ []) × (log_after (Fetch place) (earlier ∷ []) devices 3 ≡ earlier ∷ [])
no_line_of_a_store = (refl, refl)

-- the line has the whole time, and the ticker was told it modulo 2 ^ 26
the_time_of_a_ticker : log_after (PortRead 0o16) [] devices (2 ^ 26 + 5) ≡ record { time = 2 ^ 26 + 5; port = 0o16; reading = true; word = 5 } ∷ []
unfolding devices tape latch ticker
the_time_of_a_ticker = refl

no_device_answers_0 : log_after (PortRead 0o17) [] devices 3 ≡ record { time = 3; port = 0o17; reading = true; word = 0 } ∷ []
unfolding devices tape latch ticker
no_device_answers_0 = refl

-- ---- the end: a stop comes in the last step of the last time, and steps are counted from 0

no_end : stop_end None 5 ≡ None
no_end = refl

in_the_first_time : stop_end (Some Exm) 1 ≡ Some (Stopped 2 Exm)
in_the_first_time = refl

in_the_third_time : stop_end (Some Shift) 3 ≡ Some (Stopped 8 Shift)
in_the_third_time = refl
