-- Worked values of the definitions.
use Rattle.std.proofs.Common.{◌≡◌, ◌-◌, ◌^◌, [], ◌∷◌, Some, None, true, false, refl, arith}
use Rattle.lvdc_port.specs.Causes.{Rose}
use Rattle.lvdc_port.specs.Device.{Device, read_word, after_read, after_write, after_supply}
use Rattle.lvdc_port.specs.Devices.{exchange_word, after_exchange, without, has_port, count_at}
use Rattle.lvdc_port.specs.Supplies.{kind_at, supplied, IsSuppliedInPart}
use Rattle.lvdc_port.specs.Times.{told_at, told_by}
use Rattle.lvdc_port.specs.declared.device.Kind.TheVariants.{Tape, Latch, Ticker, Recorder}
use Rattle.lvdc_port.specs.declared.requests.PortRequest.TheVariants.{Read, Write}

-- a tape, a latch, a ticker and a recorder that hold words
abbrev tape : Device
tape = record { port = 0; kind = Tape; state = 0o5 ∷ 0o7 ∷ [] }

abbrev latch : Device
latch = record { port = 0o14; kind = Latch; state = 0o6 ∷ [] }

abbrev ticker : Device
ticker = record { port = 0o16; kind = Ticker; state = [] }

abbrev recorder : Device
recorder = record { port = 0o17; kind = Recorder; state = 0o1 ∷ [] }

a_tape_gives_its_first_word_away : (read_word tape 9 ≡ 0o5) × (after_read tape ≡ record tape { state = 0o7 ∷ [] })
a_tape_gives_its_first_word_away = (refl, refl)

an_empty_tape_answers_zero : read_word (record tape { state = [] }) 9 ≡ 0
an_empty_tape_answers_zero = refl

a_tape_takes_a_supplied_word : after_supply tape 0o3 ≡ record tape { state = 0o5 ∷ 0o7 ∷ 0o3 ∷ [] }
a_tape_takes_a_supplied_word = refl

a_tape_ignores_a_write : after_write tape 0o3 ≡ tape
a_tape_ignores_a_write = refl

a_latch_answers_its_word_and_takes_another : (read_word latch 9 ≡ 0o6) × (after_write latch 0o3 ≡ record latch { state = 0o3 ∷ [] })
a_latch_answers_its_word_and_takes_another = (refl, refl)

a_ticker_answers_the_time : (read_word ticker 9 ≡ 9) × (after_write ticker 0o3 ≡ ticker)
a_ticker_answers_the_time = (refl, refl)

a_recorder_answers_zero_and_keeps_what_is_written :
    (read_word recorder 9 ≡ 0) × (after_write recorder 0o3 ≡ record recorder { state = 0o1 ∷ 0o3 ∷ [] })
a_recorder_answers_zero_and_keeps_what_is_written = (refl, refl)

only_the_device_at_the_port_changes :
    after_exchange (Write 0o14 0o3) (tape ∷ latch ∷ ticker ∷ []) ≡ tape ∷ after_write latch 0o3 ∷ ticker ∷ []
only_the_device_at_the_port_changes = refl

no_device_answers_zero :
    (exchange_word (Read 0o20) 9 (tape ∷ ticker ∷ []) ≡ 0) × (after_exchange (Read 0o20) (tape ∷ []) ≡ tape ∷ [])
no_device_answers_zero = (refl, refl)

one_is_unplugged : without (λ d. d) 0o14 (tape ∷ latch ∷ ticker ∷ []) ≡ tape ∷ ticker ∷ []
one_is_unplugged = refl

the_first_of_two_words_is_supplied :
    IsSuppliedInPart (record { port = 0o14; word = 0o3 } ∷ record { port = 0; word = 0o4 } ∷ []) (tape ∷ latch ∷ [])
    (tape ∷ after_supply latch 0o3 ∷ [])
the_first_of_two_words_is_supplied = record { count = 1; next = _; is_next = refl; tape = refl; devices = refl }

whether_one_is_there :
    (has_port (λ d. d) 0o14 (tape ∷ latch ∷ []) ≡ true) × (has_port (λ d. d) 0o14 (tape ∷ ticker ∷ []) ≡ false)
whether_one_is_there = (refl, refl)

-- a count rises by one, or stands at its greatest value; that of a device which never fails doesn't, and neither does one become it
a_count_rises : Rose 0 1 × Rose (2 ^ 64 - 1) (2 ^ 64 - 1)
a_count_rises = (
  record { may_fail = omega arith; counted = omega arith; grew = omega arith },
  record { may_fail = omega arith; counted = omega arith; grew = omega arith },
)

a_count_that_stands_has_not_risen : Rose 3 3 → ⊥
a_count_that_stands_has_not_risen rose = let grew = rose.grew in absurd (omega (arith, grew))

what_never_fails_has_no_count_that_rises : (Rose (2 ^ 64) 1 → ⊥) × (Rose 0 (2 ^ 64) → ⊥)
what_never_fails_has_no_count_that_rises = (
  λ rose. let old = rose.may_fail in absurd (omega (arith, old)),
  λ rose. let new = rose.counted in absurd (omega (arith, new)),
)

-- where no device stands none ever fails
counts_by_port : (count_at (λ d. d) (λ d. 2) 0o14 (tape ∷ latch ∷ []) ≡ 2) × (count_at (λ d. d) (λ d. 2) 0o15 (tape ∷ latch ∷ []) ≡ 2 ^ 64)
counts_by_port = (refl, refl)

words_are_supplied_in_order : supplied (record { port = 0; word = 0o3 } ∷ record { port = 0o14; word = 0o4 } ∷ record { port = 0o15; word = 0o4 } ∷ record { port = 0; word = 0o2 } ∷ [])
    (latch ∷ tape ∷ []) ≡ latch ∷ record tape { state = 0o5 ∷ 0o7 ∷ 0o3 ∷ 0o2 ∷ [] } ∷ []
words_are_supplied_in_order = refl

kinds_by_port : (kind_at (λ device. device) 0o14 (tape ∷ latch ∷ []) ≡ Some Latch) × (kind_at (λ device. device) 0o15 (tape ∷ latch ∷ []) ≡ None)
kinds_by_port = (refl, refl)

-- a device that looks at the time of a write is told each one; one that never looks is told none
a_device_that_looks_is_told_the_time : (told_at 7 0 ≡ 7) × (told_at 7 9 ≡ 7) × (told_at 0 9 ≡ 0) × (told_at 7 (2 ^ 64) ≡ 2 ^ 64)
a_device_that_looks_is_told_the_time = (refl, refl, refl, refl)

a_read_tells_nothing : (told_by (Read 0o14) 7 9 ≡ 9) × (told_by (Write 0o14 0o3) 7 9 ≡ 7)
a_read_tells_nothing = (refl, refl)
