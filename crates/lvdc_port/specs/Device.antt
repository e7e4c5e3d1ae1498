-- What a device is to the machine, and what a read, a write and a supplied word do to each kind of device.
use Rattle.std.specs.Prelude.{ℕ, ◌<◌, ◌%◌, ◌^◌, List, [], ◌∷◌, ◌++◌, drop, All, slice_index}
use Rattle.lvdc_port.specs.declared.device.Kind.{Kind}
use Rattle.lvdc_port.specs.declared.device.Kind.TheVariants.{Tape, Latch, Ticker, Recorder}

-- a device as plain data: its port, its kind and the words that it holds
pub record Device : Type 0 where
  pub port : ℕ
  pub kind : Kind
  pub state : List ℕ

-- the instruction time of this number as a device is told it: modulo 2 ^ 26
abbrev pub word_of_time : ℕ → ℕ
word_of_time times = times % 2 ^ 26

-- each number is a word
abbrev pub AreWords : List ℕ → Type 0
AreWords numbers = All (λ number. number < 2 ^ 26) numbers

-- the word that a read at this time answers: of a tape and of a latch the first one, 0 where there is none
abbrev pub word_by_kind : Kind → List ℕ → ℕ → ℕ
word_by_kind Ticker state time = time
word_by_kind Recorder state time = 0
word_by_kind _ state time = slice_index state 0

-- the state after a read: only a tape gives its word away
abbrev pub state_after_read : Kind → List ℕ → List ℕ
state_after_read Tape state = drop 1 state
state_after_read _ state = state

-- the state after a write of this word
abbrev pub state_after_write : Kind → List ℕ → ℕ → List ℕ
state_after_write Latch state word = word ∷ []
state_after_write Recorder state word = state ++ word ∷ []
state_after_write _ state word = state

-- the state after this word was supplied: only a tape takes it
abbrev pub state_after_supply : Kind → List ℕ → ℕ → List ℕ
state_after_supply Tape state word = state ++ word ∷ []
state_after_supply _ state word = state

-- the word that the device answers to a read at this time
abbrev pub read_word : Device → ℕ → ℕ
read_word device time = word_by_kind device.kind device.state time

-- the device after a read
abbrev pub after_read : Device → Device
after_read device = record device { state = state_after_read device.kind device.state }

-- the device after a write of this word
abbrev pub after_write : Device → ℕ → Device
after_write device word = record device { state = state_after_write device.kind device.state word }

-- the device after this word was supplied
abbrev pub after_supply : Device → ℕ → Device
after_supply device word = record device { state = state_after_supply device.kind device.state word }
