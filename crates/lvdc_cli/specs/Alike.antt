-- The devices over which the second half of a run goes on as the first half left them.
use Rattle.std.specs.Prelude.{◌≡◌, ℕ, ◌^◌, ◌<◌, List, [], ◌∷◌, All, map, length}
use Rattle.lvdc_port.specs.Device.{Device}
use Rattle.lvdc_port.specs.declared.device.Kind.{Kind}
use Rattle.lvdc_port.specs.declared.device.Kind.TheVariants.{Tape, Latch, Ticker, Recorder}
use Rattle.lvdc_command_resume.specs.Reordered.{AreReordered}

-- the words that a device of this kind holds in its kind's first state
abbrev pub first_words : Kind → List ℕ
first_words Tape = []
first_words Latch = 0 ∷ []
first_words Ticker = []
first_words Recorder = []

-- a device of the same port and kind, in its kind's first state
abbrev pub renewed : Device → Device
renewed device = record device { state = first_words device.kind }

-- a device of this kind may hold these words: a latch holds one, and a ticker none
abbrev pub MayHold : Kind → List ℕ → Type 0
MayHold Tape words = Unit {0}
MayHold Latch words = length words ≡ 1
MayHold Ticker words = words ≡ []
MayHold Recorder words = Unit {0}

-- a device at a port, with words that its kind may hold
pub record IsDevice (device : Device) : Type 0 where
  pub port : device.port < 2 ^ 8
  pub words : MayHold device.kind device.state

-- the new devices are those of the ports and kinds of the old ones, each in its kind's first state
pub record AreAlike (old new : List Device) : Type 0 where
  pub devices : All IsDevice old
  pub first : new ≡ map renewed old

-- the same in any order: at each port stands a device of the kind that stood there, in its kind's first state
pub record AreAlikeInAnyOrder (old new : List Device) : Type 0 where
  pub devices : All IsDevice old
  pub first : AreReordered (map renewed old) new
