-- The devices that accept the text of a saved state.
use Rattle.std.specs.Prelude.{◌≡◌, ◌≢◌, ℕ, ◌*◌, ◌/◌, ◌<◌, ◌≤◌, List, length, All, AllPairs}
use Rattle.std.specs.declared.option.Option.{Option}
use Rattle.std.specs.declared.option.Option.TheVariants.{None, Some}
use Rattle.lvdc_port.specs.Device.{Device}
use Rattle.lvdc_port.specs.Supplies.{kind_at}
use Rattle.lvdc_port.specs.declared.device.Kind.{Kind}
use Rattle.lvdc_port.specs.declared.device.Kind.TheVariants.{Latch, Ticker}
use Rattle.lvdc_port.specs.declared.requests.Supply.{Supply}
use Rattle.lvdc_plain.specs.declared.records.Unplug.{Unplug}
use Rattle.lvdc_fault.specs.Events.{EVENTS}
use Rattle.lvdc_orders.specs.Orders.{ORDERS, orders_of}
use Rattle.lvdc_snapshot.specs.Snapshot.{IsWhole}
use Rattle.lvdc_save.specs.declared.saved.Saved.{Saved}

-- the kind of the device at a port, where there is one
abbrev pub kind_among : List Device → ℕ → Option Kind
kind_among devices port = kind_at (λ device. device) port devices

-- a device is at this port, and holds words: every kind does but the ticker
pub record HoldsWords (devices : List Device) (port : ℕ) : Type 0 where
  pub there : kind_among devices port ≢ None
  pub kind : kind_among devices port ≢ Some Ticker

-- the words that the devices of a saved state hold
pub record AreStates (devices : List Device) (states : List Supply) : Type 0 where
  -- each is of a device that holds words
  pub held : All (λ word. HoldsWords devices word.port) states
  -- their ports rise
  pub rise : AllPairs (λ word next. word.port ≤ next.port) states
  -- a latch holds one word alone
  pub single : AllPairs (λ word next. word.port ≡ next.port → kind_among devices word.port ≢ Some Latch) states

-- the unplug lines of a saved state that was reached after so many times
pub record AreUnplugs (devices : List Device) (times : ℕ) (states : List Supply) (unplugs : List Unplug) : Type 0 where
  -- each takes away a device
  pub there : All (λ unplug. kind_among devices unplug.port ≢ None) unplugs
  -- no device is taken away twice
  pub once : AllPairs (λ unplug later. unplug.port ≢ later.port) unplugs
  -- a device that was taken away before the state holds no words in it
  pub gone : All (λ unplug. unplug.time < times → All (λ word. word.port ≢ unplug.port) states) unplugs

-- these devices accept the text of a saved state
pub record GoesWith (devices : List Device) (s : Saved) : Type 0 where
  -- a machine can go on from the snapshot
  pub whole : IsWhole s.snapshot
  -- no more steps were made than the count asks for
  pub within : s.snapshot.steps ≤ 3 * s.count
  -- the devices are those of the words and of the unplug lines
  pub states : AreStates devices s.states
  pub unplugs : AreUnplugs devices (s.snapshot.steps / 3) s.states s.unplugs
  -- a deck may have as many events and orders
  pub events : length s.script ≤ EVENTS
  pub orders : length s.orders ≤ ORDERS

-- the saved state with its orders written out: where none was added, the plain one
abbrev pub with_orders : Saved → Saved
with_orders s = record s { orders = orders_of s.orders }
