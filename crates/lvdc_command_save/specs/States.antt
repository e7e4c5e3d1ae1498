-- What devices hold, word by word.
use Rattle.std.specs.Prelude.{ℕ, ◌==◌, List, [], ◌∷◌, if◌then◌else◌}
use Rattle.std.specs.List.{flat_map, range_with_len}
use Rattle.lvdc_port.specs.Device.{Device}
use Rattle.lvdc_port.specs.declared.requests.Supply.{Supply}
use Rattle.lvdc_deck.specs.Sections.{supply_of}

-- the words of the device at this port, in their order; none where there is no device
abbrev pub state_at : List Device → ℕ → List Supply
state_at [] port = []
state_at (device ∷ devices) port = if device.port == port then supply_of port device.state else state_at devices port

-- the words that the devices hold, by rising port and in each device's order
unfoldable pub states_of : List Device → List Supply
states_of devices = flat_map (state_at devices) (range_with_len 0 256)
