-- Lists of devices. The definitions serve lists of boxes, each seen as a device by `device_of`, and lists of plain devices.
use Rattle.std.specs.Prelude.{◌≡◌, ◌≢◌, ℕ, ◌≤◌, ◌<◌, ◌^◌, ◌==◌, if◌then◌else◌, List, [], ◌∷◌, All, Bool, true, false}
use Rattle.lvdc_port.specs.Causes.{never}
use Rattle.lvdc_port.specs.Device.{Device, AreWords, word_by_kind, state_after_read, state_after_write}
use Rattle.lvdc_port.specs.declared.requests.PortRequest.{PortRequest}
use Rattle.lvdc_port.specs.declared.requests.PortRequest.TheVariants.{Read, Write}

-- the port that a request names
abbrev pub port_of : PortRequest → ℕ
port_of (Read port) = port
port_of (Write port word) = port

-- what a device answers to a request: a write answers 0
abbrev pub answer_of : PortRequest → ℕ → Device → ℕ
answer_of (Read port) time device = word_by_kind device.kind device.state time
answer_of (Write port word) time device = 0

-- a device after a request that it has answered
abbrev pub after_request : PortRequest → Device → Device
after_request (Read port) device = record device { state = state_after_read device.kind device.state }
after_request (Write port word) device = record device { state = state_after_write device.kind device.state word }

-- the answer of the device at the port of the request; 0 where there is none
abbrev pub exchange_word : PortRequest → ℕ → List Device → ℕ
exchange_word request time [] = 0
exchange_word request time (device ∷ devices) =
    if device.port == port_of request then answer_of request time device else exchange_word request time devices

-- the devices after a request: only the one at its port has changed
abbrev pub after_exchange : PortRequest → List Device → List Device
after_exchange request [] = []
after_exchange request (device ∷ devices) =
    if device.port == port_of request then after_request request device ∷ devices else device ∷ after_exchange request devices

-- the list without the device at this port; the others keep their order
abbrev pub without : {B : Type 0} → (B → Device) → ℕ → List B → List B
without device_of port [] = []
without device_of port (device ∷ devices) = if (device_of device).port == port then devices else device ∷ without device_of port devices

-- whether there is a device at this port
abbrev pub has_port : {B : Type 0} → (B → Device) → ℕ → List B → Bool
has_port device_of port [] = false
has_port device_of port (device ∷ devices) =
    if (device_of device).port == port then true else has_port device_of port devices

-- a number of the device at this port, such as its count of faults; where there is no device, the one that no count reaches
abbrev pub count_at : {B : Type 0} → (B → Device) → (B → ℕ) → ℕ → List B → ℕ
count_at device_of count port [] = never
count_at device_of count port (device ∷ devices) =
    if (device_of device).port == port then count device else count_at device_of count port devices

-- every device at another port is the same object as before, at its old place
abbrev pub OthersKept : {B : Type 0} → (B → Device) → ℕ → List B → List B → Type 0
OthersKept device_of port [] [] = Unit {0}
OthersKept device_of port (old ∷ olds) (new ∷ news) =
    ((device_of old).port ≢ port → new ≡ old) × OthersKept device_of port olds news
OthersKept device_of port [] (new ∷ news) = ⊥
OthersKept device_of port (old ∷ olds) [] = ⊥

-- each device has room for so many writes
abbrev pub HasSpare : {B : Type 0} → (B → ℕ) → ℕ → List B → Type 0
HasSpare spare writes devices = All (λ device. writes ≤ spare device) devices

-- what a request carries is a word
abbrev pub CarriesWord : PortRequest → Type 0
CarriesWord (Read port) = Unit {0}
CarriesWord (Write port word) = word < 2 ^ 26

-- each device holds words
abbrev pub HoldWords : List Device → Type 0
HoldWords devices = All (λ device. AreWords device.state) devices

-- a write needs room for one word
abbrev pub RoomFor : PortRequest → ℕ → Type 0
RoomFor (Read port) spare = Unit {0}
RoomFor (Write port word) spare = 1 ≤ spare

-- no device ever fails
abbrev pub NeverFail : {B : Type 0} → (B → ℕ) → List B → Type 0
NeverFail faults devices = All (λ device. faults device ≡ never) devices

-- the device at the port of the request, where there is one, has the room that the request needs
abbrev pub RoomAt : {B : Type 0} → (B → Device) → (B → ℕ) → PortRequest → List B → Type 0
RoomAt device_of spare request devices =
    has_port device_of (port_of request) devices ≡ true →
    RoomFor request (count_at device_of spare (port_of request) devices)

-- no two devices have one port
abbrev pub AreDistinct : List Device → Type 0
AreDistinct [] = Unit {0}
AreDistinct (device ∷ devices) = (has_port (λ d. d) device.port devices ≡ false) × AreDistinct devices
