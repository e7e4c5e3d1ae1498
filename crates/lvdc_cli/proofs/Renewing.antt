-- What becomes of devices changes no port and no kind, and they hold what their kinds may hold.
use Rattle.std.proofs.Common.{◌≡◌, ℕ, ◌==◌, true, false, List, [], ◌∷◌, map, refl, ap, ◌∙◌, arith}
use Rattle.std.specs.Bool.{if◌then◌else◌}
use Rattle.lvdc_port.specs.Device.{Device, state_after_read, state_after_write, state_after_supply, after_supply}
use Rattle.lvdc_port.specs.Devices.{port_of, after_request, after_exchange, without}
use Rattle.lvdc_port.specs.Supplies.{after_supply_of, supplied}
use Rattle.lvdc_port.specs.declared.device.Kind.{Kind}
use Rattle.lvdc_port.specs.declared.device.Kind.TheVariants.{Tape, Latch, Ticker, Recorder}
use Rattle.lvdc_port.specs.declared.requests.PortRequest.{PortRequest}
use Rattle.lvdc_port.specs.declared.requests.PortRequest.TheVariants.{Read, Write}
use Rattle.lvdc_port.specs.declared.requests.Supply.{Supply}
use Rattle.lvdc_plain.specs.Run.{plugged}
use Rattle.lvdc_plain.specs.declared.records.Unplug.{Unplug}
use Rattle.lvdc_cli.specs.Alike.{renewed, MayHold, IsDevice}

-- ---- ports and kinds

pub renewed-without : (port : ℕ) (ds : List Device) → map renewed (without (λ d. d) port ds) ≡ without (λ d. d) port (map renewed ds)
renewed-without port [] = refl
renewed-without port (d ∷ ds) =
    elim (d.port == port) as (λ t. map renewed (if t then ds else d ∷ without (λ x. x) port ds)
    ≡ (if t then map renewed ds else renewed d ∷ without (λ x. x) port (map renewed ds)))
    [ true ↦ refl | false ↦ ap (λ (xs : List Device). renewed d ∷ xs) (renewed-without port ds) ]

renewed-request : (request : PortRequest) (d : Device) → renewed (after_request request d) ≡ renewed d
renewed-request (Read port) d = refl
renewed-request (Write port word) d = refl

pub renewed-exchange : (request : PortRequest) (ds : List Device) → map renewed (after_exchange request ds) ≡ map renewed ds
renewed-exchange request [] = refl
renewed-exchange request (d ∷ ds) =
    elim (d.port == port_of request) as (λ t. map renewed (if t then after_request request d ∷ ds else d ∷ after_exchange request ds)
    ≡ renewed d ∷ map renewed ds) [
      | true ↦ ap (λ (x : Device). x ∷ map renewed ds) (renewed-request request d)
      | false ↦ ap (λ (xs : List Device). renewed d ∷ xs) (renewed-exchange request ds)
    ]

renewed-supply : (supply : Supply) (ds : List Device) → map renewed (after_supply_of supply ds) ≡ map renewed ds
renewed-supply supply [] = refl
renewed-supply supply (d ∷ ds) =
    elim (d.port == supply.port) as (λ t. map renewed (if t then after_supply d supply.word ∷ ds else d ∷ after_supply_of supply ds)
    ≡ renewed d ∷ map renewed ds)
    [ true ↦ refl | false ↦ ap (λ (xs : List Device). renewed d ∷ xs) (renewed-supply supply ds) ]

pub renewed-supplied : (supplies : List Supply) (ds : List Device) → map renewed (supplied supplies ds) ≡ map renewed ds
renewed-supplied [] ds = refl
renewed-supplied (s ∷ supplies) ds = renewed-supplied supplies (after_supply_of s ds) ∙ renewed-supply s ds

pub renewed-plugged : (lines : List Unplug) (time : ℕ) (ds : List Device) → map renewed (plugged lines time ds) ≡ plugged lines time (map renewed ds)
renewed-plugged [] time ds = refl
renewed-plugged (line ∷ lines) time ds =
    elim (line.time == time) as (λ t. map renewed (plugged lines time (if t then without (λ x. x) line.port ds else ds))
    ≡ plugged lines time (if t then without (λ x. x) line.port (map renewed ds) else map renewed ds)) [
      | true ↦ renewed-plugged lines time (without (λ x. x) line.port ds) ∙ ap (plugged lines time) (renewed-without line.port ds)
      | false ↦ renewed-plugged lines time ds
    ]

-- ---- what they hold

-- all are devices
abbrev pub AreDevices : List Device → Type 0
AreDevices [] = Unit {0}
AreDevices (d ∷ ds) = IsDevice d × AreDevices ds

read-holds : (kind : Kind) (words : List ℕ) → MayHold kind words → MayHold kind (state_after_read kind words)
read-holds Tape [] h = tt
read-holds Tape (w ∷ words) h = tt
read-holds Latch words h = h
read-holds Ticker words h = h
read-holds Recorder words h = tt

write-holds : (kind : Kind) (words : List ℕ) (word : ℕ) → MayHold kind words → MayHold kind (state_after_write kind words word)
write-holds Tape words word h = tt
write-holds Latch words word h = omega arith
write-holds Ticker words word h = h
write-holds Recorder words word h = tt

supply-holds : (kind : Kind) (words : List ℕ) (word : ℕ) → MayHold kind words → MayHold kind (state_after_supply kind words word)
supply-holds Tape words word h = tt
supply-holds Latch words word h = h
supply-holds Ticker words word h = h
supply-holds Recorder words word h = tt

device-request : (request : PortRequest) (d : Device) → IsDevice d → IsDevice (after_request request d)
device-request (Read port) d h = record { port = h.port; words = read-holds d.kind d.state h.words }
device-request (Write port word) d h = record { port = h.port; words = write-holds d.kind d.state word h.words }

pub devices-without : (port : ℕ) (ds : List Device) → AreDevices ds → AreDevices (without (λ d. d) port ds)
devices-without port [] h = tt
devices-without port (d ∷ ds) h =
    elim (d.port == port) as (λ t. AreDevices (if t then ds else d ∷ without (λ x. x) port ds))
    [ true ↦ h.1 | false ↦ (h.0, devices-without port ds h.1) ]

pub devices-exchange : (request : PortRequest) (ds : List Device) → AreDevices ds → AreDevices (after_exchange request ds)
devices-exchange request [] h = tt
devices-exchange request (d ∷ ds) h =
    elim (d.port == port_of request) as (λ t. AreDevices (if t then after_request request d ∷ ds else d ∷ after_exchange request ds))
    [ true ↦ (device-request request d h.0, h.1) | false ↦ (h.0, devices-exchange request ds h.1) ]

devices-supply : (supply : Supply) (ds : List Device) → AreDevices ds → AreDevices (after_supply_of supply ds)
devices-supply supply [] h = tt
devices-supply supply (d ∷ ds) h =
    elim (d.port == supply.port) as (λ t. AreDevices (if t then after_supply d supply.word ∷ ds else d ∷ after_supply_of supply ds)) [
      | true ↦ (record { port = h.0.port; words = supply-holds d.kind d.state supply.word h.0.words }, h.1)
      | false ↦ (h.0, devices-supply supply ds h.1)
    ]

pub devices-supplied : (supplies : List Supply) (ds : List Device) → AreDevices ds → AreDevices (supplied supplies ds)
devices-supplied [] ds h = h
devices-supplied (s ∷ supplies) ds h = devices-supplied supplies (after_supply_of s ds) (devices-supply s ds h)

pub devices-plugged : (lines : List Unplug) (time : ℕ) (ds : List Device) → AreDevices ds → AreDevices (plugged lines time ds)
devices-plugged [] time ds h = h
devices-plugged (line ∷ lines) time ds h =
    elim (line.time == time) as (λ t. AreDevices (plugged lines time (if t then without (λ x. x) line.port ds else ds))) [
      | true ↦ devices-plugged lines time (without (λ x. x) line.port ds) (devices-without line.port ds h)
      | false ↦ devices-plugged lines time ds h
    ]
