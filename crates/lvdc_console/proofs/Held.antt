-- What the devices of the rack hold before a run.
use Rattle.std.proofs.Common.{ℕ, zero, suc, ◌<◌, ◌^◌, nat_lt, Bool, true, false, if◌then◌else◌, [], ◌∷◌, arith}
use Rattle.std.proofs.lemmas.List.Elements.{All-nil, All-cons, All-push}
use Rattle.lvdc_port.specs.Device.{Device, AreWords}
use Rattle.lvdc_port.specs.Devices.{HoldWords}
use Rattle.lvdc_console.specs.Rack.{tape_at, latch_at, ticker_at, recorder_at, device_at, devices_below}

none : AreWords []
none = All-nil (λ number. number < 2 ^ 26)

zero-held : AreWords (0 ∷ [])
zero-held = All-cons (λ number. number < 2 ^ 26) 0 [] (omega arith) none

holds : (port : ℕ) → AreWords (device_at port).state
holds port = by_kind (nat_lt port 0o14) (nat_lt port 0o16) (nat_lt port 0o17)
  where
    by_kind : (tape latch ticker : Bool)
        → AreWords (if tape then tape_at port else if latch then latch_at port else if ticker then ticker_at port else recorder_at port).state
    by_kind true latch ticker = none
    by_kind false true ticker = zero-held
    by_kind false false true = none
    by_kind false false false = none

-- the devices at the first so many ports hold words
pub below : (port : ℕ) → HoldWords (devices_below port)
below zero = All-nil (λ (device : Device). AreWords device.state)
below (suc port) = All-push (λ (device : Device). AreWords device.state) (devices_below port) (device_at port) (below port) (holds port)
