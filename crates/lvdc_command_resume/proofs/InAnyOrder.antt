-- What requests, words of a state and unplugged devices make of devices, port by port: so of devices in any order.
use Rattle.std.proofs.Common.{◌≡◌, ℕ, ◌/◌, Bool, true, false, List, [], ◌∷◌, Option, None, Some, refl, sym, ap, ◌∙◌, subst, if◌then◌else◌}
use Rattle.std.specs.Prelude.{◌==◌, nat_lt, option_map}
use Rattle.std.proofs.lemmas.Bool.{eqb-true}
use Rattle.lvdc_port.specs.Device.{Device, after_supply}
use Rattle.lvdc_port.specs.Devices.{port_of, answer_of, after_request, exchange_word, after_exchange, without, has_port, AreDistinct}
use Rattle.lvdc_port.specs.Supplies.{kind_at, after_supply_of}
use Rattle.lvdc_port.specs.declared.device.Kind.{Kind}
use Rattle.lvdc_port.specs.declared.device.Kind.TheVariants.{Tape, Latch, Ticker, Recorder}
use Rattle.lvdc_port.specs.declared.requests.PortRequest.{PortRequest}
use Rattle.lvdc_port.specs.declared.requests.PortRequest.TheVariants.{Read, Write}
use Rattle.lvdc_port.specs.declared.requests.Supply.{Supply}
use Rattle.lvdc_port.proofs.Lists.{distinct-without, distinct-exchange}
use Rattle.lvdc_port.proofs.Supplied.{ports-supply, distinct-ports}
use Rattle.lvdc_plain.specs.declared.records.Unplug.{Unplug}
use Rattle.lvdc_plain.specs.Run.{left_at}
use Rattle.lvdc_save.specs.declared.saved.Saved.{Saved}
use Rattle.lvdc_command_resume.specs.Restore.{left_before, left_of, after_state_by, after_state, with_states, devices_of}
use Rattle.lvdc_command_resume.specs.Reordered.{device_at, AreReordered}

clash : {b : Bool} → b ≡ true → b ≡ false → ⊥
clash is not = absurd (cc)

-- ---- requests

request-port : (request : PortRequest) (d : Device) → (after_request request d).port ≡ d.port
request-port (Read port) d = refl
request-port (Write port word) d = refl

module _ (request : PortRequest) where
  here-by : (d : Device) (ds : List Device) (b : Bool) → (d.port == port_of request) ≡ b
      → device_at (port_of request) (after_exchange request ds) ≡ option_map (after_request request) (device_at (port_of request) ds)
      → device_at (port_of request) (if b then after_request request d ∷ ds else d ∷ after_exchange request ds)
      ≡ option_map (after_request request) (if b then Some d else device_at (port_of request) ds)
  here-by d ds true is later = rw (request-port request d, is) refl
  here-by d ds false is later = rw is later

  exchange-here : (ds : List Device)
      → device_at (port_of request) (after_exchange request ds) ≡ option_map (after_request request) (device_at (port_of request) ds)
  exchange-here [] = refl
  exchange-here (d ∷ ds) = here-by d ds (d.port == port_of request) refl (exchange-here ds)

  there-by : (p : ℕ) (d : Device) (ds : List Device) (b here : Bool) → (port_of request == p) ≡ false → (d.port == port_of request) ≡ b → (d.port == p) ≡ here
      → device_at p (after_exchange request ds) ≡ device_at p ds
      → device_at p (if b then after_request request d ∷ ds else d ∷ after_exchange request ds) ≡ (if here then Some d else device_at p ds)
  there-by p d ds true true other is at later =
      absurd (clash (ap (λ (n : ℕ). n == p) (sym (eqb-true d.port (port_of request) is)) ∙ at) other)
  there-by p d ds true false other is at later = rw (request-port request d, at) refl
  there-by p d ds false true other is at later = rw at refl
  there-by p d ds false false other is at later = rw at later

  exchange-there : (p : ℕ) (ds : List Device) → (port_of request == p) ≡ false → device_at p (after_exchange request ds) ≡ device_at p ds
  exchange-there p [] other = refl
  exchange-there p (d ∷ ds) other = there-by p d ds (d.port == port_of request) (d.port == p) other refl refl (exchange-there p ds other)

  -- what the device at the port answers
  abbrev answer_at : ℕ → Option Device → ℕ
  answer_at time None = 0
  answer_at time (Some d) = answer_of request time d

  word-by : (time : ℕ) (d : Device) (ds : List Device) (b : Bool) → exchange_word request time ds ≡ answer_at time (device_at (port_of request) ds)
      → (if b then answer_of request time d else exchange_word request time ds) ≡ answer_at time (if b then Some d else device_at (port_of request) ds)
  word-by time d ds true later = refl
  word-by time d ds false later = later

  word-at : (time : ℕ) (ds : List Device) → exchange_word request time ds ≡ answer_at time (device_at (port_of request) ds)
  word-at time [] = refl
  word-at time (d ∷ ds) = word-by time d ds (d.port == port_of request) (word-at time ds)

  pub word-reordered : (time : ℕ) (old new : List Device) → AreReordered old new → exchange_word request time new ≡ exchange_word request time old
  word-reordered time old new re =
      word-at time new ∙ ap (answer_at time) (re.same (port_of request)) ∙ sym (word-at time old)

  exchange-at : (old new : List Device) → AreReordered old new → (p : ℕ) (b : Bool) → (port_of request == p) ≡ b
      → device_at p (after_exchange request new) ≡ device_at p (after_exchange request old)
  exchange-at old new re p true is =
      subst (λ (q : ℕ). device_at q (after_exchange request new) ≡ device_at q (after_exchange request old)) (eqb-true (port_of request) p is)
      (exchange-here new ∙ ap (option_map (after_request request)) (re.same (port_of request)) ∙ sym (exchange-here old))
  exchange-at old new re p false is = exchange-there p new is ∙ re.same p ∙ sym (exchange-there p old is)

  pub exchange-reordered : (old new : List Device) → AreReordered old new → AreReordered (after_exchange request old) (after_exchange request new)
  exchange-reordered old new re = record {
    distinct = distinct-exchange request old re.distinct;
    apart = distinct-exchange request new re.apart;
    same = λ p. exchange-at old new re p (port_of request == p) refl;
  }

-- ---- supplied words

module _ (supply : Supply) where
  abbrev given : Device → Device
  given d = after_supply d supply.word

  given-by : (d : Device) (ds : List Device) (b : Bool) → (d.port == supply.port) ≡ b
      → device_at supply.port (after_supply_of supply ds) ≡ option_map given (device_at supply.port ds)
      → device_at supply.port (if b then given d ∷ ds else d ∷ after_supply_of supply ds) ≡ option_map given (if b then Some d else device_at supply.port ds)
  given-by d ds true is later = rw is refl
  given-by d ds false is later = rw is later

  supply-here : (ds : List Device) → device_at supply.port (after_supply_of supply ds) ≡ option_map given (device_at supply.port ds)
  supply-here [] = refl
  supply-here (d ∷ ds) = given-by d ds (d.port == supply.port) refl (supply-here ds)

  kept-by : (p : ℕ) (d : Device) (ds : List Device) (b here : Bool) → (supply.port == p) ≡ false → (d.port == supply.port) ≡ b → (d.port == p) ≡ here
      → device_at p (after_supply_of supply ds) ≡ device_at p ds
      → device_at p (if b then given d ∷ ds else d ∷ after_supply_of supply ds) ≡ (if here then Some d else device_at p ds)
  kept-by p d ds true true other is at later = absurd (clash (ap (λ (n : ℕ). n == p) (sym (eqb-true d.port supply.port is)) ∙ at) other)
  kept-by p d ds true false other is at later = rw at refl
  kept-by p d ds false true other is at later = rw at refl
  kept-by p d ds false false other is at later = rw at later

  supply-there : (p : ℕ) (ds : List Device) → (supply.port == p) ≡ false → device_at p (after_supply_of supply ds) ≡ device_at p ds
  supply-there p [] other = refl
  supply-there p (d ∷ ds) other = kept-by p d ds (d.port == supply.port) (d.port == p) other refl refl (supply-there p ds other)

  supply-at : (old new : List Device) → AreReordered old new → (p : ℕ) (b : Bool) → (supply.port == p) ≡ b
      → device_at p (after_supply_of supply new) ≡ device_at p (after_supply_of supply old)
  supply-at old new re p true is =
      subst (λ (q : ℕ). device_at q (after_supply_of supply new) ≡ device_at q (after_supply_of supply old)) (eqb-true supply.port p is)
      (supply-here new ∙ ap (option_map given) (re.same supply.port) ∙ sym (supply-here old))
  supply-at old new re p false is = supply-there p new is ∙ re.same p ∙ sym (supply-there p old is)

  supply-reordered : (old new : List Device) → AreReordered old new → AreReordered (after_supply_of supply old) (after_supply_of supply new)
  supply-reordered old new re = record {
    distinct = distinct-ports (after_supply_of supply old) old (ports-supply supply old) re.distinct;
    apart = distinct-ports (after_supply_of supply new) new (ports-supply supply new) re.apart;
    same = λ p. supply-at old new re p (supply.port == p) refl;
  }

-- ---- kinds

kind-by : (port : ℕ) (d : Device) (ds : List Device) (b : Bool) → kind_at (λ device. device) port ds ≡ option_map (λ (device : Device). device.kind) (device_at port ds)
    → (if b then Some d.kind else kind_at (λ device. device) port ds) ≡ option_map (λ (device : Device). device.kind) (if b then Some d else device_at port ds)
kind-by port d ds true later = refl
kind-by port d ds false later = later

kind-at : (port : ℕ) (ds : List Device) → kind_at (λ device. device) port ds ≡ option_map (λ (device : Device). device.kind) (device_at port ds)
kind-at port [] = refl
kind-at port (d ∷ ds) = kind-by port d ds (d.port == port) (kind-at port ds)

pub kind-reordered : (port : ℕ) (old new : List Device) → AreReordered old new → kind_at (λ device. device) port new ≡ kind_at (λ device. device) port old
kind-reordered port old new re =
    kind-at port new ∙ ap (option_map (λ (device : Device). device.kind)) (re.same port) ∙ sym (kind-at port old)

-- ---- unplugged devices

none-by : (port : ℕ) (d : Device) (ds : List Device) (b : Bool) → (has_port (λ x. x) port ds ≡ false → device_at port ds ≡ None)
    → (if b then true else has_port (λ x. x) port ds) ≡ false → (if b then Some d else device_at port ds) ≡ None
none-by port d ds true later none = absurd (cc)
none-by port d ds false later none = later none

none-at : (port : ℕ) (ds : List Device) → has_port (λ x. x) port ds ≡ false → device_at port ds ≡ None
none-at port [] none = refl
none-at port (d ∷ ds) none = none-by port d ds (d.port == port) (none-at port ds) none

module _ (q : ℕ) where
  gone-by : (d : Device) (ds : List Device) (b : Bool) → (d.port == q) ≡ b → AreDistinct (d ∷ ds) → (AreDistinct ds → device_at q (without (λ x. x) q ds) ≡ None)
      → device_at q (if b then ds else d ∷ without (λ x. x) q ds) ≡ None
  gone-by d ds true is apart later = none-at q ds (subst (λ (n : ℕ). has_port (λ x. x) n ds ≡ false) (eqb-true d.port q is) apart.0)
  gone-by d ds false is apart later = rw is (later apart.1)

  gone-here : (ds : List Device) → AreDistinct ds → device_at q (without (λ x. x) q ds) ≡ None
  gone-here [] apart = refl
  gone-here (d ∷ ds) apart = gone-by d ds (d.port == q) refl apart (gone-here ds)

  stays-by : (p : ℕ) (d : Device) (ds : List Device) (b here : Bool) → (q == p) ≡ false → (d.port == q) ≡ b → (d.port == p) ≡ here
      → device_at p (without (λ x. x) q ds) ≡ device_at p ds
      → device_at p (if b then ds else d ∷ without (λ x. x) q ds) ≡ (if here then Some d else device_at p ds)
  stays-by p d ds true true other is at later = absurd (clash (ap (λ (n : ℕ). n == p) (sym (eqb-true d.port q is)) ∙ at) other)
  stays-by p d ds true false other is at later = refl
  stays-by p d ds false true other is at later = rw at refl
  stays-by p d ds false false other is at later = rw at later

  gone-there : (p : ℕ) (ds : List Device) → (q == p) ≡ false → device_at p (without (λ x. x) q ds) ≡ device_at p ds
  gone-there p [] other = refl
  gone-there p (d ∷ ds) other = stays-by p d ds (d.port == q) (d.port == p) other refl refl (gone-there p ds other)

  without-at : (old new : List Device) → AreReordered old new → (p : ℕ) (b : Bool) → (q == p) ≡ b
      → device_at p (without (λ x. x) q new) ≡ device_at p (without (λ x. x) q old)
  without-at old new re p true is =
      subst (λ (n : ℕ). device_at n (without (λ x. x) q new) ≡ device_at n (without (λ x. x) q old)) (eqb-true q p is)
      (gone-here new re.apart ∙ sym (gone-here old re.distinct))
  without-at old new re p false is = gone-there p new is ∙ re.same p ∙ sym (gone-there p old is)

  without-reordered : (old new : List Device) → AreReordered old new → AreReordered (without (λ x. x) q old) (without (λ x. x) q new)
  without-reordered old new re = record {
    distinct = distinct-without q old re.distinct;
    apart = distinct-without q new re.apart;
    same = λ p. without-at old new re p (q == p) refl;
  }

if-reordered : (b : Bool) (q : ℕ) (old new : List Device) → AreReordered old new
    → AreReordered (if b then without (λ x. x) q old else old) (if b then without (λ x. x) q new else new)
if-reordered true q old new re = without-reordered q old new re
if-reordered false q old new re = re

pub left-reordered : (lines : List Unplug) (time : ℕ) (old new : List Device) → AreReordered old new
    → AreReordered (left_at (λ device. device) lines time old) (left_at (λ device. device) lines time new)
left-reordered [] time old new re = re
left-reordered (line ∷ lines) time old new re =
    left-reordered lines time (if line.time == time then without (λ x. x) line.port old else old) (if line.time == time then without (λ x. x) line.port new else new)
    (if-reordered (line.time == time) line.port old new re)

before-reordered : (lines : List Unplug) (times : ℕ) (old new : List Device) → AreReordered old new
    → AreReordered (left_before lines times old) (left_before lines times new)
before-reordered [] times old new re = re
before-reordered (line ∷ lines) times old new re =
    before-reordered lines times (if nat_lt line.time times then without (λ x. x) line.port old else old)
    (if nat_lt line.time times then without (λ x. x) line.port new else new) (if-reordered (nat_lt line.time times) line.port old new re)

-- ---- words of a state

state-by : (kind : Option Kind) (state : Supply) (old new : List Device) → AreReordered old new
    → AreReordered (after_state_by kind state old) (after_state_by kind state new)
state-by (Some Tape) state old new re = supply-reordered state old new re
state-by (Some Latch) state old new re = exchange-reordered (Write state.port state.word) old new re
state-by (Some Ticker) state old new re = exchange-reordered (Write state.port state.word) old new re
state-by (Some Recorder) state old new re = exchange-reordered (Write state.port state.word) old new re
state-by None state old new re = exchange-reordered (Write state.port state.word) old new re

state-reordered : (state : Supply) (old new : List Device) → AreReordered old new → AreReordered (after_state state old) (after_state state new)
state-reordered state old new re =
    subst (λ (kind : Option Kind). AreReordered (after_state state old) (after_state_by kind state new)) (sym (kind-reordered state.port old new re))
    (state-by (kind_at (λ device. device) state.port old) state old new re)

states-reordered : (states : List Supply) (old new : List Device) → AreReordered old new → AreReordered (with_states states old) (with_states states new)
states-reordered [] old new re = re
states-reordered (state ∷ states) old new re =
    states-reordered states (after_state state old) (after_state state new) (state-reordered state old new re)

-- the devices of a saved run
pub saved-reordered : (s : Saved) (old new : List Device) → AreReordered old new → AreReordered (devices_of s old) (devices_of s new)
saved-reordered s old new re =
    states-reordered s.states (left_of s old) (left_of s new) (before-reordered s.unplugs (s.snapshot.steps / 3) old new re)
