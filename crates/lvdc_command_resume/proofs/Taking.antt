-- The devices while they take the words of their states.
use Rattle.std.proofs.Common.{◌≡◌, ◌≢◌, ℕ, ◌+◌, ◌-◌, ◌<◌, ◌==◌, if◌then◌else◌, List, [], ◌∷◌, ◌++◌, length, get_or, take, slice_get, true, false, map, None, Some, Result, Ok, Err, IfErr, refl, sym, ap, ◌∙◌, subst, arith}
use Rattle.std.specs.declared.option.Option.{Option}
use Rattle.std.proofs.lemmas.List.{take_more}
use Rattle.lvdc_port.specs.Causes.{Rose}
use Rattle.lvdc_port.specs.Device.{Device, after_write}
use Rattle.lvdc_port.specs.Devices.{after_exchange, has_port, count_at, OthersKept, HasSpare, AreDistinct}
use Rattle.lvdc_port.specs.Supplies.{kind_at, after_supply_of, ports_of}
use Rattle.lvdc_port.specs.declared.device.Kind.{Kind}
use Rattle.lvdc_port.specs.declared.device.Kind.TheVariants.{Tape, Latch, Ticker, Recorder}
use Rattle.lvdc_port.specs.declared.requests.PortRequest.TheVariants.{Write}
use Rattle.lvdc_port.specs.declared.requests.Supply.{Supply}
use Rattle.lvdc_port.proofs.Lists.{has-map, rose-has}
use Rattle.lvdc_port.proofs.Supplied.{kind-map, ports-supply, distinct-ports}
use Rattle.lvdc_plain.proofs.Causes.{since-more}
use Rattle.lvdc_plain.proofs.Lefts.{others-in}
use Rattle.lvdc_plain.specs.Lists.{Since}
use Rattle.lvdc_plain.specs.declared.records.Unplug.{Unplug}
use Rattle.lvdc_port.proofs.Lists.{count-same}
use Rattle.lvdc_command_resume.specs.declared.restore.Unrestored.{Unrestored}
use Rattle.lvdc_command_resume.specs.declared.restore.Unrestored.TheVariants.{NoMemory, Failed}
use Rattle.lvdc_command_resume.specs.Restore.{left_before, after_state_by, after_state, with_states, HasFailed, HasRefused, HaveTaken, HaveRefused}

-- ---- ports

ports-write : (port word : ℕ) (ds : List Device) → ports_of (after_exchange (Write port word) ds) ≡ ports_of ds
ports-write port word [] = refl
ports-write port word (d ∷ ds) =
    elim (d.port == port) as (λ t. ports_of (if t then after_write d word ∷ ds else d ∷ after_exchange (Write port word) ds) ≡ d.port ∷ ports_of ds)
    [ true ↦ refl | false ↦ ap (λ (ps : List ℕ). d.port ∷ ps) (ports-write port word ds) ]

ports-state_by : (kind : Option Kind) (state : Supply) (ds : List Device) → ports_of (after_state_by kind state ds) ≡ ports_of ds
ports-state_by None state ds = ports-write state.port state.word ds
ports-state_by (Some Tape) state ds = ports-supply state ds
ports-state_by (Some Latch) state ds = ports-write state.port state.word ds
ports-state_by (Some Ticker) state ds = ports-write state.port state.word ds
ports-state_by (Some Recorder) state ds = ports-write state.port state.word ds

-- no word changes a port
ports-state : (state : Supply) (ds : List Device) → ports_of (after_state state ds) ≡ ports_of ds
ports-state state ds = ports-state_by (kind_at (λ d. d) state.port ds) state ds

pub ports-states : (states : List Supply) (ds : List Device) → ports_of (with_states states ds) ≡ ports_of ds
ports-states [] ds = refl
ports-states (state ∷ states) ds = ports-states states (after_state state ds) ∙ ports-state state ds

pub distinct-states : (states : List Supply) (ds : List Device) → AreDistinct ds → AreDistinct (with_states states ds)
distinct-states states ds apart = distinct-ports (with_states states ds) ds (ports-states states ds) apart

has-ports : (port : ℕ) (xs ys : List Device) → ports_of xs ≡ ports_of ys → has_port (λ d. d) port xs ≡ has_port (λ d. d) port ys
has-ports port [] [] e = refl
has-ports port [] (y ∷ ys) e = absurd (cc)
has-ports port (x ∷ xs) [] e = absurd (cc)
has-ports port (x ∷ xs) (y ∷ ys) e =
    let place : x.port ≡ y.port = cc in
    let later : ports_of xs ≡ ports_of ys = cc in
    let rest = has-ports port xs ys later in
    λ i. if place i == port then true else rest i

-- lists of boxes with the same ports have devices at the same ports
pub has-same : {B : Type 0} (device_of : B → Device) (olds news : List B) → ports_of (map device_of news) ≡ ports_of (map device_of olds) → (port : ℕ)
    → has_port device_of port news ≡ true → has_port device_of port olds ≡ true
has-same device_of olds news same port has =
    has-map device_of port olds ∙ sym (has-ports port (map device_of news) (map device_of olds) same) ∙ sym (has-map device_of port news) ∙ has

-- ---- counts

-- devices with the same ports and the same counts, one by one: nothing has grown
pub since-same : {B : Type 0} (device_of : B → Device) (count : B → ℕ) (olds news : List B)
    → ports_of (map device_of news) ≡ ports_of (map device_of olds) → map count news ≡ map count olds → Since device_of count olds news
since-same device_of count olds news ports counts = record {
  left = has-same device_of olds news ports;
  counts = λ port has. count-same device_of count port news olds ports counts;
}

-- and nothing has grown since before
pub since-both : {B : Type 0} {device_of : B → Device} {count : B → ℕ} {old mid new : List B} → Since device_of count old mid → Since device_of count mid new
    → Since device_of count old new
since-both {new = new} h k = since-more h new k.left k.counts

-- ---- one word

-- a word that is supplied to a tape
pub state-supplied : {B : Type 0} (device_of : B → Device) (state : Supply) (olds : List B) (now : List Device)
    → kind_at device_of state.port olds ≡ Some Tape → now ≡ after_supply_of state (map device_of olds) → now ≡ after_state state (map device_of olds)
state-supplied device_of state olds now tape is =
    is ∙ ap (λ (k : Option Kind). after_state_by k state (map device_of olds)) (sym (sym (kind-map device_of state.port olds) ∙ tape))

written-by : (kind : Option Kind) (state : Supply) (ds : List Device) → kind ≢ Some Tape
    → after_exchange (Write state.port state.word) ds ≡ after_state_by kind state ds
written-by None state ds other = refl
written-by (Some Tape) state ds other = absurd (other refl)
written-by (Some Latch) state ds other = refl
written-by (Some Ticker) state ds other = refl
written-by (Some Recorder) state ds other = refl

kind-plain : {B : Type 0} (device_of : B → Device) (port : ℕ) (bs : List B) → kind_at device_of port bs ≢ Some Tape
    → kind_at (λ d. d) port (map device_of bs) ≢ Some Tape
kind-plain device_of port bs other = λ tape. other (kind-map device_of port bs ∙ tape)

-- a word that is written to another device
pub state-written : {B : Type 0} (device_of : B → Device) (state : Supply) (olds : List B) (now : List Device)
    → kind_at device_of state.port olds ≢ Some Tape → now ≡ after_exchange (Write state.port state.word) (map device_of olds)
    → now ≡ after_state state (map device_of olds)
state-written device_of state olds now other is =
    is ∙ written-by (kind_at (λ d. d) state.port (map device_of olds)) state (map device_of olds) (kind-plain device_of state.port olds other)

-- its ports are those before it
pub state-ports : {B : Type 0} (device_of : B → Device) (state : Supply) (olds news : List B) → map device_of news ≡ after_state state (map device_of olds)
    → ports_of (map device_of news) ≡ ports_of (map device_of olds)
state-ports device_of state olds news is = ap ports_of is ∙ ports-state state (map device_of olds)

-- the device has failed
pub has-failed : {B : Type 0} (device_of : B → Device) (faults : B → ℕ) (port named grown : ℕ) (olds news : List B) → named ≡ port
    → grown ≡ count_at device_of faults named news → Rose (count_at device_of faults named olds) grown → OthersKept device_of port olds news
    → map device_of news ≡ map device_of olds → kind_at device_of port olds ≢ Some Tape → HasRefused device_of faults port (Failed named) olds news
has-failed device_of faults port named grown olds news is counted rose kept same other = (
  is,
  record {
    kind = subst (λ ds. kind_at (λ d. d) port ds ≢ Some Tape) (sym same) (kind-plain device_of port olds other);
    rose = subst (λ p. Rose (count_at device_of faults p olds) (count_at device_of faults p news)) is
        (subst (λ n. Rose (count_at device_of faults named olds) n) counted rose);
    others = λ q apart has. others-in olds news device_of faults is q kept same (λ e. apart (e ∙ is));
  },
)

-- ---- one word after the other

states-behind : (firsts lasts : List Supply) (ds : List Device) → with_states (firsts ++ lasts) ds ≡ with_states lasts (with_states firsts ds)
states-behind [] lasts ds = refl
states-behind (state ∷ firsts) lasts ds = states-behind firsts lasts (after_state state ds)

pub states-more : (states : List Supply) (i : ℕ) (state : Supply) (start so_far now : List Device) → i < length states
    → state ≡ get_or states i state → now ≡ after_state state so_far → so_far ≡ with_states (take i states) start
    → now ≡ with_states (take (i + 1) states) start
states-more states i state start so_far now within is does before =
    does ∙ ap (λ ds. after_state state ds) before
    ∙ ap (λ s. after_state s (with_states (take i states) start)) is
    ∙ sym (states-behind (take i states) (get_or states i state ∷ []) start)
    ∙ ap (λ ss. with_states ss start) (sym (take_more states i state within))

-- a device that fails has failed since before
since-failed : {B : Type 0} {device_of : B → Device} {faults : B → ℕ} {port : ℕ} {old mid new : List B} → Since device_of faults old mid
    → ((p : ℕ) → has_port device_of p new ≡ true → has_port device_of p mid ≡ true) → HasFailed device_of faults port mid new
    → HasFailed device_of faults port old new
since-failed {device_of = device_of} {faults = faults} {port = port} {mid = mid} {new = new} h left f = record {
  kind = f.kind;
  rose = subst (λ n. Rose n (count_at device_of faults port new))
      (h.counts port (left port (rose-has device_of faults port (count_at device_of faults port mid) new f.rose))) f.rose;
  others = λ other apart has. f.others other apart has ∙ h.counts other (left other has);
}

-- the devices have taken the words before one that is refused
pub refused-next : {B : Type 0} (device_of : B → Device) (faults : B → ℕ) (states : List Supply) (start : List Device) (i : ℕ) (next : Supply) (e : Unrestored)
    (old mid new : List B) → slice_get states i ≡ Some next → map device_of mid ≡ with_states (take i states) start → Since device_of faults old mid
    → map device_of new ≡ map device_of mid → HasRefused device_of faults next.port e mid new → HaveRefused device_of faults states start e old new
refused-next device_of faults states start i next NoMemory old mid new is so_far h same quiet = (
  record { count = i; devices = same ∙ so_far },
  λ port has. quiet port has ∙ h.counts port (has-same device_of mid new (ap ports_of same) port has),
)
refused-next device_of faults states start i next (Failed named) old mid new is so_far h same failed =
    record {
      index = i;
      word = next.word;
      next = is ∙ ap (λ (p : ℕ). Some (record { port = p; word = next.word })) (sym failed.0);
      devices = same ∙ so_far;
      failed = subst (λ (p : ℕ). HasFailed device_of faults p old new) (sym failed.0)
          (since-failed h (has-same device_of mid new (ap ports_of same)) failed.1);
    }

-- the same since before they were to take any
refused-before : {B : Type 0} (device_of : B → Device) (faults : B → ℕ) (states : List Supply) (start : List Device) (e : Unrestored) (old mid new : List B)
    → Since device_of faults old mid → map device_of mid ≡ start → HaveRefused device_of faults states (map device_of mid) e mid new
    → HaveRefused device_of faults states start e old new
refused-before device_of faults states start NoMemory old mid new h is (taken, quiet) =
    let ports : ports_of (map device_of new) ≡ ports_of (map device_of mid) = ap ports_of taken.devices ∙ ports-states (take taken.count states) (map device_of mid) in (
      record { count = taken.count; devices = taken.devices ∙ ap (λ ds. with_states (take taken.count states) ds) is },
      λ port has. quiet port has ∙ h.counts port (has-same device_of mid new ports port has),
    )
refused-before device_of faults states start (Failed port) old mid new h is f =
    let ports : ports_of (map device_of new) ≡ ports_of (map device_of mid) = ap ports_of f.devices ∙ ports-states (take f.index states) (map device_of mid) in
    record {
      index = f.index;
      word = f.word;
      next = f.next;
      devices = f.devices ∙ ap (λ ds. with_states (take f.index states) ds) is;
      failed = since-failed h (has-same device_of mid new ports) f.failed;
    }

-- room for the words that are left is room for the next one and those after it
pub next-room : {B : Type 0} (spare : B → ℕ) (all i : ℕ) (bs : List B) → i < all → HasSpare spare (all - i) bs → HasSpare spare (all - (i + 1) + 1) bs
next-room spare all i bs less room = let same : all - i ≡ all - (i + 1) + 1 = omega (arith, less) in subst (λ n. HasSpare spare n bs) same room

-- nothing was taken
pub taken-none : (states : List Supply) (start now : List Device) → now ≡ start → HaveTaken states start now
taken-none states start now is = record { count = 0; devices = is }

-- devices that have taken all stay distinct
pub distinct-given : {B : Type 0} (device_of : B → Device) (states : List Supply) (mid new : List B) (start : List Device) → map device_of mid ≡ start
    → AreDistinct start → map device_of new ≡ with_states states (map device_of mid) → AreDistinct (map device_of new)
distinct-given device_of states mid new start is apart taken =
    subst AreDistinct (sym (taken ∙ ap (λ ds. with_states states ds) is)) (distinct-states states start apart)

-- what follows of an error
pub if_err_weaker : {A E : Type 0} (result : Result A E) (P Q : E → Type 0) → ((e : E) → P e → Q e) → IfErr result P → IfErr result Q
if_err_weaker (Ok a) P Q f h = h
if_err_weaker (Err e) P Q f h = f e h

-- what is left where the words of a list that is this one weren't all taken
pub refused-since : {B : Type 0} (device_of : B → Device) (faults : B → ℕ) (states given : List Supply) (start : List Device) (e : Unrestored) (old mid new : List B)
    → given ≡ states → Since device_of faults old mid → map device_of mid ≡ start → HaveRefused device_of faults given (map device_of mid) e mid new
    → HaveRefused device_of faults states start e old new
refused-since device_of faults states given start e old mid new same h is r =
    refused-before device_of faults states start e old mid new h is
    (subst (λ (x : List Supply). HaveRefused device_of faults x (map device_of mid) e mid new) same r)

-- the same of a list that is this one
pub refused-given : {B : Type 0} (device_of : B → Device) (faults : B → ℕ) (states given : List Supply) (start : List Device) (e : Unrestored) (old new : List B)
    → given ≡ states → HaveRefused device_of faults given start e old new → HaveRefused device_of faults states start e old new
refused-given device_of faults states given start e old new same r =
    subst (λ (x : List Supply). HaveRefused device_of faults x start e old new) same r

-- the lines of a list that is this one leave the same devices
pub left-same : (unplugs given : List Unplug) (times : ℕ) (start now : List Device) → given ≡ unplugs → now ≡ left_before given times start
    → now ≡ left_before unplugs times start
left-same unplugs given times start now same is = is ∙ ap (λ (lines : List Unplug). left_before lines times start) same
