-- What devices are told that are given the words of their states.
use Rattle.std.proofs.Common.{◌≡◌, ◌≢◌, ℕ, ◌+◌, ◌<◌, ◌≤◌, ◌==◌, if◌then◌else◌, List, [], ◌∷◌, ◌++◌, length, get_or, take, Bool, true, false, map, None, Some, Result, Ok, Err, OnOk, refl, sym, ap, ◌∙◌, subst}
use Rattle.std.specs.declared.option.Option.{Option}
use Rattle.std.proofs.lemmas.Bool.{eqb-true, eqb-false}
use Rattle.std.proofs.lemmas.List.{take_all, take_more}
use Rattle.lvdc_port.specs.Causes.{never}
use Rattle.lvdc_port.specs.Device.{Device, after_write, after_supply}
use Rattle.lvdc_port.specs.Devices.{after_exchange, has_port, count_at, OthersKept}
use Rattle.lvdc_port.specs.Supplies.{kind_at, after_supply_of, ports_of}
use Rattle.lvdc_port.specs.Times.{told_at}
use Rattle.lvdc_port.specs.declared.device.Kind.{Kind}
use Rattle.lvdc_port.specs.declared.device.Kind.TheVariants.{Tape, Latch, Ticker, Recorder}
use Rattle.lvdc_port.specs.declared.requests.PortRequest.TheVariants.{Write}
use Rattle.lvdc_port.specs.declared.requests.Supply.{Supply}
use Rattle.lvdc_port.proofs.Supplied.{kind-map}
use Rattle.lvdc_plain.specs.Lists.{Since}
use Rattle.lvdc_command_resume.specs.Restore.{after_state_by, after_state, has_word, is_written, WereTold}
use Rattle.lvdc_command_resume.proofs.Taking.{has-same, state-ports}

-- ---- kinds

kind-write : (p port word : ℕ) (ds : List Device) → kind_at (λ d. d) p (after_exchange (Write port word) ds) ≡ kind_at (λ d. d) p ds
kind-write p port word [] = refl
kind-write p port word (d ∷ ds) =
    elim (d.port == port) as (λ t. kind_at (λ x. x) p (if t then after_write d word ∷ ds else d ∷ after_exchange (Write port word) ds)
    ≡ (if d.port == p then Some d.kind else kind_at (λ x. x) p ds))
    [ true ↦ refl | false ↦ ap (λ (k : Option Kind). if d.port == p then Some d.kind else k) (kind-write p port word ds) ]

kind-supply : (p : ℕ) (supply : Supply) (ds : List Device) → kind_at (λ d. d) p (after_supply_of supply ds) ≡ kind_at (λ d. d) p ds
kind-supply p supply [] = refl
kind-supply p supply (d ∷ ds) =
    elim (d.port == supply.port) as (λ t. kind_at (λ x. x) p (if t then after_supply d supply.word ∷ ds else d ∷ after_supply_of supply ds)
    ≡ (if d.port == p then Some d.kind else kind_at (λ x. x) p ds))
    [ true ↦ refl | false ↦ ap (λ (k : Option Kind). if d.port == p then Some d.kind else k) (kind-supply p supply ds) ]

kind-state_by : (kind : Option Kind) (p : ℕ) (state : Supply) (ds : List Device) → kind_at (λ d. d) p (after_state_by kind state ds) ≡ kind_at (λ d. d) p ds
kind-state_by None p state ds = kind-write p state.port state.word ds
kind-state_by (Some Tape) p state ds = kind-supply p state ds
kind-state_by (Some Latch) p state ds = kind-write p state.port state.word ds
kind-state_by (Some Ticker) p state ds = kind-write p state.port state.word ds
kind-state_by (Some Recorder) p state ds = kind-write p state.port state.word ds

-- no word changes a kind
kind-state : {B : Type 0} (device_of : B → Device) (p : ℕ) (state : Supply) (olds news : List B) → map device_of news ≡ after_state state (map device_of olds)
    → kind_at device_of p news ≡ kind_at device_of p olds
kind-state device_of p state olds news is =
    kind-map device_of p news ∙ ap (λ ds. kind_at (λ d. d) p ds) is
    ∙ kind-state_by (kind_at (λ d. d) state.port (map device_of olds)) p state (map device_of olds) ∙ sym (kind-map device_of p olds)

-- ---- whether one is written

written-some : (kind : Option Kind) (port : ℕ) (states : List Supply) → kind ≢ Some Tape → is_written kind port states ≡ has_word port states
written-some None port states other = refl
written-some (Some Tape) port states other = absurd (other refl)
written-some (Some Latch) port states other = refl
written-some (Some Ticker) port states other = refl
written-some (Some Recorder) port states other = refl

written-none : (kind : Option Kind) (port : ℕ) (states : List Supply) → has_word port states ≡ false → is_written kind port states ≡ false
written-none None port states none = none
written-none (Some Tape) port states none = refl
written-none (Some Latch) port states none = none
written-none (Some Ticker) port states none = none
written-none (Some Recorder) port states none = none

has_word-behind : (port : ℕ) (firsts lasts : List Supply) → has_word port (firsts ++ lasts) ≡ (if has_word port firsts then true else has_word port lasts)
has_word-behind port [] lasts = refl
has_word-behind port (state ∷ firsts) lasts =
    elim (state.port == port) as (λ t. (if t then true else has_word port (firsts ++ lasts))
    ≡ (if (if t then true else has_word port firsts) then true else has_word port lasts))
    [ true ↦ refl | false ↦ has_word-behind port firsts lasts ]

written-behind : (kind : Option Kind) (port : ℕ) (firsts lasts : List Supply)
    → is_written kind port (firsts ++ lasts) ≡ (if is_written kind port firsts then true else is_written kind port lasts)
written-behind None port firsts lasts = has_word-behind port firsts lasts
written-behind (Some Tape) port firsts lasts = refl
written-behind (Some Latch) port firsts lasts = has_word-behind port firsts lasts
written-behind (Some Ticker) port firsts lasts = has_word-behind port firsts lasts
written-behind (Some Recorder) port firsts lasts = has_word-behind port firsts lasts

-- ---- what a device is told

-- the time that a device has been told of these words, where one of them was written to it or none was
abbrev told_if : Bool → ℕ → ℕ → ℕ
told_if written time before = if written then told_at time before else before

told-same : (time : ℕ) (t : Bool) → (time == never) ≡ t → told_at time time ≡ time
told-same time true is = ap (λ (t : Bool). if t then never else time) is ∙ sym (eqb-true time never is)
told-same time false is = ap (λ (t : Bool). if t then never else time) is

-- to be told a time twice is to be told it once
told-twice : (time before : ℕ) → told_at time (told_at time before) ≡ told_at time before
told-twice time before =
    elim (before == never) as (λ t. told_at time (if t then never else time) ≡ (if t then never else time))
    [ true ↦ refl | false ↦ told-same time (time == never) refl ]

told-again : (first last : Bool) (time before : ℕ) → told_if last time (told_if first time before) ≡ told_if (if first then true else last) time before
told-again true true time before = told-twice time before
told-again true false time before = refl
told-again false true time before = refl
told-again false false time before = refl

-- ---- one word

told-head : {B : Type 0} (device_of : B → Device) (told : B → ℕ) (port other later : ℕ) (old new : B) → ((device_of old).port ≢ port → new ≡ old)
    → other ≢ port → (t : Bool) → ((device_of old).port == other) ≡ t → (if t then told new else later) ≡ (if t then told old else later)
told-head device_of told port other later old new kept apart true is =
    ap told (kept (λ e. apart (sym (eqb-true (device_of old).port other is) ∙ e)))
told-head device_of told port other later old new kept apart false is = refl

-- the devices at other ports keep what they were told
told-others : {B : Type 0} (device_of : B → Device) (told : B → ℕ) (port other : ℕ) (olds news : List B) → OthersKept device_of port olds news
    → ports_of (map device_of news) ≡ ports_of (map device_of olds) → other ≢ port
    → count_at device_of told other news ≡ count_at device_of told other olds
told-others device_of told port other [] [] kept same apart = refl
told-others device_of told port other [] (new ∷ news) kept same apart = absurd kept
told-others device_of told port other (old ∷ olds) [] kept same apart = absurd kept
told-others device_of told port other (old ∷ olds) (new ∷ news) kept same apart =
    let place : (device_of new).port ≡ (device_of old).port = cc in
    let ports : ports_of (map device_of news) ≡ ports_of (map device_of olds) = cc in
    let later : count_at device_of told other news ≡ count_at device_of told other olds = told-others device_of told port other olds news kept.1 ports apart in
    (λ i. if place i == other then told new else later i)
    ∙ told-head device_of told port other (count_at device_of told other olds) old new kept.0 apart ((device_of old).port == other) refl

written-at : {B : Type 0} (device_of : B → Device) (told : B → ℕ) (time : ℕ) (state : Supply) (olds news : List B) (port : ℕ) (t : Bool) → (state.port == port) ≡ t
    → kind_at device_of state.port olds ≢ Some Tape → map device_of news ≡ after_state state (map device_of olds)
    → count_at device_of told state.port news ≡ told_at time (count_at device_of told state.port olds) → OthersKept device_of state.port olds news
    → count_at device_of told port news ≡ told_if (is_written (kind_at device_of port news) port (state ∷ [])) time (count_at device_of told port olds)
written-at device_of told time state olds news port true is other taken tells kept =
    let here : state.port ≡ port = eqb-true state.port port is in
    let kind : kind_at device_of port news ≢ Some Tape = λ tape. other (ap (λ p. kind_at device_of p olds) here ∙ sym (kind-state device_of port state olds news taken) ∙ tape) in
    let has : has_word port (state ∷ []) ≡ true = ap (λ (t : Bool). if t then true else false) is in
    subst (λ p. count_at device_of told p news ≡ told_at time (count_at device_of told p olds)) here tells
    ∙ ap (λ (w : Bool). told_if w time (count_at device_of told port olds)) (sym (written-some (kind_at device_of port news) port (state ∷ []) kind ∙ has))
written-at device_of told time state olds news port false is other taken tells kept =
    let none : has_word port (state ∷ []) ≡ false = ap (λ (t : Bool). if t then true else false) is in
    told-others device_of told state.port port olds news kept (state-ports device_of state olds news taken)
    (λ e. eqb-false state.port port is (sym e))
    ∙ ap (λ (w : Bool). told_if w time (count_at device_of told port olds)) (sym (written-none (kind_at device_of port news) port (state ∷ []) none))

-- a word that is written tells its device the time
pub were-written : {B : Type 0} (device_of : B → Device) (told : B → ℕ) (time : ℕ) (state : Supply) (olds news : List B)
    → kind_at device_of state.port olds ≢ Some Tape → map device_of news ≡ after_state state (map device_of olds)
    → count_at device_of told state.port news ≡ told_at time (count_at device_of told state.port olds) → OthersKept device_of state.port olds news
    → WereTold device_of told time (state ∷ []) olds news
were-written device_of told time state olds news other taken tells kept =
    record { times = λ port has. written-at device_of told time state olds news port (state.port == port) refl other taken tells kept }

supplied-at : {B : Type 0} (device_of : B → Device) (state : Supply) (olds news : List B) (port : ℕ) (t : Bool) → (state.port == port) ≡ t
    → kind_at device_of state.port olds ≡ Some Tape → map device_of news ≡ after_state state (map device_of olds)
    → is_written (kind_at device_of port news) port (state ∷ []) ≡ false
supplied-at device_of state olds news port true is tape taken =
    ap (λ (k : Option Kind). is_written k port (state ∷ []))
    (kind-state device_of port state olds news taken ∙ ap (λ p. kind_at device_of p olds) (sym (eqb-true state.port port is)) ∙ tape)
supplied-at device_of state olds news port false is tape taken =
    written-none (kind_at device_of port news) port (state ∷ []) (ap (λ (t : Bool). if t then true else false) is)

-- one that is supplied tells nothing
pub were-supplied : {B : Type 0} (device_of : B → Device) (told : B → ℕ) (time : ℕ) (state : Supply) (olds news : List B)
    → kind_at device_of state.port olds ≡ Some Tape → map device_of news ≡ after_state state (map device_of olds) → Since device_of told olds news
    → WereTold device_of told time (state ∷ []) olds news
were-supplied device_of told time state olds news tape taken since = record {
  times = λ port has. since.counts port has
      ∙ ap (λ (w : Bool). told_if w time (count_at device_of told port olds)) (sym (supplied-at device_of state olds news port (state.port == port) refl tape taken));
}

-- ---- one word after the other

-- words behind others
were-behind : {B : Type 0} (device_of : B → Device) (told : B → ℕ) (time : ℕ) (firsts : List Supply) (state : Supply) (old mid new : List B)
    → map device_of new ≡ after_state state (map device_of mid) → WereTold device_of told time firsts old mid
    → WereTold device_of told time (state ∷ []) mid new → WereTold device_of told time (firsts ++ state ∷ []) old new
were-behind device_of told time firsts state old mid new taken before after = record {
  times = λ port has.
      let left : has_port device_of port mid ≡ true = has-same device_of mid new (state-ports device_of state mid new taken) port has in
      let told_first = before.times port left ∙ ap (λ (k : Option Kind). told_if (is_written k port firsts) time (count_at device_of told port old))
      (sym (kind-state device_of port state mid new taken)) in
      after.times port has
      ∙ ap (λ (n : ℕ). told_if (is_written (kind_at device_of port new) port (state ∷ [])) time n) told_first
      ∙ told-again (is_written (kind_at device_of port new) port firsts) (is_written (kind_at device_of port new) port (state ∷ [])) time (count_at device_of told port old)
      ∙ ap (λ (w : Bool). told_if w time (count_at device_of told port old)) (sym (written-behind (kind_at device_of port new) port firsts (state ∷ [])));
}

-- one more word of a list
pub were-more : {B : Type 0} (device_of : B → Device) (told : B → ℕ) (time : ℕ) (states : List Supply) (i : ℕ) (state : Supply) (old mid new : List B)
    → i < length states → state ≡ get_or states i state → map device_of new ≡ after_state state (map device_of mid)
    → WereTold device_of told time (take i states) old mid → WereTold device_of told time (state ∷ []) mid new
    → WereTold device_of told time (take (i + 1) states) old new
were-more device_of told time states i state old mid new within is taken before after =
    subst (λ (given : List Supply). WereTold device_of told time given old new)
    (ap (λ s. take i states ++ s ∷ []) is ∙ sym (take_more states i state within))
    (were-behind device_of told time (take i states) state old mid new taken before after)

-- the words of a whole list that is this one
pub were-all : {B : Type 0} (device_of : B → Device) (told : B → ℕ) (time : ℕ) (states given : List Supply) (i : ℕ) (old new : List B) → given ≡ states → length given ≤ i
    → WereTold device_of told time (take i given) old new → WereTold device_of told time states old new
were-all device_of told time states given i old new is past were =
    subst (λ (g : List Supply). WereTold device_of told time g old new) (take_all i given past ∙ is) were

-- what follows of two facts of a success
pub on-ok-two : {T E : Type 0} (result : Result T E) {P Q R : Type 0} → (P → Q → R) → OnOk result P → OnOk result Q → OnOk result R
on-ok-two (Ok value) f p q = f p q
on-ok-two (Err e) f p q = tt

-- the same of devices that were told nothing since before, of a list that is this one, and of a time that is this one
pub were-since : {B : Type 0} (device_of : B → Device) (told : B → ℕ) (time at : ℕ) (states given : List Supply) (old mid new : List B) → at ≡ time → given ≡ states
    → Since device_of told old mid → ((port : ℕ) → has_port device_of port new ≡ true → has_port device_of port mid ≡ true)
    → WereTold device_of told at given mid new → WereTold device_of told time states old new
were-since device_of told time at states given old mid new same is since left were =
    subst (λ (t : ℕ). WereTold device_of told t states old new) same
    (subst (λ (g : List Supply). WereTold device_of told at g old new) is (record {
      times = λ port has. were.times port has
          ∙ ap (λ (n : ℕ). told_if (is_written (kind_at device_of port new) port given) at n) (since.counts port (left port has));
    }))
