-- Which kinds a list of devices has, and what words for tapes leave of it.
use Rattle.std.proofs.Common.{◌≡◌, ℕ, zero, suc, ◌+◌, ◌<◌, ◌==◌, length, take, List, [], ◌∷◌, ◌++◌, Bool, true, false, get_or, map, refl, sym, ◌∙◌, ap, subst, arith}
use Rattle.std.specs.Bool.{if◌then◌else◌}
use Rattle.std.specs.declared.option.Option.{Option}
use Rattle.std.specs.declared.option.Option.TheVariants.{None, Some}
use Rattle.std.proofs.Math.ListN.{set}
use Rattle.std.proofs.lemmas.Bool.{eq-eqb}
use Rattle.std.proofs.lemmas.List.{take_more}
use borrow.Author.Tests.{ne_eqb}
use Rattle.lvdc_port.specs.Device.{Device, after_supply}
use Rattle.lvdc_port.specs.Devices.{has_port, AreDistinct}
use Rattle.lvdc_port.specs.Places.{NoneHas, FirstHas, Lacks, IsFirstAt}
use Rattle.lvdc_port.specs.Supplies.{kind_at, after_supply_of, supplied, ports_of, kinds_of, HasRecorder}
use Rattle.lvdc_port.specs.declared.device.Kind.{Kind}
use Rattle.lvdc_port.specs.declared.device.Kind.TheVariants.{Recorder}
use Rattle.lvdc_port.specs.declared.requests.Supply.{Supply}

-- the kind at a port is that of the first member there
kind-first : {B : Type 0} (device_of : B → Device) (port : ℕ) (bs : List B) (at : ℕ) (old : B) →
    FirstHas device_of port bs at → old ≡ get_or bs at old → kind_at device_of port bs ≡ Some (device_of old).kind
kind-first device_of port [] at old first is = absurd first
kind-first device_of port (b ∷ bs) zero old first is =
    rw (eq-eqb (device_of b).port port first) (ap (λ y. Some (device_of y).kind) (sym is))
kind-first device_of port (b ∷ bs) (suc at) old first is =
    rw (ne_eqb (device_of b).port port first.0) (kind-first device_of port bs at old first.1 is)

kind-lacking : {B : Type 0} (device_of : B → Device) (port : ℕ) (bs : List B) →
    NoneHas device_of port bs → kind_at device_of port bs ≡ None
kind-lacking device_of port [] none = refl
kind-lacking device_of port (b ∷ bs) none =
    rw (ne_eqb (device_of b).port port none.0) (kind-lacking device_of port bs none.1)

pub kind_first : {B : Type 0} {device_of : B → Device} {port : ℕ} {bs : List B} {at : ℕ} (old : B) →
    IsFirstAt device_of port bs at → old ≡ get_or bs at old → kind_at device_of port bs ≡ Some (device_of old).kind
kind_first {device_of = device_of} {port = port} {bs = bs} {at = at} old h is = kind-first device_of port bs at old h.first is

pub kind_lacking : {B : Type 0} {device_of : B → Device} {port : ℕ} {bs : List B} →
    Lacks device_of port bs → kind_at device_of port bs ≡ None
kind_lacking {device_of = device_of} {port = port} {bs = bs} h = kind-lacking device_of port bs h.none

-- boxes have the kinds of the records that they stand for
pub kind-map : {B : Type 0} (device_of : B → Device) (port : ℕ) (bs : List B) →
    kind_at device_of port bs ≡ kind_at (λ d. d) port (map device_of bs)
kind-map device_of port [] = refl
kind-map device_of port (b ∷ bs) =
    ap (λ (t : Option Kind). if (device_of b).port == port then Some (device_of b).kind else t) (kind-map device_of port bs)

-- a recorder of the list is one of its devices
pub has_recorder : {B : Type 0} (device_of : B → Device) (bs : List B) (at : ℕ) (b : B) → at < length bs →
    (device_of (get_or bs at b)).kind ≡ Recorder → HasRecorder (map device_of bs)
has_recorder device_of [] at b within recorder = absurd (omega (arith, within))
has_recorder device_of (x ∷ bs) zero b within recorder = (0, omega arith, recorder)
has_recorder device_of (x ∷ bs) (suc at) b within recorder =
    let later = has_recorder device_of bs at b (omega (arith, within)) recorder in
    (suc later.0, omega (arith, later.1), later.2)

-- what a word leaves
supply-first : {B : Type 0} (device_of : B → Device) (supply : Supply) (bs : List B) (at : ℕ) (old new : B) →
    FirstHas device_of supply.port bs at → old ≡ get_or bs at old → device_of new ≡ after_supply (device_of old) supply.word →
    map device_of (set bs at new) ≡ after_supply_of supply (map device_of bs)
supply-first device_of supply [] at old new first is does = absurd first
supply-first device_of supply (b ∷ bs) zero old new first is does =
    rw (eq-eqb (device_of b).port supply.port first)
    (ap (λ d. d ∷ map device_of bs) (does ∙ ap (λ y. after_supply (device_of y) supply.word) is))
supply-first device_of supply (b ∷ bs) (suc at) old new first is does =
    rw (ne_eqb (device_of b).port supply.port first.0)
    (ap (λ ds. device_of b ∷ ds) (supply-first device_of supply bs at old new first.1 is does))

supply-lacking : {B : Type 0} (device_of : B → Device) (supply : Supply) (bs : List B) →
    NoneHas device_of supply.port bs → map device_of bs ≡ after_supply_of supply (map device_of bs)
supply-lacking device_of supply [] none = refl
supply-lacking device_of supply (b ∷ bs) none =
    rw (ne_eqb (device_of b).port supply.port none.0)
    (ap (λ ds. device_of b ∷ ds) (supply-lacking device_of supply bs none.1))

pub supply_first : {B : Type 0} {device_of : B → Device} (supply : Supply) {bs : List B} {at : ℕ} (old new : B) →
    IsFirstAt device_of supply.port bs at → old ≡ get_or bs at old → device_of new ≡ after_supply (device_of old) supply.word →
    map device_of (set bs at new) ≡ after_supply_of supply (map device_of bs)
supply_first {device_of = device_of} supply {bs = bs} {at = at} old new h is does =
    supply-first device_of supply bs at old new h.first is does

pub supply_lacking : {B : Type 0} {device_of : B → Device} (supply : Supply) {bs : List B} →
    Lacks device_of supply.port bs → map device_of bs ≡ after_supply_of supply (map device_of bs)
supply_lacking {device_of = device_of} supply {bs = bs} h = supply-lacking device_of supply bs h.none

-- a word changes no port and no kind
pub ports-supply : (supply : Supply) (ds : List Device) → ports_of (after_supply_of supply ds) ≡ ports_of ds
ports-supply supply [] = refl
ports-supply supply (d ∷ ds) =
    elim (d.port == supply.port) as (λ t. ports_of (if t then after_supply d supply.word ∷ ds else d ∷ after_supply_of supply ds)
    ≡ d.port ∷ ports_of ds)
    [ true ↦ refl | false ↦ ap (λ (ps : List ℕ). d.port ∷ ps) (ports-supply supply ds) ]

pub kinds-supply : (supply : Supply) (ds : List Device) → kinds_of (after_supply_of supply ds) ≡ kinds_of ds
kinds-supply supply [] = refl
kinds-supply supply (d ∷ ds) =
    elim (d.port == supply.port) as (λ t. kinds_of (if t then after_supply d supply.word ∷ ds else d ∷ after_supply_of supply ds)
    ≡ d.kind ∷ kinds_of ds)
    [ true ↦ refl | false ↦ ap (λ (ks : List Kind). d.kind ∷ ks) (kinds-supply supply ds) ]

-- whether there is a device at a port is said by the ports alone
abbrev has_in : ℕ → List ℕ → Bool
has_in port [] = false
has_in port (p ∷ ps) = if p == port then true else has_in port ps

has-in : (port : ℕ) (ds : List Device) → has_port (λ d. d) port ds ≡ has_in port (ports_of ds)
has-in port [] = refl
has-in port (d ∷ ds) = ap (λ t. if d.port == port then true else t) (has-in port ds)

abbrev AreApart : List ℕ → Type 0
AreApart [] = Unit {0}
AreApart (p ∷ ps) = (has_in p ps ≡ false) × AreApart ps

apart-of : (ds : List Device) → AreDistinct ds → AreApart (ports_of ds)
apart-of [] apart = tt
apart-of (d ∷ ds) apart = (sym (has-in d.port ds) ∙ apart.0, apart-of ds apart.1)

distinct-of : (ds : List Device) → AreApart (ports_of ds) → AreDistinct ds
distinct-of [] apart = tt
distinct-of (d ∷ ds) apart = (has-in d.port ds ∙ apart.0, distinct-of ds apart.1)

-- devices at the same ports are distinct where the others are
pub distinct-ports : (news olds : List Device) → ports_of news ≡ ports_of olds → AreDistinct olds → AreDistinct news
distinct-ports news olds same apart = distinct-of news (subst AreApart (sym same) (apart-of olds apart))

-- words change no port and no kind
pub ports-supplied : (supplies : List Supply) (ds : List Device) → ports_of (supplied supplies ds) ≡ ports_of ds
ports-supplied [] ds = refl
ports-supplied (supply ∷ supplies) ds = ports-supplied supplies (after_supply_of supply ds) ∙ ports-supply supply ds

pub kinds-supplied : (supplies : List Supply) (ds : List Device) → kinds_of (supplied supplies ds) ≡ kinds_of ds
kinds-supplied [] ds = refl
kinds-supplied (supply ∷ supplies) ds = kinds-supplied supplies (after_supply_of supply ds) ∙ kinds-supply supply ds

-- devices stay distinct when words are supplied
pub distinct-supplied : (supplies : List Supply) (ds : List Device) → AreDistinct ds → AreDistinct (supplied supplies ds)
distinct-supplied supplies ds apart = distinct-ports (supplied supplies ds) ds (ports-supplied supplies ds) apart

-- words behind others
supplied-behind : (firsts lasts : List Supply) (ds : List Device) → supplied (firsts ++ lasts) ds ≡ supplied lasts (supplied firsts ds)
supplied-behind [] lasts ds = refl
supplied-behind (supply ∷ firsts) lasts ds = supplied-behind firsts lasts (after_supply_of supply ds)

-- one more word of a list
pub supplied-more : (supplies : List Supply) (i : ℕ) (supply : Supply) (olds so_far news : List Device) → i < length supplies →
    supply ≡ get_or supplies i supply → news ≡ after_supply_of supply so_far → so_far ≡ supplied (take i supplies) olds →
    news ≡ supplied (take (i + 1) supplies) olds
supplied-more supplies i supply olds so_far news within is does before =
    does ∙ ap (λ ds. after_supply_of supply ds) before
    ∙ ap (λ s. after_supply_of s (supplied (take i supplies) olds)) is
    ∙ sym (supplied-behind (take i supplies) (get_or supplies i supply ∷ []) olds)
    ∙ ap (λ ss. supplied ss olds) (sym (take_more supplies i supply within))
