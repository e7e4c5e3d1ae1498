-- What the devices of a time are after unplugging, and after its exchange.
use Rattle.std.proofs.Common.{◌≡◌, ℕ, suc, ◌+◌, ◌≢◌, ◌<◌, ◌≤◌, ◌==◌, List, [], ◌∷◌, length, get_or, drop, drop-cons, All, Bool, true, false, map, refl, sym, ◌∙◌, ap, subst, arith, add-one}
use Rattle.std.specs.Bool.{if◌then◌else◌}
use Rattle.std.specs.declared.option.Option.{Option}
use Rattle.std.specs.declared.option.Option.TheVariants.{None, Some}
use Rattle.std.proofs.lemmas.Bool.{true≢false, eq-eqb, ne_eqb, eqb-true}
use Rattle.std.proofs.lemmas.List.{drop_all}
use Rattle.std.proofs.lemmas.List.Elements.{All-head, All-tail, All-cons, All-map}
use Rattle.lvdc_port.specs.Causes.{Rose}
use Rattle.lvdc_port.specs.Device.{Device}
use Rattle.lvdc_port.specs.Devices.{without, has_port, count_at, HasSpare, AreDistinct, OthersKept}
use Rattle.lvdc_port.specs.declared.requests.PortRequest.{PortRequest}
use Rattle.lvdc_port.proofs.Lists.{map-without, lacks-without, distinct-without, spare-without, count-without, has-map, has-exchange, distinct-exchange, count-exchange, count_in, count-in, rose-has, spare-less}
use Rattle.lvdc_plain.specs.Lists.{Left}
use Rattle.lvdc_plain.specs.Run.{left_at}
use Rattle.lvdc_plain.specs.Table.{exchanged}
use Rattle.lvdc_plain.specs.declared.records.Unplug.{Unplug}

-- the boxes that are left stand for the records that are left
map-left : {B : Type 0} (device_of : B → Device) (lines : List Unplug) (time : ℕ) (bs : List B) →
    map device_of (left_at device_of lines time bs) ≡ left_at (λ d. d) lines time (map device_of bs)
map-left device_of [] time bs = refl
map-left device_of (line ∷ lines) time bs =
    elim (line.time == time) as (λ t. map device_of (left_at device_of lines time (if t then without device_of line.port bs else bs)) ≡
    left_at (λ d. d) lines time (if t then without (λ d. d) line.port (map device_of bs) else map device_of bs)) [
      | true ↦ map-left device_of lines time (without device_of line.port bs)
          ∙ ap (λ ds. left_at (λ d. d) lines time ds) (map-without device_of line.port bs)
      | false ↦ map-left device_of lines time bs
    ]

-- one more line of a list is read, and then no more
left_more : {B : Type 0} (device_of : B → Device) (lines : List Unplug) (time i : ℕ) (d : Unplug) (bs new : List B) (t : Bool) →
    i < length lines → ((get_or lines i d).time == time) ≡ t → new ≡ (if t then without device_of (get_or lines i d).port bs else bs) →
    left_at device_of (drop (i + 1) lines) time new ≡ left_at device_of (drop i lines) time bs
left_more device_of lines time i d bs new t within test is =
    rw add-one (
    ap (λ ds. left_at device_of (drop (suc i) lines) time ds)
    (is ∙ ap (λ b. if b then without device_of (get_or lines i d).port bs else bs) (sym test))
    ∙ sym (ap (λ ls. left_at device_of ls time bs) (drop-cons lines i d within))
    )

pub left-taken : {B : Type 0} (device_of : B → Device) (lines : List Unplug) (time i : ℕ) (d : Unplug) (bs new : List B) →
    i < length lines → (get_or lines i d).time ≡ time → new ≡ without device_of (get_or lines i d).port bs →
    left_at device_of (drop (i + 1) lines) time new ≡ left_at device_of (drop i lines) time bs
left-taken device_of lines time i d bs new within now is =
    left_more device_of lines time i d bs new true within (eq-eqb (get_or lines i d).time time now) is

pub left-kept : {B : Type 0} (device_of : B → Device) (lines : List Unplug) (time i : ℕ) (d : Unplug) (bs new : List B) →
    i < length lines → (get_or lines i d).time ≢ time → new ≡ bs →
    left_at device_of (drop (i + 1) lines) time new ≡ left_at device_of (drop i lines) time bs
left-kept device_of lines time i d bs new within later is =
    left_more device_of lines time i d bs new false within (ne_eqb (get_or lines i d).time time later) is

pub left-done : {B : Type 0} (device_of : B → Device) (lines : List Unplug) (time i : ℕ) (bs : List B) →
    length lines ≤ i → left_at device_of (drop i lines) time bs ≡ bs
left-done device_of lines time i bs past = ap (λ ls. left_at device_of ls time bs) (drop_all i lines past)

has-without-at : {B : Type 0} (device_of : B → Device) (p q : ℕ) (bs : List B) (t : Bool) →
    has_port device_of p bs ≡ t → has_port device_of p (without device_of q bs) ≡ true → t ≡ true
has-without-at device_of p q bs true is has = refl
has-without-at device_of p q bs false is has = absurd (true≢false (sym has ∙ lacks-without device_of p q bs is))

pub has-left : {B : Type 0} (device_of : B → Device) (lines : List Unplug) (time p : ℕ) (bs : List B) →
    has_port device_of p (left_at device_of lines time bs) ≡ true → has_port device_of p bs ≡ true
has-left device_of [] time p bs has = has
has-left device_of (line ∷ lines) time p bs has =
    (elim (line.time == time) as (λ t. has_port device_of p (left_at device_of lines time (if t then without device_of line.port bs else bs)) ≡ true →
    has_port device_of p bs ≡ true) [
      | true ↦ λ e. has-without-at device_of p line.port bs (has_port device_of p bs) refl (has-left device_of lines time p (without device_of line.port bs) e)
      | false ↦ λ e. has-left device_of lines time p bs e
    ]) has

pub distinct-left : (lines : List Unplug) (time : ℕ) (ds : List Device) →
    AreDistinct ds → AreDistinct (left_at (λ d. d) lines time ds)
distinct-left [] time ds apart = apart
distinct-left (line ∷ lines) time ds apart =
    elim (line.time == time) as (λ t. AreDistinct (left_at (λ d. d) lines time (if t then without (λ d. d) line.port ds else ds))) [
      | true ↦ distinct-left lines time (without (λ d. d) line.port ds) (distinct-without line.port ds apart)
      | false ↦ distinct-left lines time ds apart
    ]

pub spare-left : {B : Type 0} (device_of : B → Device) (spare : B → ℕ) (n : ℕ) (lines : List Unplug) (time : ℕ) (bs : List B) →
    HasSpare spare n bs → HasSpare spare n (left_at device_of lines time bs)
spare-left device_of spare n [] time bs room = room
spare-left device_of spare n (line ∷ lines) time bs room =
    elim (line.time == time) as (λ t. HasSpare spare n (left_at device_of lines time (if t then without device_of line.port bs else bs))) [
      | true ↦ spare-left device_of spare n lines time (without device_of line.port bs) (spare-without device_of spare n line.port bs room)
      | false ↦ spare-left device_of spare n lines time bs room
    ]

pub count-left : {B : Type 0} (device_of : B → Device) (count : B → ℕ) (lines : List Unplug) (time p : ℕ) (bs : List B) →
    AreDistinct (map device_of bs) → has_port device_of p (left_at device_of lines time bs) ≡ true →
    count_at device_of count p (left_at device_of lines time bs) ≡ count_at device_of count p bs
count-left device_of count [] time p bs apart has = refl
count-left device_of count (line ∷ lines) time p bs apart has =
    (elim (line.time == time) as (λ t. has_port device_of p (left_at device_of lines time (if t then without device_of line.port bs else bs)) ≡ true →
    count_at device_of count p (left_at device_of lines time (if t then without device_of line.port bs else bs)) ≡ count_at device_of count p bs) [
      | true ↦ λ e.
          count-left device_of count lines time p (without device_of line.port bs)
          (subst AreDistinct (sym (map-without device_of line.port bs)) (distinct-without line.port (map device_of bs) apart)) e
          ∙ count-without device_of count p line.port bs apart (has-left device_of lines time p (without device_of line.port bs) e)
      | false ↦ λ e. count-left device_of count lines time p bs apart e
    ]) has

-- the same by the record, from which a call finds the list's members
pub left-map : {B : Type 0} {device_of : B → Device} {lines : List Unplug} {time : ℕ} {old new : List B} →
    Left device_of lines time old new → map device_of new ≡ left_at (λ d. d) lines time (map device_of old)
left-map {device_of = device_of} {lines = lines} {time = time} {old = old} h = ap (λ bs. map device_of bs) h.is ∙ map-left device_of lines time old

pub left-distinct : {B : Type 0} {device_of : B → Device} {lines : List Unplug} {time : ℕ} {old new : List B} →
    Left device_of lines time old new → AreDistinct (map device_of old) → AreDistinct (map device_of new)
left-distinct {device_of = device_of} {lines = lines} {time = time} {old = old} h apart =
    subst AreDistinct (sym (left-map h)) (distinct-left lines time (map device_of old) apart)

pub left-spare : {B : Type 0} {device_of : B → Device} {lines : List Unplug} {time : ℕ} {old new : List B} →
    Left device_of lines time old new → (spare : B → ℕ) (m n : ℕ) → m ≤ n → HasSpare spare n old → HasSpare spare m new
left-spare {device_of = device_of} {lines = lines} {time = time} {old = old} h spare m n less room =
    subst (λ bs. HasSpare spare m bs) (sym h.is)
    (spare-less spare m n (left_at device_of lines time old) less (spare-left device_of spare n lines time old room))

pub left-has : {B : Type 0} {device_of : B → Device} {lines : List Unplug} {time : ℕ} {old new : List B} →
    Left device_of lines time old new → (port : ℕ) → has_port device_of port new ≡ true → has_port device_of port old ≡ true
left-has {device_of = device_of} {lines = lines} {time = time} {old = old} h port has =
    has-left device_of lines time port old (subst (λ bs. has_port device_of port bs ≡ true) h.is has)

pub left-count : {B : Type 0} {device_of : B → Device} {lines : List Unplug} {time : ℕ} {old new : List B} →
    Left device_of lines time old new → (count : B → ℕ) → AreDistinct (map device_of old) →
    (port : ℕ) → has_port device_of port new ≡ true → count_at device_of count port new ≡ count_at device_of count port old
left-count {device_of = device_of} {lines = lines} {time = time} {old = old} h count apart port has =
    ap (λ bs. count_at device_of count port bs) h.is
    ∙ count-left device_of count lines time port old apart (subst (λ bs. has_port device_of port bs ≡ true) h.is has)

-- an exchange that was answered, where one was asked for
exchanged-has : (request : Option PortRequest) (port : ℕ) (ds : List Device) →
    has_port (λ d. d) port (exchanged request ds) ≡ has_port (λ d. d) port ds
exchanged-has None port ds = refl
exchanged-has (Some request) port ds = has-exchange request port ds

exchanged-distinct : (request : Option PortRequest) (ds : List Device) → AreDistinct ds → AreDistinct (exchanged request ds)
exchanged-distinct None ds apart = apart
exchanged-distinct (Some request) ds apart = distinct-exchange request ds apart

exchanged-count : {B : Type 0} (device_of : B → Device) (count : B → ℕ) (request : Option PortRequest) (olds news : List B) →
    map device_of news ≡ exchanged request (map device_of olds) → map count news ≡ map count olds →
    (port : ℕ) → count_at device_of count port news ≡ count_at device_of count port olds
exchanged-count device_of count None olds news states counts port =
    count-in device_of count port news ∙ (λ i. count_in port (states i) (counts i)) ∙ sym (count-in device_of count port olds)
exchanged-count device_of count (Some request) olds news states counts port =
    count-exchange device_of count request olds news states counts port

-- so the devices of a time after its exchange
pub go-distinct : {B : Type 0} {device_of : B → Device} {lines : List Unplug} {time : ℕ} {old mid : List B} →
    Left device_of lines time old mid → (request : Option PortRequest) (new : List B) →
    map device_of new ≡ exchanged request (map device_of mid) → AreDistinct (map device_of old) → AreDistinct (map device_of new)
go-distinct {device_of = device_of} {mid = mid} h request new does apart =
    subst AreDistinct (sym does) (exchanged-distinct request (map device_of mid) (left-distinct h apart))

same-has : {B : Type 0} (device_of : B → Device) (request : Option PortRequest) (mid new : List B) →
    map device_of new ≡ exchanged request (map device_of mid) → (port : ℕ) → has_port device_of port new ≡ has_port device_of port mid
same-has device_of request mid new does port =
    has-map device_of port new ∙ ap (λ ds. has_port (λ d. d) port ds) does
    ∙ exchanged-has request port (map device_of mid) ∙ sym (has-map device_of port mid)

pub go-has : {B : Type 0} {device_of : B → Device} {lines : List Unplug} {time : ℕ} {old mid : List B} →
    Left device_of lines time old mid → (request : Option PortRequest) (new : List B) →
    map device_of new ≡ exchanged request (map device_of mid) →
    (port : ℕ) → has_port device_of port new ≡ true → has_port device_of port old ≡ true
go-has {device_of = device_of} {mid = mid} h request new does port has =
    left-has h port (sym (same-has device_of request mid new does port) ∙ has)

pub go-count : {B : Type 0} {device_of : B → Device} {lines : List Unplug} {time : ℕ} {old mid : List B} →
    Left device_of lines time old mid → (request : Option PortRequest) (new : List B) (count : B → ℕ) →
    map device_of new ≡ exchanged request (map device_of mid) → map count new ≡ map count mid → AreDistinct (map device_of old) →
    (port : ℕ) → has_port device_of port new ≡ true → count_at device_of count port new ≡ count_at device_of count port old
go-count {device_of = device_of} {mid = mid} h request new count does counts apart port has =
    exchanged-count device_of count request mid new does counts port
    ∙ left-count h count apart port (sym (same-has device_of request mid new does port) ∙ has)

-- or one whose device failed
kept-has : {B : Type 0} (device_of : B → Device) (mid new : List B) → map device_of new ≡ map device_of mid →
    (port : ℕ) → has_port device_of port new ≡ has_port device_of port mid
kept-has device_of mid new kept port =
    has-map device_of port new ∙ ap (λ ds. has_port (λ d. d) port ds) kept ∙ sym (has-map device_of port mid)

pub fail-distinct : {B : Type 0} {device_of : B → Device} {lines : List Unplug} {time : ℕ} {old mid : List B} →
    Left device_of lines time old mid → (new : List B) → map device_of new ≡ map device_of mid →
    AreDistinct (map device_of old) → AreDistinct (map device_of new)
fail-distinct h new kept apart = subst AreDistinct (sym kept) (left-distinct h apart)

pub fail-has : {B : Type 0} {device_of : B → Device} {lines : List Unplug} {time : ℕ} {old mid : List B} →
    Left device_of lines time old mid → (new : List B) → map device_of new ≡ map device_of mid →
    (port : ℕ) → has_port device_of port new ≡ true → has_port device_of port old ≡ true
fail-has {device_of = device_of} {mid = mid} h new kept port has = left-has h port (sym (kept-has device_of mid new kept port) ∙ has)

-- where every other device is the same object, it has the same count
others-head : {B : Type 0} (device_of : B → Device) (count : B → ℕ) (port other : ℕ) (old new : B) (later : ℕ) →
    ((device_of old).port ≢ port → new ≡ old) → other ≢ port → (t : Bool) → ((device_of old).port == other) ≡ t →
    (if t then count new else later) ≡ (if t then count old else later)
others-head device_of count port other old new later kept apart true is =
    ap count (kept (λ same. apart (sym (eqb-true (device_of old).port other is) ∙ same)))
others-head device_of count port other old new later kept apart false is = refl

others-count : {B : Type 0} (device_of : B → Device) (count : B → ℕ) (port other : ℕ) (olds news : List B) →
    OthersKept device_of port olds news → map device_of news ≡ map device_of olds → other ≢ port →
    count_at device_of count other news ≡ count_at device_of count other olds
others-count device_of count port other [] [] kept same apart = refl
others-count device_of count port other [] (new ∷ news) kept same apart = absurd kept
others-count device_of count port other (old ∷ olds) [] kept same apart = absurd kept
others-count device_of count port other (old ∷ olds) (new ∷ news) kept same apart =
    let device : device_of new ≡ device_of old = cc in
    let devices : map device_of news ≡ map device_of olds = cc in
    let later : count_at device_of count other news ≡ count_at device_of count other olds =
    others-count device_of count port other olds news kept.1 devices apart in
    (λ i. if (device i).port == other then count new else later i)
    ∙ others-head device_of count port other old new (count_at device_of count other olds) kept.0 apart ((device_of old).port == other) refl

-- the same with the lists first, which say what their members are
pub others-in : {B : Type 0} (olds news : List B) (device_of : B → Device) (count : B → ℕ) {named port : ℕ} → named ≡ port → (other : ℕ) →
    OthersKept device_of port olds news → map device_of news ≡ map device_of olds → other ≢ named →
    count_at device_of count other news ≡ count_at device_of count other olds
others-in olds news device_of count {port = port} is other kept same apart =
    others-count device_of count port other olds news kept same (λ e. apart (e ∙ sym is))

pub fail-others : {B : Type 0} {device_of : B → Device} {lines : List Unplug} {time : ℕ} {old mid : List B} →
    Left device_of lines time old mid → (new : List B) (count : B → ℕ) (port : ℕ) →
    map device_of new ≡ map device_of mid → AreDistinct (map device_of old) →
    ((other : ℕ) → other ≢ port → count_at device_of count other new ≡ count_at device_of count other mid) →
    (other : ℕ) → other ≢ port → has_port device_of other new ≡ true → count_at device_of count other new ≡ count_at device_of count other old
fail-others {device_of = device_of} {mid = mid} h new count port kept apart same other differs has =
    same other differs ∙ left-count h count apart other (sym (kept-has device_of mid new kept other) ∙ has)

pub fail-rose : {B : Type 0} {device_of : B → Device} {lines : List Unplug} {time : ℕ} {old mid : List B} →
    Left device_of lines time old mid → (new : List B) (count : B → ℕ) (port : ℕ) →
    map device_of new ≡ map device_of mid → AreDistinct (map device_of old) →
    Rose (count_at device_of count port mid) (count_at device_of count port new) →
    Rose (count_at device_of count port old) (count_at device_of count port new)
fail-rose {device_of = device_of} {mid = mid} h new count port kept apart rose =
    let has : has_port device_of port mid ≡ true =
    sym (kept-has device_of mid new kept port) ∙ rose-has device_of count port (count_at device_of count port mid) new rose in
    subst (λ n. Rose n (count_at device_of count port new)) (left-count h count apart port has) rose

all-unmap : {B : Type 0} (spare : B → ℕ) (n : ℕ) (bs : List B) → All (λ m. n ≤ m) (map spare bs) → HasSpare spare n bs
all-unmap spare n [] room = λ k d within. absurd (omega arith)
all-unmap spare n (b ∷ bs) room =
    All-cons (λ x. n ≤ spare x) b bs (All-head (λ m. n ≤ m) (spare b) (map spare bs) room)
    (all-unmap spare n bs (All-tail (λ m. n ≤ m) (spare b) (map spare bs) room))

-- the same room, the same that every device has
pub spare-same : {B : Type 0} (spare : B → ℕ) (n : ℕ) (olds news : List B) → map spare news ≡ map spare olds →
    HasSpare spare n olds → HasSpare spare n news
spare-same spare n olds news same room =
    all-unmap spare n news (subst (λ ns. All (λ m. n ≤ m) ns) (sym same) (All-map (λ m. n ≤ m) spare olds room))
