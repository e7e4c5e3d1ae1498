-- What the layers above use of lists of devices: the boxes and the records that they stand for.
use Rattle.std.proofs.Common.{◌≡◌, ℕ, ◌≤◌, ◌==◌, List, [], ◌∷◌, Bool, true, false, map, refl, sym, ◌∙◌, ap, subst, arith}
use Rattle.std.specs.Bool.{if◌then◌else◌}
use Rattle.std.proofs.lemmas.Bool.{true≢false}
use Rattle.std.proofs.lemmas.List.Elements.{All-head, All-tail, All-cons}
use borrow.Author.Tests.{ne_eqb}
use Rattle.lvdc_port.proofs.Firsts.{request_port}
use Rattle.lvdc_port.specs.Causes.{never, Rose}
use Rattle.lvdc_port.specs.Device.{Device}
use Rattle.lvdc_port.specs.Devices.{port_of, after_request, after_exchange, without, has_port, count_at, HasSpare, NeverFail, RoomAt, AreDistinct}
use Rattle.lvdc_port.specs.Supplies.{ports_of}
use Rattle.lvdc_port.specs.declared.requests.PortRequest.{PortRequest}
use Rattle.lvdc_port.specs.declared.requests.PortRequest.TheVariants.{Read, Write}

-- a list of boxes without a member stands for the list of records without it
pub map-without : {B : Type 0} (device_of : B → Device) (port : ℕ) (bs : List B) →
    map device_of (without device_of port bs) ≡ without (λ d. d) port (map device_of bs)
map-without device_of port [] = refl
map-without device_of port (b ∷ bs) =
    elim ((device_of b).port == port) as (λ t. map device_of (if t then bs else b ∷ without device_of port bs) ≡
    (if t then map device_of bs else device_of b ∷ without (λ d. d) port (map device_of bs)))
    [ true ↦ refl | false ↦ ap (λ ds. device_of b ∷ ds) (map-without device_of port bs) ]

pub has-map : {B : Type 0} (device_of : B → Device) (port : ℕ) (bs : List B) →
    has_port device_of port bs ≡ has_port (λ d. d) port (map device_of bs)
has-map device_of port [] = refl
has-map device_of port (b ∷ bs) = ap (λ t. if (device_of b).port == port then true else t) (has-map device_of port bs)

-- room that every member has, the one at a port has
pub spare-at : {B : Type 0} (device_of : B → Device) (spare : B → ℕ) (n port : ℕ) (bs : List B) →
    HasSpare spare n bs → has_port device_of port bs ≡ true → n ≤ count_at device_of spare port bs
spare-at device_of spare n port [] room has = absurd (true≢false (sym has))
spare-at device_of spare n port (b ∷ bs) room has =
    (elim ((device_of b).port == port) as (λ t. (if t then true else has_port device_of port bs) ≡ true →
    n ≤ (if t then spare b else count_at device_of spare port bs)) [
      | true ↦ λ _. All-head (λ x. n ≤ spare x) b bs room
      | false ↦ λ later. spare-at device_of spare n port bs (All-tail (λ x. n ≤ spare x) b bs room) later
    ]) has

pub room-at : {B : Type 0} (device_of : B → Device) (spare : B → ℕ) (n : ℕ) (request : PortRequest) (bs : List B) →
    HasSpare spare n bs → 1 ≤ n → RoomAt device_of spare request bs
room-at device_of spare n (Read port) bs room some = λ _. tt
room-at device_of spare n (Write port word) bs room some =
    λ has. let least : n ≤ count_at device_of spare port bs = spare-at device_of spare n port bs room has in omega arith

-- the same with the list first, which says what its members are
pub room-in : {B : Type 0} (bs : List B) (device_of : B → Device) (spare : B → ℕ) (n : ℕ) (request : PortRequest) →
    HasSpare spare n bs → 1 ≤ n → RoomAt device_of spare request bs
room-in bs device_of spare n request room some = room-at device_of spare n request bs room some

pub spare-without : {B : Type 0} (device_of : B → Device) (spare : B → ℕ) (n port : ℕ) (bs : List B) →
    HasSpare spare n bs → HasSpare spare n (without device_of port bs)
spare-without device_of spare n port [] room = room
spare-without device_of spare n port (b ∷ bs) room =
    elim ((device_of b).port == port) as (λ t. HasSpare spare n (if t then bs else b ∷ without device_of port bs)) [
      | true ↦ All-tail (λ x. n ≤ spare x) b bs room
      | false ↦ All-cons (λ x. n ≤ spare x) b (without device_of port bs) (All-head (λ x. n ≤ spare x) b bs room)
          (spare-without device_of spare n port bs (All-tail (λ x. n ≤ spare x) b bs room))
    ]

-- less room
pub spare-less : {B : Type 0} (spare : B → ℕ) (m n : ℕ) (bs : List B) → m ≤ n → HasSpare spare n bs → HasSpare spare m bs
spare-less spare m n bs less room k d within = let least = room k d within in omega arith

-- a port that a list lacks, it lacks without a member
pub lacks-without : {B : Type 0} (device_of : B → Device) (p q : ℕ) (bs : List B) →
    has_port device_of p bs ≡ false → has_port device_of p (without device_of q bs) ≡ false
lacks-without device_of p q [] none = none
lacks-without device_of p q (b ∷ bs) none =
    elim ((device_of b).port == q) as (λ t. has_port device_of p (if t then bs else b ∷ without device_of q bs) ≡ false) [
      | true ↦ (elim ((device_of b).port == p) as (λ t. (if t then true else has_port device_of p bs) ≡ false → has_port device_of p bs ≡ false)
          [ true ↦ λ e. absurd (true≢false e) | false ↦ λ e. e ]) none
      | false ↦ (elim ((device_of b).port == p) as (λ t. (if t then true else has_port device_of p bs) ≡ false →
          (if t then true else has_port device_of p (without device_of q bs)) ≡ false)
          [ true ↦ λ e. e | false ↦ λ e. lacks-without device_of p q bs e ]) none
    ]

pub distinct-without : (port : ℕ) (ds : List Device) → AreDistinct ds → AreDistinct (without (λ d. d) port ds)
distinct-without port [] apart = tt
distinct-without port (d ∷ ds) apart =
    elim (d.port == port) as (λ t. AreDistinct (if t then ds else d ∷ without (λ x. x) port ds)) [
      | true ↦ apart.1
      | false ↦ (lacks-without (λ x. x) d.port port ds apart.0, distinct-without port ds apart.1)
    ]

-- a request changes no port
pub has-exchange : (request : PortRequest) (port : ℕ) (ds : List Device) →
    has_port (λ d. d) port (after_exchange request ds) ≡ has_port (λ d. d) port ds
has-exchange request port [] = refl
has-exchange request port (d ∷ ds) =
    elim (d.port == port_of request) as (λ t. has_port (λ x. x) port
    (if t then after_request request d ∷ ds else d ∷ after_exchange request ds) ≡
    (if d.port == port then true else has_port (λ x. x) port ds)) [
      | true ↦ ap (λ p. if p == port then true else has_port (λ x. x) port ds) (request_port request d)
      | false ↦ ap (λ t. if d.port == port then true else t) (has-exchange request port ds)
    ]

pub distinct-exchange : (request : PortRequest) (ds : List Device) →
    AreDistinct ds → AreDistinct (after_exchange request ds)
distinct-exchange request [] apart = tt
distinct-exchange request (d ∷ ds) apart =
    elim (d.port == port_of request) as (λ t. AreDistinct
    (if t then after_request request d ∷ ds else d ∷ after_exchange request ds)) [
      | true ↦ (subst (λ p. has_port (λ x. x) p ds ≡ false) (sym (request_port request d)) apart.0, apart.1)
      | false ↦ (has-exchange request d.port ds ∙ apart.0, distinct-exchange request ds apart.1)
    ]

-- behind a member of another port a count is found as before it
count-tail : {B : Type 0} (device_of : B → Device) (count : B → ℕ) (p : ℕ) (b : B) (bs : List B) →
    has_port (λ d. d) (device_of b).port (map device_of bs) ≡ false → has_port device_of p bs ≡ true →
    count_at device_of count p bs ≡ (if (device_of b).port == p then count b else count_at device_of count p bs)
count-tail device_of count p b bs none has =
    rw (ne_eqb (device_of b).port p (λ same. true≢false
    (sym has ∙ has-map device_of p bs ∙ ap (λ n. has_port (λ d. d) n (map device_of bs)) (sym same) ∙ none)))

-- a member that is left has the count that it had
pub count-without : {B : Type 0} (device_of : B → Device) (count : B → ℕ) (p q : ℕ) (bs : List B) →
    AreDistinct (map device_of bs) → has_port device_of p (without device_of q bs) ≡ true →
    count_at device_of count p (without device_of q bs) ≡ count_at device_of count p bs
count-without device_of count p q [] apart has = refl
count-without device_of count p q (b ∷ bs) apart has =
    (elim ((device_of b).port == q) as (λ t. has_port device_of p (if t then bs else b ∷ without device_of q bs) ≡ true →
    count_at device_of count p (if t then bs else b ∷ without device_of q bs) ≡
    (if (device_of b).port == p then count b else count_at device_of count p bs)) [
      | true ↦ λ later. count-tail device_of count p b bs apart.0 later
      | false ↦ (elim ((device_of b).port == p) as (λ t.
          (if t then true else has_port device_of p (without device_of q bs)) ≡ true →
          (if t then count b else count_at device_of count p (without device_of q bs)) ≡
          (if t then count b else count_at device_of count p bs))
          [ true ↦ λ _. refl | false ↦ λ later. count-without device_of count p q bs apart.1 later ])
    ]) has

-- the counts by place, of records and counts apart
abbrev pub count_in : ℕ → List Device → List ℕ → ℕ
count_in port [] counts = never
count_in port (d ∷ ds) [] = never
count_in port (d ∷ ds) (count ∷ counts) = if d.port == port then count else count_in port ds counts

pub count-in : {B : Type 0} (device_of : B → Device) (count : B → ℕ) (port : ℕ) (bs : List B) →
    count_at device_of count port bs ≡ count_in port (map device_of bs) (map count bs)
count-in device_of count port [] = refl
count-in device_of count port (b ∷ bs) =
    ap (λ n. if (device_of b).port == port then count b else n) (count-in device_of count port bs)

pub count_in-exchange : (request : PortRequest) (port : ℕ) (ds : List Device) (counts : List ℕ) →
    count_in port (after_exchange request ds) counts ≡ count_in port ds counts
count_in-exchange request port [] counts = refl
count_in-exchange request port (d ∷ ds) [] =
    elim (d.port == port_of request) as (λ t. count_in port
    (if t then after_request request d ∷ ds else d ∷ after_exchange request ds) [] ≡ never)
    [ true ↦ refl | false ↦ refl ]
count_in-exchange request port (d ∷ ds) (count ∷ counts) =
    elim (d.port == port_of request) as (λ t. count_in port
    (if t then after_request request d ∷ ds else d ∷ after_exchange request ds) (count ∷ counts) ≡
    (if d.port == port then count else count_in port ds counts)) [
      | true ↦ ap (λ p. if p == port then count else count_in port ds counts) (request_port request d)
      | false ↦ ap (λ n. if d.port == port then count else n) (count_in-exchange request port ds counts)
    ]

-- after an exchange that was answered each count by port is as before
pub count-exchange : {B : Type 0} (device_of : B → Device) (count : B → ℕ) (request : PortRequest) (olds news : List B) →
    map device_of news ≡ after_exchange request (map device_of olds) → map count news ≡ map count olds →
    (port : ℕ) → count_at device_of count port news ≡ count_at device_of count port olds
count-exchange device_of count request olds news states counts port =
    count-in device_of count port news ∙ ap (λ ds. count_in port ds (map count news)) states
    ∙ ap (λ cs. count_in port (after_exchange request (map device_of olds)) cs) counts
    ∙ count_in-exchange request port (map device_of olds) (map count olds)
    ∙ sym (count-in device_of count port olds)

-- a count that rose is that of a member
pub count-lacking : {B : Type 0} (device_of : B → Device) (count : B → ℕ) (port : ℕ) (bs : List B) →
    has_port device_of port bs ≡ false → count_at device_of count port bs ≡ never
count-lacking device_of count port [] none = refl
count-lacking device_of count port (b ∷ bs) none =
    (elim ((device_of b).port == port) as (λ t. (if t then true else has_port device_of port bs) ≡ false →
    (if t then count b else count_at device_of count port bs) ≡ never)
    [ true ↦ λ e. absurd (true≢false e) | false ↦ λ e. count-lacking device_of count port bs e ]) none

rose-has-at : {B : Type 0} (device_of : B → Device) (count : B → ℕ) (port before : ℕ) (bs : List B) (t : Bool) →
    has_port device_of port bs ≡ t → Rose before (count_at device_of count port bs) → t ≡ true
rose-has-at device_of count port before bs true is rose = refl
rose-has-at device_of count port before bs false is rose =
    let none : count_at device_of count port bs ≡ never = count-lacking device_of count port bs is in
    absurd (omega (arith, none, rose.counted))

pub rose-has : {B : Type 0} (device_of : B → Device) (count : B → ℕ) (port before : ℕ) (bs : List B) →
    Rose before (count_at device_of count port bs) → has_port device_of port bs ≡ true
rose-has device_of count port before bs rose = rose-has-at device_of count port before bs (has_port device_of port bs) refl rose

-- the count at a port, of devices that never fail, never rises
never-at : {B : Type 0} (device_of : B → Device) (faults : B → ℕ) (port : ℕ) (bs : List B) →
    NeverFail faults bs → count_at device_of faults port bs ≡ never
never-at device_of faults port [] sound = refl
never-at device_of faults port (b ∷ bs) sound =
    elim ((device_of b).port == port) as (λ t. (if t then faults b else count_at device_of faults port bs) ≡ never) [
      | true ↦ All-head (λ x. faults x ≡ never) b bs sound
      | false ↦ never-at device_of faults port bs (All-tail (λ x. faults x ≡ never) b bs sound)
    ]

pub never-rose : {B : Type 0} (device_of : B → Device) (faults : B → ℕ) (port now : ℕ) (bs : List B) →
    NeverFail faults bs → Rose (count_at device_of faults port bs) now → ⊥
never-rose device_of faults port now bs sound rose =
    let none : count_at device_of faults port bs ≡ never = never-at device_of faults port bs sound in
    absurd (omega (arith, none, rose.may_fail))

-- devices with the same ports and the same counts, one by one, have the same count at each port
pub count-same : {B : Type 0} (device_of : B → Device) (count : B → ℕ) (port : ℕ) (xs ys : List B)
    → ports_of (map device_of xs) ≡ ports_of (map device_of ys) → map count xs ≡ map count ys
    → count_at device_of count port xs ≡ count_at device_of count port ys
count-same device_of count port [] [] e f = refl
count-same device_of count port [] (y ∷ ys) e f = absurd (cc)
count-same device_of count port (x ∷ xs) [] e f = absurd (cc)
count-same device_of count port (x ∷ xs) (y ∷ ys) e f =
    let place : (device_of x).port ≡ (device_of y).port = cc in
    let number : count x ≡ count y = cc in
    let later : ports_of (map device_of xs) ≡ ports_of (map device_of ys) = cc in
    let counts : map count xs ≡ map count ys = cc in
    let rest = count-same device_of count port xs ys later counts in
    λ i. if place i == port then number i else rest i
