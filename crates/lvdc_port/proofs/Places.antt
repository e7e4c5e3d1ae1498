-- The same facts by records, so that a call need not name the list's members.
use Rattle.std.proofs.Common.{◌≡◌, ◌≢◌, ℕ, ◌+◌, ◌≤◌, ◌<◌, List, true, false, length, get_or, take, map, refl, sym, ◌∙◌, ap, subst, take_all, add-one}
use Rattle.std.specs.List.{remove}
use Rattle.std.proofs.Math.ListN.{set}
use Rattle.std.proofs.Math.Seq.{map-set_same}
use Rattle.lvdc_port.specs.Device.{Device}
use Rattle.lvdc_port.specs.Causes.{never, Rose, IsSaidOf}
use Rattle.lvdc_port.specs.Devices.{port_of, answer_of, after_request, exchange_word, after_exchange, without, has_port, count_at, OthersKept, HasSpare}
use Rattle.lvdc_port.specs.Places.{NoneHas, Lacks, IsFirstAt}
use Rattle.lvdc_port.specs.Times.{told_by}
use Rattle.lvdc_port.specs.declared.requests.PortRequest.{PortRequest}
use Rattle.lvdc_port.specs.declared.requests.PortRequest.TheVariants.{Read, Write}
use Rattle.lvdc_port.proofs.Firsts as firsts
use Rattle.lvdc_port.proofs.Lists.{count-lacking}

-- none of the first members has this port
pub record LacksBelow {B : Type 0} (device_of : B → Device) (port : ℕ) (bs : List B) (at : ℕ) : Type 0 where
  pub below : NoneHas device_of port (take at bs)

pub lacks_none : {B : Type 0} {device_of : B → Device} {port : ℕ} {bs : List B} → LacksBelow device_of port bs 0
lacks_none = record { below = tt }

pub lacks_more : {B : Type 0} {device_of : B → Device} {port : ℕ} {bs : List B} {at : ℕ} (x : B) →
    LacksBelow device_of port bs at → x ≡ get_or bs at x → (device_of x).port ≢ port → LacksBelow device_of port bs (at + 1)
lacks_more {device_of = device_of} {port = port} {bs = bs} {at = at} x h is other =
    rw add-one (record { below = firsts.lacks_more device_of port bs at x h.below is other })

pub lacks_all : {B : Type 0} {device_of : B → Device} {port : ℕ} {bs : List B} {at : ℕ} →
    LacksBelow device_of port bs at → length bs ≤ at → Lacks device_of port bs
lacks_all {device_of = device_of} {port = port} {bs = bs} {at = at} h all =
    record { none = subst (λ ds. NoneHas device_of port ds) (take_all at bs all) h.below }

pub first_at : {B : Type 0} {device_of : B → Device} {port : ℕ} {bs : List B} {at : ℕ} (x : B) →
    LacksBelow device_of port bs at → at < length bs → x ≡ get_or bs at x → (device_of x).port ≡ port → IsFirstAt device_of port bs at
first_at {device_of = device_of} {port = port} {bs = bs} {at = at} x h within is here =
    record { first = firsts.first_at device_of port bs at x within h.below is here }

-- what the first member of the port answers, and what its request leaves
pub word_first : {B : Type 0} {device_of : B → Device} (request : PortRequest) (time : ℕ) {bs : List B} {at : ℕ} (old : B) →
    IsFirstAt device_of (port_of request) bs at → old ≡ get_or bs at old →
    answer_of request time (device_of old) ≡ exchange_word request time (map device_of bs)
word_first {device_of = device_of} request time {bs = bs} {at = at} old h is =
    sym (firsts.word_first device_of request time bs at old h.first is)

pub after_first : {B : Type 0} {device_of : B → Device} (request : PortRequest) {bs : List B} {at : ℕ} (old new : B) →
    IsFirstAt device_of (port_of request) bs at → old ≡ get_or bs at old → device_of new ≡ after_request request (device_of old) →
    map device_of (set bs at new) ≡ after_exchange request (map device_of bs)
after_first {device_of = device_of} request {bs = bs} {at = at} old new h is does =
    firsts.after_first device_of request bs at old new h.first is does

pub count_first : {B : Type 0} {device_of : B → Device} (count : B → ℕ) {port : ℕ} {bs : List B} {at : ℕ} (old : B) →
    IsFirstAt device_of port bs at → old ≡ get_or bs at old → count_at device_of count port bs ≡ count old
count_first {device_of = device_of} count {port = port} {bs = bs} {at = at} old h is =
    firsts.count_first device_of count port bs at old h.first is

pub count_first_set : {B : Type 0} {device_of : B → Device} (count : B → ℕ) {port : ℕ} {bs : List B} {at : ℕ} (old new : B) →
    IsFirstAt device_of port bs at → old ≡ get_or bs at old → device_of new ≡ device_of old →
    count_at device_of count port (set bs at new) ≡ count new
count_first_set {device_of = device_of} count {port = port} {bs = bs} {at = at} old new h is same =
    firsts.count_first_set device_of count port bs at old new h.first
    (ap (λ (d : Device). d.port) same ∙ firsts.first_port device_of port bs at old h.first is)

pub others_first : {B : Type 0} {device_of : B → Device} {port : ℕ} {bs : List B} {at : ℕ} (new : B) →
    IsFirstAt device_of port bs at → OthersKept device_of port bs (set bs at new)
others_first {device_of = device_of} {port = port} {bs = bs} {at = at} new h = firsts.others_first device_of port bs at new h.first

pub without_first : {B : Type 0} {device_of : B → Device} {port : ℕ} {bs : List B} {at : ℕ} →
    IsFirstAt device_of port bs at → remove bs at ≡ without device_of port bs
without_first {device_of = device_of} {port = port} {bs = bs} {at = at} h = firsts.without_first device_of port bs at h.first

pub has_first : {B : Type 0} {device_of : B → Device} {port : ℕ} {bs : List B} {at : ℕ} →
    IsFirstAt device_of port bs at → has_port device_of port bs ≡ true
has_first {device_of = device_of} {port = port} {bs = bs} {at = at} h = firsts.has_first device_of port bs at h.first

pub first_within : {B : Type 0} {device_of : B → Device} {port : ℕ} {bs : List B} {at : ℕ} →
    IsFirstAt device_of port bs at → at < length bs
first_within {device_of = device_of} {port = port} {bs = bs} {at = at} h = firsts.first_within device_of port bs at h.first

pub first_port : {B : Type 0} {device_of : B → Device} {port : ℕ} {bs : List B} {at : ℕ} (old : B) →
    IsFirstAt device_of port bs at → old ≡ get_or bs at old → (device_of old).port ≡ port
first_port {device_of = device_of} {port = port} {bs = bs} {at = at} old h is = firsts.first_port device_of port bs at old h.first is

pub spare_first : {B : Type 0} {device_of : B → Device} (spare : B → ℕ) {port : ℕ} {bs : List B} {at : ℕ} (old new : B) →
    IsFirstAt device_of port bs at → old ≡ get_or bs at old → spare old ≤ spare new + 1 →
    (n : ℕ) → HasSpare spare (n + 1) bs → HasSpare spare n (set bs at new)
spare_first {device_of = device_of} spare {port = port} {bs = bs} {at = at} old new h is falls n room =
    firsts.spare_first spare n bs at old new (firsts.first_within device_of port bs at h.first) is falls room

spare_at_first : {B : Type 0} {device_of : B → Device} (spare : B → ℕ) {port : ℕ} {bs : List B} {at : ℕ} (old new : B) →
    IsFirstAt device_of port bs at → old ≡ get_or bs at old → (device_of new).port ≡ (device_of old).port →
    spare old ≤ spare new + 1 → count_at device_of spare port bs ≤ count_at device_of spare port (set bs at new) + 1
spare_at_first {device_of = device_of} spare {port = port} {bs = bs} {at = at} old new h is same falls =
    rw (count_first spare old h is, firsts.count_first_set device_of spare port bs at old new h.first (same ∙ first_port old h is)) falls

pub spare_at_answered : {B : Type 0} {device_of : B → Device} (spare : B → ℕ) (request : PortRequest) {bs : List B} {at : ℕ} (old new : B) →
    IsFirstAt device_of (port_of request) bs at → old ≡ get_or bs at old →
    device_of new ≡ after_request request (device_of old) → spare old ≤ spare new + 1 →
    count_at device_of spare (port_of request) bs ≤ count_at device_of spare (port_of request) (set bs at new) + 1
spare_at_answered {device_of = device_of} spare request old new h is does falls =
    spare_at_first spare old new h is
    (ap (λ (d : Device). d.port) does ∙ firsts.request_port request (device_of old)) falls

pub spare_at_failed : {B : Type 0} {device_of : B → Device} (spare : B → ℕ) {port : ℕ} {bs : List B} {at : ℕ} (old new : B) →
    IsFirstAt device_of port bs at → old ≡ get_or bs at old → device_of new ≡ device_of old → spare old ≤ spare new + 1 →
    count_at device_of spare port bs ≤ count_at device_of spare port (set bs at new) + 1
spare_at_failed spare old new h is same falls =
    spare_at_first spare old new h is (ap (λ (d : Device). d.port) same) falls

-- the time that the first member of the port has been told once it answered a request
pub told_first : {B : Type 0} {device_of : B → Device} (told : B → ℕ) (request : PortRequest) (time : ℕ) {bs : List B} {at : ℕ} (old new : B) →
    IsFirstAt device_of (port_of request) bs at → old ≡ get_or bs at old →
    device_of new ≡ after_request request (device_of old) → told new ≡ told_by request time (told old) →
    count_at device_of told (port_of request) (set bs at new) ≡ told_by request time (count_at device_of told (port_of request) bs)
told_first {device_of = device_of} told request time {bs = bs} {at = at} old new h is does hears =
    firsts.count_first_set device_of told (port_of request) bs at old new h.first
    (ap (λ (d : Device). d.port) does ∙ firsts.request_port request (device_of old) ∙ first_port old h is)
    ∙ hears ∙ ap (λ n. told_by request time n) (sym (count_first told old h is))

-- where no member has it, none is told anything
told-nothing : (request : PortRequest) (time : ℕ) → never ≡ told_by request time never
told-nothing (Read port) time = refl
told-nothing (Write port word) time = refl

pub told_lacking : {B : Type 0} {device_of : B → Device} (told : B → ℕ) (request : PortRequest) (time : ℕ) {bs : List B} →
    Lacks device_of (port_of request) bs →
    count_at device_of told (port_of request) bs ≡ told_by request time (count_at device_of told (port_of request) bs)
told_lacking {device_of = device_of} told request time {bs = bs} h =
    let none : count_at device_of told (port_of request) bs ≡ never = count-lacking device_of told (port_of request) bs (firsts.has_lacking device_of (port_of request) bs h.none) in
    none ∙ told-nothing request time ∙ ap (λ n. told_by request time n) (sym none)

pub word_lacking : {B : Type 0} {device_of : B → Device} (request : PortRequest) (time : ℕ) {bs : List B} →
    Lacks device_of (port_of request) bs → 0 ≡ exchange_word request time (map device_of bs)
word_lacking {device_of = device_of} request time {bs = bs} h = sym (firsts.word_lacking device_of request time bs h.none)

pub after_lacking : {B : Type 0} {device_of : B → Device} (request : PortRequest) {bs : List B} →
    Lacks device_of (port_of request) bs → map device_of bs ≡ after_exchange request (map device_of bs)
after_lacking {device_of = device_of} request {bs = bs} h = firsts.after_lacking device_of request bs h.none

pub others_same : {B : Type 0} {device_of : B → Device} {port : ℕ} {bs : List B} →
    Lacks device_of port bs → OthersKept device_of port bs bs
others_same {device_of = device_of} {port = port} {bs = bs} h = firsts.others_same device_of port bs

pub without_lacking : {B : Type 0} {device_of : B → Device} {port : ℕ} {bs : List B} →
    Lacks device_of port bs → bs ≡ without device_of port bs
without_lacking {device_of = device_of} {port = port} {bs = bs} h = firsts.without_lacking device_of port bs h.none

pub has_lacking : {B : Type 0} {device_of : B → Device} {port : ℕ} {bs : List B} →
    Lacks device_of port bs → has_port device_of port bs ≡ false
has_lacking {device_of = device_of} {port = port} {bs = bs} h = firsts.has_lacking device_of port bs h.none

-- what a request leaves alone is left alone in the list
pub kept_first : {B C : Type 0} (f : B → C) (bs : List B) (at : ℕ) (old new : B) →
    old ≡ get_or bs at old → f new ≡ f old → map f (set bs at new) ≡ map f bs
kept_first f bs at old new is same = map-set_same f bs at new old (same ∙ ap f is)

-- the count that a device which failed says
pub fault_first : {B : Type 0} {device_of : B → Device} (faults : B → ℕ) {port : ℕ} {bs : List B} {at : ℕ} (old new : B) (told : ℕ) →
    IsFirstAt device_of port bs at → old ≡ get_or bs at old → device_of new ≡ device_of old → IsSaidOf (faults new) told →
    Rose (faults old) (faults new) →
    (told ≡ count_at device_of faults port (set bs at new)) × Rose (count_at device_of faults port bs) told
fault_first {device_of = device_of} faults {port = port} {bs = bs} {at = at} old new told h is same said rose = (
  said.counted rose.counted ∙ sym (count_first_set faults old new h is same),
  rw (count_first faults old h is, said.counted rose.counted) rose,
)
