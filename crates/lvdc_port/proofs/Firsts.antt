-- The first member of a port in a list, and the lists that an exchange or a removal leaves.
use Rattle.std.proofs.Common.{◌≡◌, ◌≢◌, ℕ, zero, suc, ◌+◌, ◌≤◌, ◌<◌, List, [], ◌∷◌, true, false, length, get_or, take, map, refl, sym, ◌∙◌, ap, subst, arith}
use Rattle.std.specs.List.{remove}
use Rattle.std.proofs.Math.ListN.{set}
use Rattle.std.proofs.lemmas.Bool.{eq-eqb}
use Rattle.std.proofs.lemmas.List.Elements.{All-set}
use borrow.Author.Tests.{ne_eqb}
use Rattle.lvdc_port.specs.Device.{Device}
use Rattle.lvdc_port.specs.Devices.{port_of, answer_of, after_request, exchange_word, after_exchange, without, has_port, count_at, OthersKept, HasSpare}
use Rattle.lvdc_port.specs.Places.{NoneHas, FirstHas}
use Rattle.lvdc_port.specs.declared.requests.PortRequest.{PortRequest}
use Rattle.lvdc_port.specs.declared.requests.PortRequest.TheVariants.{Read, Write}

-- a member behind those that lack the port, which has it, is the first
pub first_at : {B : Type 0} (device_of : B → Device) (port : ℕ) (bs : List B) (at : ℕ) (x : B) →
    at < length bs → NoneHas device_of port (take at bs) → x ≡ get_or bs at x → (device_of x).port ≡ port → FirstHas device_of port bs at
first_at device_of port [] at x within none is here = absurd (omega arith)
first_at device_of port (b ∷ bs) zero x within none is here = ap (λ y. (device_of y).port) (sym is) ∙ here
first_at device_of port (b ∷ bs) (suc at) x within none is here =
    (none.0, first_at device_of port bs at x (omega arith) none.1 is here)

-- one more member that lacks the port
pub lacks_more : {B : Type 0} (device_of : B → Device) (port : ℕ) (bs : List B) (at : ℕ) (x : B) →
    NoneHas device_of port (take at bs) → x ≡ get_or bs at x → (device_of x).port ≢ port → NoneHas device_of port (take (suc at) bs)
lacks_more device_of port [] at x none is other = tt
lacks_more device_of port (b ∷ bs) zero x none is other = (λ e. other (ap (λ y. (device_of y).port) is ∙ e), tt)
lacks_more device_of port (b ∷ bs) (suc at) x none is other = (none.0, lacks_more device_of port bs at x none.1 is other)

-- what the word of an exchange is
pub word_first : {B : Type 0} (device_of : B → Device) (request : PortRequest) (time : ℕ) (bs : List B) (at : ℕ) (old : B) →
    FirstHas device_of (port_of request) bs at → old ≡ get_or bs at old →
    exchange_word request time (map device_of bs) ≡ answer_of request time (device_of old)
word_first device_of request time [] at old first is = absurd first
word_first device_of request time (b ∷ bs) zero old first is =
    rw (eq-eqb (device_of b).port (port_of request) first) (ap (λ y. answer_of request time (device_of y)) (sym is))
word_first device_of request time (b ∷ bs) (suc at) old first is =
    rw (ne_eqb (device_of b).port (port_of request) first.0) (word_first device_of request time bs at old first.1 is)

pub word_lacking : {B : Type 0} (device_of : B → Device) (request : PortRequest) (time : ℕ) (bs : List B) →
    NoneHas device_of (port_of request) bs → exchange_word request time (map device_of bs) ≡ 0
word_lacking device_of request time [] none = refl
word_lacking device_of request time (b ∷ bs) none =
    rw (ne_eqb (device_of b).port (port_of request) none.0) (word_lacking device_of request time bs none.1)

-- what an exchange leaves
pub after_first : {B : Type 0} (device_of : B → Device) (request : PortRequest) (bs : List B) (at : ℕ) (old new : B) →
    FirstHas device_of (port_of request) bs at → old ≡ get_or bs at old → device_of new ≡ after_request request (device_of old) →
    map device_of (set bs at new) ≡ after_exchange request (map device_of bs)
after_first device_of request [] at old new first is does = absurd first
after_first device_of request (b ∷ bs) zero old new first is does =
    rw (eq-eqb (device_of b).port (port_of request) first)
    (ap (λ d. d ∷ map device_of bs) (does ∙ ap (λ y. after_request request (device_of y)) is))
after_first device_of request (b ∷ bs) (suc at) old new first is does =
    rw (ne_eqb (device_of b).port (port_of request) first.0)
    (ap (λ ds. device_of b ∷ ds) (after_first device_of request bs at old new first.1 is does))

pub after_lacking : {B : Type 0} (device_of : B → Device) (request : PortRequest) (bs : List B) →
    NoneHas device_of (port_of request) bs → map device_of bs ≡ after_exchange request (map device_of bs)
after_lacking device_of request [] none = refl
after_lacking device_of request (b ∷ bs) none =
    rw (ne_eqb (device_of b).port (port_of request) none.0)
    (ap (λ ds. device_of b ∷ ds) (after_lacking device_of request bs none.1))

-- what a count at the port is, and what it becomes
pub count_first : {B : Type 0} (device_of : B → Device) (count : B → ℕ) (port : ℕ) (bs : List B) (at : ℕ) (old : B) →
    FirstHas device_of port bs at → old ≡ get_or bs at old → count_at device_of count port bs ≡ count old
count_first device_of count port [] at old first is = absurd first
count_first device_of count port (b ∷ bs) zero old first is =
    rw (eq-eqb (device_of b).port port first) (ap count (sym is))
count_first device_of count port (b ∷ bs) (suc at) old first is =
    rw (ne_eqb (device_of b).port port first.0) (count_first device_of count port bs at old first.1 is)

pub count_first_set : {B : Type 0} (device_of : B → Device) (count : B → ℕ) (port : ℕ) (bs : List B) (at : ℕ) (old new : B) →
    FirstHas device_of port bs at → (device_of new).port ≡ port → count_at device_of count port (set bs at new) ≡ count new
count_first_set device_of count port [] at old new first same = absurd first
count_first_set device_of count port (b ∷ bs) zero old new first same = rw (eq-eqb (device_of new).port port same)
count_first_set device_of count port (b ∷ bs) (suc at) old new first same =
    rw (ne_eqb (device_of b).port port first.0) (count_first_set device_of count port bs at old new first.1 same)

-- the other members are kept
pub others_same : {B : Type 0} (device_of : B → Device) (port : ℕ) (bs : List B) → OthersKept device_of port bs bs
others_same device_of port [] = tt
others_same device_of port (b ∷ bs) = (λ _. refl, others_same device_of port bs)

pub others_first : {B : Type 0} (device_of : B → Device) (port : ℕ) (bs : List B) (at : ℕ) (new : B) →
    FirstHas device_of port bs at → OthersKept device_of port bs (set bs at new)
others_first device_of port [] at new first = absurd first
others_first device_of port (b ∷ bs) zero new first = (λ other. absurd (other first), others_same device_of port bs)
others_first device_of port (b ∷ bs) (suc at) new first = (λ _. refl, others_first device_of port bs at new first.1)

-- a list without its first member of a port
pub without_first : {B : Type 0} (device_of : B → Device) (port : ℕ) (bs : List B) (at : ℕ) →
    FirstHas device_of port bs at → remove bs at ≡ without device_of port bs
without_first device_of port [] at first = absurd first
without_first device_of port (b ∷ bs) zero first = rw (eq-eqb (device_of b).port port first)
without_first device_of port (b ∷ bs) (suc at) first =
    rw (ne_eqb (device_of b).port port first.0) (ap (λ ds. b ∷ ds) (without_first device_of port bs at first.1))

pub without_lacking : {B : Type 0} (device_of : B → Device) (port : ℕ) (bs : List B) →
    NoneHas device_of port bs → bs ≡ without device_of port bs
without_lacking device_of port [] none = refl
without_lacking device_of port (b ∷ bs) none =
    rw (ne_eqb (device_of b).port port none.0) (ap (λ ds. b ∷ ds) (without_lacking device_of port bs none.1))

pub has_first : {B : Type 0} (device_of : B → Device) (port : ℕ) (bs : List B) (at : ℕ) →
    FirstHas device_of port bs at → has_port device_of port bs ≡ true
has_first device_of port [] at first = absurd first
has_first device_of port (b ∷ bs) zero first = rw (eq-eqb (device_of b).port port first)
has_first device_of port (b ∷ bs) (suc at) first =
    rw (ne_eqb (device_of b).port port first.0) (has_first device_of port bs at first.1)

pub has_lacking : {B : Type 0} (device_of : B → Device) (port : ℕ) (bs : List B) →
    NoneHas device_of port bs → has_port device_of port bs ≡ false
has_lacking device_of port [] none = refl
has_lacking device_of port (b ∷ bs) none =
    rw (ne_eqb (device_of b).port port none.0) (has_lacking device_of port bs none.1)

-- room that is left
pub spare_left : {B : Type 0} (spare : B → ℕ) (n : ℕ) (bs : List B) →
    HasSpare spare (n + 1) bs → HasSpare spare n bs
spare_left spare n bs room k d within = let more = room k d within in omega arith

pub spare_first : {B : Type 0} (spare : B → ℕ) (n : ℕ) (bs : List B) (at : ℕ) (old new : B) →
    at < length bs → old ≡ get_or bs at old → spare old ≤ spare new + 1 →
    HasSpare spare (n + 1) bs → HasSpare spare n (set bs at new)
spare_first spare n bs at old new within is falls room =
    let had : n + 1 ≤ spare (get_or bs at old) = room at old within in
    let held : n + 1 ≤ spare old = subst (λ y. n + 1 ≤ spare y) (sym is) had in
    All-set (λ b. n ≤ spare b) bs at new (omega arith) (spare_left spare n bs room)

-- where the first member stands, it is in the list
pub first_within : {B : Type 0} (device_of : B → Device) (port : ℕ) (bs : List B) (at : ℕ) →
    FirstHas device_of port bs at → at < length bs
first_within device_of port [] at first = absurd first
first_within device_of port (b ∷ bs) zero first = omega arith
first_within device_of port (b ∷ bs) (suc at) first = let rest = first_within device_of port bs at first.1 in omega arith

-- its port is the port
pub first_port : {B : Type 0} (device_of : B → Device) (port : ℕ) (bs : List B) (at : ℕ) (old : B) →
    FirstHas device_of port bs at → old ≡ get_or bs at old → (device_of old).port ≡ port
first_port device_of port [] at old first is = absurd first
first_port device_of port (b ∷ bs) zero old first is = ap (λ y. (device_of y).port) is ∙ first
first_port device_of port (b ∷ bs) (suc at) old first is = first_port device_of port bs at old first.1 is

-- a request changes no port
pub request_port : (request : PortRequest) (device : Device) → (after_request request device).port ≡ device.port
request_port (Read port) device = refl
request_port (Write port word) device = refl
