-- The devices that lines of earlier times have taken away.
use Rattle.std.proofs.Common.{◌≡◌, ℕ, ◌+◌, ◌<◌, ◌≤◌, suc, List, [], ◌∷◌, length, get_or, drop, drop-cons, Bool, true, false, nat_lt, map, refl, sym, ap, ◌∙◌, subst, add-one}
use Rattle.std.specs.Bool.{if◌then◌else◌}
use Rattle.std.proofs.lemmas.Bool.{true≢false, lt-ltb, le-ltb}
use Rattle.std.proofs.lemmas.List.{drop_all}
use Rattle.lvdc_port.specs.Device.{Device}
use Rattle.lvdc_port.specs.Devices.{without, has_port, AreDistinct}
use Rattle.lvdc_port.proofs.Lists.{map-without, lacks-without, distinct-without, count-without}
use Rattle.lvdc_plain.proofs.Causes.{since-more}
use Rattle.lvdc_plain.specs.Lists.{Since}
use Rattle.lvdc_plain.specs.declared.records.Unplug.{Unplug}
use Rattle.lvdc_command_resume.specs.Restore.{left_before}

-- ---- one more line is read, and then no more

left_more : (lines : List Unplug) (times i : ℕ) (d : Unplug) (ds new : List Device) (t : Bool) → i < length lines
    → nat_lt (get_or lines i d).time times ≡ t → new ≡ (if t then without (λ x. x) (get_or lines i d).port ds else ds)
    → left_before (drop (i + 1) lines) times new ≡ left_before (drop i lines) times ds
left_more lines times i d ds new t within test is =
    rw add-one (
    ap (λ xs. left_before (drop (suc i) lines) times xs)
    (is ∙ ap (λ b. if b then without (λ x. x) (get_or lines i d).port ds else ds) (sym test))
    ∙ sym (ap (λ ls. left_before ls times ds) (drop-cons lines i d within))
    )

-- a line of an earlier time takes its device away
pub left-taken : {B : Type 0} (device_of : B → Device) (lines : List Unplug) (times i : ℕ) (d : Unplug) (bs new : List B) → i < length lines
    → (get_or lines i d).time < times → new ≡ without device_of (get_or lines i d).port bs
    → left_before (drop (i + 1) lines) times (map device_of new) ≡ left_before (drop i lines) times (map device_of bs)
left-taken device_of lines times i d bs new within early is =
    left_more lines times i d (map device_of bs) (map device_of new) true within (lt-ltb (get_or lines i d).time times early)
    (ap (λ xs. map device_of xs) is ∙ map-without device_of (get_or lines i d).port bs)

-- another one leaves all
pub left-kept : {B : Type 0} (device_of : B → Device) (lines : List Unplug) (times i : ℕ) (d : Unplug) (bs new : List B) → i < length lines
    → times ≤ (get_or lines i d).time → new ≡ bs
    → left_before (drop (i + 1) lines) times (map device_of new) ≡ left_before (drop i lines) times (map device_of bs)
left-kept device_of lines times i d bs new within late is =
    left_more lines times i d (map device_of bs) (map device_of new) false within (le-ltb (get_or lines i d).time times late)
    (ap (λ xs. map device_of xs) is)

pub left-done : (lines : List Unplug) (times i : ℕ) (ds : List Device) → length lines ≤ i → left_before (drop i lines) times ds ≡ ds
left-done lines times i ds past = ap (λ ls. left_before ls times ds) (drop_all i lines past)

-- ---- the devices that are left

pub distinct-left : (lines : List Unplug) (times : ℕ) (ds : List Device) → AreDistinct ds → AreDistinct (left_before lines times ds)
distinct-left [] times ds apart = apart
distinct-left (line ∷ lines) times ds apart =
    elim (nat_lt line.time times) as (λ t. AreDistinct (left_before lines times (if t then without (λ x. x) line.port ds else ds))) [
      | true ↦ distinct-left lines times (without (λ x. x) line.port ds) (distinct-without line.port ds apart)
      | false ↦ distinct-left lines times ds apart
    ]

has-without : {B : Type 0} (device_of : B → Device) (p q : ℕ) (bs : List B) (t : Bool) → has_port device_of p bs ≡ t
    → has_port device_of p (without device_of q bs) ≡ true → t ≡ true
has-without device_of p q bs true is has = refl
has-without device_of p q bs false is has = absurd (true≢false (sym has ∙ lacks-without device_of p q bs is))

-- one that is taken away leaves the counts of the others
pub since-without : {B : Type 0} {device_of : B → Device} {count : B → ℕ} {old mid : List B} → Since device_of count old mid
    → (port : ℕ) (new : List B) → AreDistinct (map device_of mid) → new ≡ without device_of port mid → Since device_of count old new
since-without {device_of = device_of} {count = count} {old = old} {mid = mid} h port new apart is =
    subst (λ bs. Since device_of count old bs) (sym is)
    (since-more h (without device_of port mid)
    (λ p has. has-without device_of p port mid (has_port device_of p mid) refl has)
    (λ p has. count-without device_of count p port mid apart has))

-- and those that are left stay distinct
pub distinct-taken : {B : Type 0} (device_of : B → Device) (port : ℕ) (bs new : List B) → AreDistinct (map device_of bs) → new ≡ without device_of port bs
    → AreDistinct (map device_of new)
distinct-taken device_of port bs new apart is =
    subst (λ xs. AreDistinct (map device_of xs)) (sym is)
    (subst AreDistinct (sym (map-without device_of port bs)) (distinct-without port (map device_of bs) apart))

-- where none was taken away, all is as before
pub distinct-kept : {B : Type 0} (device_of : B → Device) (bs new : List B) → AreDistinct (map device_of bs) → new ≡ bs → AreDistinct (map device_of new)
distinct-kept device_of bs new apart is = subst (λ xs. AreDistinct (map device_of xs)) (sym is) apart

pub since-kept : {B : Type 0} {device_of : B → Device} {count : B → ℕ} {old mid : List B} → Since device_of count old mid → (new : List B) → new ≡ mid
    → Since device_of count old new
since-kept {device_of = device_of} {count = count} {old = old} h new is = subst (λ bs. Since device_of count old bs) (sym is) h
