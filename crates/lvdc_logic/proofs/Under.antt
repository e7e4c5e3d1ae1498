-- What a copy latches under what is in force on it is what the script makes it latch.
use Rattle.std.proofs.Common.{◌≡◌, ℕ, ◌+◌, ◌/◌, ◌%◌, ◌<◌, ◌≤◌, Bool, true, false, ◌==◌, if◌then◌else◌, List, length, refl, sym, ◌∙◌, subst, arith}
use Rattle.std.specs.Prelude.{All}
use Rattle.lvdc_vote.specs.Harms.{harmed, harm_of}
use Rattle.lvdc_vote.specs.Latches.{latched_by, FitsLatches}
use Rattle.lvdc_vote.specs.Copies.{Copies, copy_of, IsSized}
use Rattle.lvdc_vote.specs.declared.hurt.Hurt.{Hurt}
use Rattle.lvdc_vote.specs.Numbers.{latches_of}
use Rattle.lvdc_modules.specs.declared.bus.Bus.{Bus}
use Rattle.lvdc_fault.specs.Script.{is_deaf}
use Rattle.lvdc_fault.specs.declared.event.Event.{Event}
use Rattle.lvdc_fault.specs.Hurts.{hurts_on}
use Rattle.lvdc_model.specs.Voted.{inputs}
use Rattle.lvdc_fault.specs.Events.{IsEvent}
use Rattle.lvdc_forces.specs.InForce.{faults_at, IsInForce}
use Rattle.lvdc_logic.specs.Harmed.{latched_under}
use Rattle.lvdc_logic.specs.Latching.{copies_in, latches_in, row_of, new_latches, AllSized}
use Rattle.lvdc_logic.specs.Seven.{of_seven}
use Rattle.lvdc_forces.specs.declared.in_force.InForce.{InForce}
use Rattle.lvdc_logic.specs.declared.triples.Triples.{Triples}
use Rattle.lvdc_logic.proofs.HurtsFit.{hurts_fit}
use Rattle.lvdc_logic.proofs.Numbers.{seven}

-- what all hurts come to does what they do
abbrev pub HarmSuffices : Type 0
HarmSuffices =
    (hurts : List Hurt) (old next : List ℕ) → length old ≤ 5 → length next ≡ length old → All (FitsLatches (length old)) hurts
    → harmed old next (harm_of hurts) ≡ latched_by old next hurts

-- each copy of a module has so many latches
sized_copy : (n copy : ℕ) (t : Copies) → IsSized n t → length (copy_of t copy) ≡ n
sized_copy n copy t sized = by (copy == 0) (copy == 1) where
  by : (a b : Bool) → length (if a then t.one else (if b then t.two else t.three)) ≡ n
  by true b = sized.one
  by false true = sized.two
  by false false = sized.three

-- a copy of a module has its latches, no more than five, and as many follow from what it reads
record Counts (t : Triples) (bus : Bus) (copy k : ℕ) : Type 0 where
  latches : length (of_seven (copy_of t.timer copy) (copy_of t.locator copy) (copy_of t.decoder copy) (copy_of t.selector copy) (copy_of t.accumulator copy) (copy_of t.multiplier copy) (copy_of t.exchange copy) k) ≡ latches_of (k + 1)
  next : length (row_of k bus) ≡ latches_of (k + 1)
  few : latches_of (k + 1) ≤ 5

counts_are : (t : Triples) (bus : Bus) (copy : ℕ) → AllSized t → (k : ℕ) → k < 7 → Counts t bus copy k
counts_are t bus copy sized =
    seven (Counts t bus copy)
    (record { latches = sized_copy 2 copy t.timer sized.timer; next = refl; few = omega arith })
    (record { latches = sized_copy 2 copy t.locator sized.locator; next = refl; few = omega arith })
    (record { latches = sized_copy 1 copy t.decoder sized.decoder; next = refl; few = omega arith })
    (record { latches = sized_copy 1 copy t.selector sized.selector; next = refl; few = omega arith })
    (record { latches = sized_copy 2 copy t.accumulator sized.accumulator; next = refl; few = omega arith })
    (record { latches = sized_copy 5 copy t.multiplier sized.multiplier; next = refl; few = omega arith })
    (record { latches = sized_copy 2 copy t.exchange sized.exchange; next = refl; few = omega arith })

-- each of the 21 copies
pub latched_is : HarmSuffices → (script : List Event) (step : ℕ) (force : InForce) (t : Triples) (voted : Bus) → AllSized t → All IsEvent script → IsInForce script step force
    → (n : ℕ) → n < 21 → latched_under (faults_at force.copies n) t voted n ≡ new_latches script step t voted n
unfolding latched_under new_latches
latched_is suffices script step force t voted sized events in_force n h =
    let m = n / 3 + 1 in
    let c = n % 3 + 1 in
    let bus = inputs (is_deaf script step m c) (copies_in t) c voted in
    let counts = counts_are t bus (n % 3) sized (n / 3) (omega (arith, h)) in
    rw (in_force.copies n h)
    (suffices (hurts_on step m c script) (latches_in t n) (row_of (n / 3) bus)
    (omega (arith, counts.latches, counts.few))
    (counts.next ∙ sym counts.latches)
    (subst (λ l. All (FitsLatches l) (hurts_on step m c script)) (sym counts.latches) (hurts_fit step m c script events)))
