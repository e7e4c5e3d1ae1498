-- Where each copy hears the votes none waits for another: the next copies are those of the script.
use Rattle.std.proofs.Common.{◌≡◌, ℕ, zero, suc, ◌+◌, ◌-◌, ◌/◌, ◌%◌, ◌<◌, ◌⊎◌, inl, inr, Bool, true, false, ◌&&◌, if◌then◌else◌, List, [], ◌∷◌, map, refl, sym, ◌∙◌, ap, arith}
use Rattle.std.specs.Prelude.{All, Some, None}
use Rattle.std.specs.List.{list_any}
use Rattle.lvdc_vote.specs.Copies.{Copies, settled, vote_of, IsFresh}
use Rattle.lvdc_vote.specs.Harms.{harmed, harmed_by}
use Rattle.lvdc_modules.specs.Next.{renewed}
use Rattle.lvdc_modules.specs.Rows.{rows, bus_of}
use Rattle.lvdc_modules.specs.States.{timer_latches, locator_latches, decoder_latches, selector_latches, accumulator_latches, multiplier_latches, exchange_latches}
use Rattle.lvdc_modules.specs.Timer.{timer_row}
use Rattle.lvdc_modules.specs.Locator.{locator_row}
use Rattle.lvdc_modules.specs.Decoder.{decoder_row}
use Rattle.lvdc_modules.specs.Selector.{selector_row}
use Rattle.lvdc_modules.specs.Accumulator.{accumulator_row}
use Rattle.lvdc_modules.specs.Multiplier.{multiplier_row}
use Rattle.lvdc_modules.specs.Exchange.{exchange_row}
use Rattle.lvdc_modules.specs.declared.bus.Bus.{Bus}
use Rattle.lvdc_fault.specs.Events.{IsEvent}
use Rattle.lvdc_fault.specs.declared.event.Event.{Event}
use Rattle.lvdc_model.specs.Voted.{inputs, next_copies}
use Rattle.lvdc_forces.specs.InForce.{faults_at, harm_on, mark_at, IsInForce}
use Rattle.lvdc_logic.specs.Harmed.{after_harms, latched_under, three_harmed}
use Rattle.lvdc_logic.specs.Latching.{copies_in, latches_in, row_of, new_latches, AllFresh, AllSized, AreAlike}
use Rattle.lvdc_forces.specs.declared.in_force.Faults.{Faults}
use Rattle.lvdc_forces.specs.declared.in_force.InForce.{InForce}
use Rattle.lvdc_logic.specs.declared.triples.Triples.{Triples}
use Rattle.lvdc_logic.proofs.Commits.{untouched_copy}
use Rattle.lvdc_forces.proofs.PartLaws.{neither}
use Rattle.lvdc_logic.proofs.Under.{latched_is, HarmSuffices}

-- where none of all copies is deaf, each hears the votes
none_deaf : (copies : List Faults) (n : ℕ) → list_any (λ (f : Faults). f.deaf) copies ≡ false → (faults_at copies n).deaf ≡ false
none_deaf [] n h = refl
none_deaf (f ∷ fs) zero h = (neither f.deaf (list_any (λ (f : Faults). f.deaf) fs) h).0
none_deaf (f ∷ fs) (suc n) h = none_deaf fs n (neither f.deaf (list_any (λ (f : Faults). f.deaf) fs) h).1

-- each copy hears the votes
abbrev pub HearVotes : InForce → Triples → Bus → Type 0
HearVotes f t voted = (n : ℕ) → n < 21 → inputs (faults_at f.copies n).deaf (copies_in t) (n % 3 + 1) voted ≡ voted

pub hear-votes : (script : List Event) (step : ℕ) (f : InForce) (t : Triples) (voted : Bus) → IsInForce script step f
    → voted ≡ bus_of (map vote_of (copies_in t)) voted.memory voted.port → (f.deaf ≡ false) ⊎ AreAlike t → HearVotes f t voted
hear-votes script step f t voted in_force votes (inl hears) n h =
    ap (λ (deaf : Bool). inputs deaf (copies_in t) (n % 3 + 1) voted) (none_deaf f.copies n (sym in_force.deaf ∙ hears))
hear-votes script step f t voted in_force votes (inr alike) n h = by (faults_at f.copies n).deaf where
  by : (deaf : Bool) → inputs deaf (copies_in t) (n % 3 + 1) voted ≡ voted
  by false = refl
  by true = ap (λ (latches : List (List ℕ)). bus_of latches voted.memory voted.port) (alike (n % 3 + 1 - 1) (omega arith)) ∙ sym votes

and_false : (b : Bool) → (b && false) ≡ false
and_false true = refl
and_false false = refl

-- each copy has what the script makes it latch
copy_harmed : HarmSuffices → (script : List Event) (step : ℕ) (f : InForce) (t : Triples) (voted : Bus) → AllSized t → All IsEvent script → IsInForce script step f
    → HearVotes f t voted → (n : ℕ) → n < 21 → harmed_by (harm_on f n) (latches_in t n) (row_of (n / 3) voted) ≡ new_latches script step t voted n
unfolding latched_under new_latches
copy_harmed suffices script step f t voted sized events in_force hears n h = by (mark_at f.marks n) refl where
  by : (b : Bool) → mark_at f.marks n ≡ b
      → harmed_by (if b then Some (faults_at f.copies n).harm else None) (latches_in t n) (row_of (n / 3) voted) ≡ new_latches script step t voted n
  by true e =
      ap (λ (bus : Bus). harmed (latches_in t n) (row_of (n / 3) bus) (faults_at f.copies n).harm) (sym (hears n h))
      ∙ latched_is suffices script step f t voted sized events in_force n h
  by false e =
      untouched_copy script step (n / 3 + 1) (n % 3 + 1) (row_of (n / 3)) (latches_in t n) (copies_in t) voted
      (in_force.others n h (ap (λ (mark : Bool). f.any && mark) e ∙ and_false f.any))

-- the three copies of a module
three_are : (f : InForce) (first : ℕ) (t : Copies) (row a b c : List ℕ) → harmed_by (harm_on f first) t.one row ≡ a
    → harmed_by (harm_on f (first + 1)) t.two row ≡ b → harmed_by (harm_on f (first + 2)) t.three row ≡ c → three_harmed f first t row ≡ settled a b c
three_are f first t row a b c one two three = λ j. settled (one j) (two j) (three j)

-- the copies of the next step
pub harms_are : HarmSuffices → (script : List Event) (step : ℕ) (f : InForce) (t : Triples) (voted : Bus) → AllSized t → All IsEvent script
    → IsInForce script step f → HearVotes f t voted
    → copies_in (after_harms f t (renewed voted)) ≡ next_copies script step 1 rows (copies_in t) (copies_in t) voted
unfolding new_latches
harms_are suffices script step f t voted sized events in_force hears =
    let latched = new_latches script step t voted in
    let each = copy_harmed suffices script step f t voted sized events in_force hears in
    rw (
      three_are f 0 t.timer (timer_row voted) (latched 0) (latched 1) (latched 2) (each 0 (omega arith)) (each 1 (omega arith)) (each 2 (omega arith)),
      three_are f 3 t.locator (locator_row voted) (latched 3) (latched 4) (latched 5) (each 3 (omega arith)) (each 4 (omega arith)) (each 5 (omega arith)),
      three_are f 6 t.decoder (decoder_row voted) (latched 6) (latched 7) (latched 8) (each 6 (omega arith)) (each 7 (omega arith)) (each 8 (omega arith)),
      three_are f 9 t.selector (selector_row voted) (latched 9) (latched 10) (latched 11) (each 9 (omega arith)) (each 10 (omega arith)) (each 11 (omega arith)),
      three_are f 12 t.accumulator (accumulator_row voted) (latched 12) (latched 13) (latched 14) (each 12 (omega arith)) (each 13 (omega arith)) (each 14 (omega arith)),
      three_are f 15 t.multiplier (multiplier_row voted) (latched 15) (latched 16) (latched 17) (each 15 (omega arith)) (each 16 (omega arith)) (each 17 (omega arith)),
      three_are f 18 t.exchange (exchange_row voted) (latched 18) (latched 19) (latched 20) (each 18 (omega arith)) (each 19 (omega arith)) (each 20 (omega arith)),
    ) refl

-- and no copy has latched since
three_fresh : (f : InForce) (first : ℕ) (t : Copies) (next : List ℕ) → IsFresh (three_harmed f first t next)
three_fresh f first t next = record { one = refl; two = refl; three = refl }

pub harms_fresh : (f : InForce) (t : Triples) (b : Bus) → AllFresh (after_harms f t b)
harms_fresh f t b =
    record {
      timer = three_fresh f 0 t.timer (timer_latches b.timer);
      locator = three_fresh f 3 t.locator (locator_latches b.locator);
      decoder = three_fresh f 6 t.decoder (decoder_latches b.decoder);
      selector = three_fresh f 9 t.selector (selector_latches b.selector);
      accumulator = three_fresh f 12 t.accumulator (accumulator_latches b.accumulator);
      multiplier = three_fresh f 15 t.multiplier (multiplier_latches b.multiplier);
      exchange = three_fresh f 18 t.exchange (exchange_latches b.exchange);
    }
