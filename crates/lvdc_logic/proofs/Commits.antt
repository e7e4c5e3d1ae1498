-- Where all 21 copies that are named have latched, the next copies are those of the script, in whatever order.
use Rattle.std.proofs.Common.{◌≡◌, ℕ, ◌+◌, ◌/◌, ◌%◌, ◌<◌, Bool, true, false, List, refl, ◌∙◌, arith, None, Option}
use Rattle.std.specs.Prelude.{◌==◌, if◌then◌else◌, unwrap_or}
use Rattle.std.specs.List.{list_any}
use Rattle.lvdc_vote.specs.Copies.{Copies, after_settle, settled, IsFresh}
use Rattle.lvdc_modules.specs.Rows.{rows}
use Rattle.lvdc_modules.specs.Timer.{timer_row}
use Rattle.lvdc_modules.specs.Locator.{locator_row}
use Rattle.lvdc_modules.specs.Decoder.{decoder_row}
use Rattle.lvdc_modules.specs.Selector.{selector_row}
use Rattle.lvdc_modules.specs.Accumulator.{accumulator_row}
use Rattle.lvdc_modules.specs.Multiplier.{multiplier_row}
use Rattle.lvdc_modules.specs.Exchange.{exchange_row}
use Rattle.lvdc_modules.specs.declared.bus.Bus.{Bus}
use Rattle.lvdc_fault.specs.declared.event.Event.{Event}
use Rattle.lvdc_model.specs.Voted.{next_copy, next_copies}
use Rattle.lvdc_logic.specs.declared.triples.Triples.{Triples}
use Rattle.lvdc_forces.specs.Untouched.{IsUntouched}
use Rattle.lvdc_logic.specs.Latching.{copies_in, latches_in, row_of, new_latches, latched_named, after_named, after_numbers, after_steps, AllFresh}

-- a list has each of the 21 numbers that is named
abbrev HasNamed : (ℕ → Bool) → List ℕ → Type 0
HasNamed named order = (c : ℕ) → c < 21 → named c ≡ true → list_any (λ d. d == c) order ≡ true

-- a copy in the next step: what it latched where it is named, or these words
abbrev named_or : (ℕ → Bool) → (ℕ → List ℕ) → List ℕ → ℕ → List ℕ
named_or named words next n = if named n then words n else next

copy_settled : (named : Bool) (order : List ℕ) (n : ℕ) (words next : List ℕ) (had : Option (List ℕ)) → had ≡ None → (named ≡ true → list_any (λ d. d == n) order ≡ true)
    → unwrap_or (latched_named named order n words had) next ≡ (if named then words else next)
copy_settled true order n words next had none all = rw (all refl) refl
copy_settled false order n words next had none all = rw none refl

-- the three copies of a module, in whatever order those that are named latched
three_settled : (t : Copies) (named : ℕ → Bool) (order : List ℕ) (first : ℕ) (words : ℕ → List ℕ) (next : List ℕ) → IsFresh t → HasNamed named order → first + 2 < 21
    → after_settle (after_named t named order first words) next ≡ settled (named_or named words next first) (named_or named words next (first + 1)) (named_or named words next (first + 2))
three_settled t named order first words next fresh all h =
    rw (
      copy_settled (named first) order first (words first) next t.shadow_one fresh.one (all first (omega (arith, h))),
      copy_settled (named (first + 1)) order (first + 1) (words (first + 1)) next t.shadow_two fresh.two (all (first + 1) (omega (arith, h))),
      copy_settled (named (first + 2)) order (first + 2) (words (first + 2)) next t.shadow_three fresh.three (all (first + 2) h),
    ) refl

-- a copy to which a script does nothing latches its row of the votes
pub untouched_copy : (script : List Event) (step number copy : ℕ) (row : Bus → List ℕ) (old : List ℕ) (copies : List Copies) (voted : Bus) → IsUntouched script step number copy
    → row voted ≡ next_copy script step number copy row old copies voted
untouched_copy script step number copy row old copies voted h = rw (h.heard, h.unhurt) refl

-- the copies of a module in the next step
module_steps : (t : Copies) (named : ℕ → Bool) (order : List ℕ) (first : ℕ) (words : ℕ → List ℕ) (next a b c : List ℕ) → IsFresh t → HasNamed named order → first + 2 < 21
    → named_or named words next first ≡ a → named_or named words next (first + 1) ≡ b → named_or named words next (first + 2) ≡ c
    → after_settle (after_named t named order first words) next ≡ settled a b c
module_steps t named order first words next a b c fresh all h one two three =
    three_settled t named order first words next fresh all h ∙ (λ j. settled (one j) (two j) (three j))

-- each copy
copy_steps : (script : List Event) (step : ℕ) (t : Triples) (named : ℕ → Bool) (voted : Bus) (words : ℕ → List ℕ)
    → ((n : ℕ) → n < 21 → words n ≡ new_latches script step t voted n) → ((n : ℕ) → n < 21 → named n ≡ false → IsUntouched script step (n / 3 + 1) (n % 3 + 1))
    → (n : ℕ) → n < 21 → named_or named words (row_of (n / 3) voted) n ≡ new_latches script step t voted n
unfolding new_latches
copy_steps script step t named voted words are others n h = by (named n) refl where
  by : (b : Bool) → named n ≡ b → (if b then words n else row_of (n / 3) voted) ≡ new_latches script step t voted n
  by true e = are n h
  by false e = untouched_copy script step (n / 3 + 1) (n % 3 + 1) (row_of (n / 3)) (latches_in t n) (copies_in t) voted (others n h e)

-- the copies of the next step
pub steps_are : (script : List Event) (step : ℕ) (t : Triples) (named : ℕ → Bool) (order : List ℕ) (voted : Bus) (words : ℕ → List ℕ) → AllFresh t
    → ((n : ℕ) → n < 21 → words n ≡ new_latches script step t voted n) → HasNamed named order → ((n : ℕ) → n < 21 → named n ≡ false → IsUntouched script step (n / 3 + 1) (n % 3 + 1))
    → copies_in (after_steps (after_numbers t named order words) voted) ≡ next_copies script step 1 rows (copies_in t) (copies_in t) voted
unfolding new_latches
steps_are script step t named order voted words fresh are all others =
    let latched = new_latches script step t voted in
    let each = copy_steps script step t named voted words are others in
    rw (
      module_steps t.timer named order 0 words (timer_row voted) (latched 0) (latched 1) (latched 2) fresh.timer all (omega arith) (each 0 (omega arith)) (each 1 (omega arith)) (each 2 (omega arith)),
      module_steps t.locator named order 3 words (locator_row voted) (latched 3) (latched 4) (latched 5) fresh.locator all (omega arith) (each 3 (omega arith)) (each 4 (omega arith)) (each 5 (omega arith)),
      module_steps t.decoder named order 6 words (decoder_row voted) (latched 6) (latched 7) (latched 8) fresh.decoder all (omega arith) (each 6 (omega arith)) (each 7 (omega arith)) (each 8 (omega arith)),
      module_steps t.selector named order 9 words (selector_row voted) (latched 9) (latched 10) (latched 11) fresh.selector all (omega arith) (each 9 (omega arith)) (each 10 (omega arith)) (each 11 (omega arith)),
      module_steps t.accumulator named order 12 words (accumulator_row voted) (latched 12) (latched 13) (latched 14) fresh.accumulator all (omega arith) (each 12 (omega arith)) (each 13 (omega arith)) (each 14 (omega arith)),
      module_steps t.multiplier named order 15 words (multiplier_row voted) (latched 15) (latched 16) (latched 17) fresh.multiplier all (omega arith) (each 15 (omega arith)) (each 16 (omega arith)) (each 17 (omega arith)),
      module_steps t.exchange named order 18 words (exchange_row voted) (latched 18) (latched 19) (latched 20) fresh.exchange all (omega arith) (each 18 (omega arith)) (each 19 (omega arith)) (each 20 (omega arith)),
    ) refl

-- after a step no copy of a module has latched
step_fresh : (t : Copies) (next : List ℕ) → IsFresh (after_settle t next)
step_fresh t next = record { one = refl; two = refl; three = refl }

pub steps_fresh : (t : Triples) (voted : Bus) → AllFresh (after_steps t voted)
steps_fresh t voted =
    record {
      timer = step_fresh t.timer (timer_row voted);
      locator = step_fresh t.locator (locator_row voted);
      decoder = step_fresh t.decoder (decoder_row voted);
      selector = step_fresh t.selector (selector_row voted);
      accumulator = step_fresh t.accumulator (accumulator_row voted);
      multiplier = step_fresh t.multiplier (multiplier_row voted);
      exchange = step_fresh t.exchange (exchange_row voted);
    }
