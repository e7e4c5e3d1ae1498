-- The run of a deck's trial, from the parts of the deck that the machine was made of.
use Rattle.std.proofs.Common.{◌≡◌, ℕ, ◌+◌, ◌*◌, List, map, ap, subst, ◌∙◌, zero-add}
use Rattle.lvdc_port.specs.Device as device
use Rattle.lvdc_port.specs.Supplies.{supplied}
use Rattle.lvdc_map.specs.declared.placed.Placed.{Placed}
use Rattle.lvdc_plain.specs.Run.{Opening, IsOpening}
use Rattle.lvdc_plain.specs.Calls as plain_calls
use Rattle.lvdc_plain.specs.Stands as plain
use Rattle.lvdc_plain.specs.View as plain_view
use Rattle.lvdc_plain.specs.declared.records.PlainEnd.{PlainEnd}
use Rattle.lvdc_plain.specs.declared.records.Unplug.{Unplug}
use Rattle.lvdc_model.specs.declared.outcome.Outcome.{Outcome}
use Rattle.lvdc_machine.specs.Calls.{Begins}
use Rattle.lvdc_machine.specs.Causes.{EndHasCause}
use Rattle.lvdc_machine.specs.Stands.{Stands}
use Rattle.lvdc_machine.specs.View.{View, answer_of_end}
use Rattle.lvdc_machine.specs.declared.mode.Mode.{Mode}
use Rattle.lvdc_deck.specs.declared.deck.Deck.{Deck}
use Rattle.lvdc_command_run.specs.Trials.{trial_of}
use Rattle.lvdc_command_run.specs.Finished.{HasRun, HasRunPlainly}
use Rattle.lvdc_command_run.proofs.Counts.{AreStill, caused_since, plain_since}

-- the opening of these parts is that of the deck's trial
pub opening_same : (deck : Deck) (devices ready : List device.Device) (words : List Placed) (unplugs : List Unplug)
    → words ≡ deck.image.words → unplugs ≡ deck.unplugs → ready ≡ supplied deck.supplies devices
    → record { image = words; banks = deck.banks; start = deck.start; unplugs = unplugs; devices = ready } ≡ (trial_of devices deck).opening
opening_same deck devices ready words unplugs w u r =
    λ i. record { image = w i; banks = deck.banks; start = deck.start; unplugs = u i; devices = r i }

-- so what was made of them stands at its start
module _ (deck : Deck) (devices ready : List device.Device) (words : List Placed) (unplugs : List Unplug)
    (w : words ≡ deck.image.words) (u : unplugs ≡ deck.unplugs) (made_ready : ready ≡ supplied deck.supplies devices) where
  pub begins_ready : (mode : Mode) (limit : ℕ) (m : View) (now : List device.Device)
      → Begins (record {
        opening = record { image = words; banks = deck.banks; start = deck.start; unplugs = unplugs; devices = ready };
        script = deck.script;
      }) mode limit m now → Begins (trial_of devices deck) mode limit m now
  begins_ready mode limit m now begins =
      subst (λ (o : Opening). Begins (record { opening = o; script = deck.script }) mode limit m now) (opening_same deck devices ready words unplugs w u made_ready) begins

-- a machine that was made ready has run
pub has_run : {B : Type 0} (device_of : B → device.Device) (faults : B → ℕ) (deck : Deck) (old ready new : List B) → AreStill device_of faults old ready
    → (mode : Mode) (m : View) (end : Outcome) (count : ℕ) → count ≡ deck.count → IsOpening (trial_of (map device_of old) deck).opening → m.mode ≡ mode
    → Stands (trial_of (map device_of old) deck) (0 + 3 * count) m (map device_of new) → end ≡ answer_of_end m.end → EndHasCause device_of faults end ready new
    → HasRun device_of faults mode (trial_of (map device_of old) deck) deck.count old new m
has_run device_of faults deck old ready new still mode m end count is_count opens mode_is stands is cause =
    let T : ℕ → Type 0 = λ k. Stands (trial_of (map device_of old) deck) k m (map device_of new) in
    record {
      opening = opens;
      mode_is = mode_is;
      stands = subst T (zero-add (3 * count) ∙ ap (λ (n : ℕ). 3 * n) is_count) stands;
      cause = subst (λ (e : Outcome). EndHasCause device_of faults e old new) is (caused_since device_of faults end old ready new still cause);
    }

-- the same of the plain machine, which was made of the deck's parts
module _ {B : Type 0} (device_of : B → device.Device) (faults : B → ℕ) (deck : Deck) (old prepared new : List B)
    (words : List Placed) (unplugs : List Unplug) (ready : List device.Device) (w : words ≡ deck.image.words) (u : unplugs ≡ deck.unplugs)
    (made_ready : ready ≡ supplied deck.supplies (map device_of old)) where
  pub has_run_plainly : AreStill device_of faults old prepared → (m : plain_view.View) (end : PlainEnd)
      → plain.Stands (record { image = words; banks = deck.banks; start = deck.start; unplugs = unplugs; devices = ready }) (0 + deck.count) m (map device_of new)
      → end ≡ plain_view.answer_of_end m.end
      → plain_calls.PlainEndHasCause device_of faults end prepared new
      → HasRunPlainly device_of faults (trial_of (map device_of old) deck) deck.count old new m
  has_run_plainly still m end stands is cause =
      let S : Opening → Type 0 = λ o. plain.Stands o (0 + deck.count) m (map device_of new) in
      record {
        stands = subst (λ (k : ℕ). plain.Stands (trial_of (map device_of old) deck).opening k m (map device_of new)) (zero-add deck.count)
            (subst S (opening_same deck (map device_of old) ready words unplugs w u made_ready) stands);
        cause = subst (λ (e : PlainEnd). plain_calls.PlainEndHasCause device_of faults e old new) is (plain_since device_of faults end old prepared new still cause);
      }
