-- A saved text tells the run that it was saved from.
use Rattle.std.proofs.Common.{◌≡◌, ℕ, ◌/◌, ◌≤◌, nat_lt, Bool, true, false, List, [], ◌∷◌, All, map, length, get_or, Result, Ok, Err, Some, refl, sym, ap, subst, ◌∙◌, arith}
use Rattle.std.specs.Bool.{if◌then◌else◌}
use Rattle.std.proofs.lemmas.Bool.{ltb-false}
use Rattle.std.proofs.lemmas.List.Elements.{All-head, All-tail}
use Rattle.lvdc_port.specs.Device.{Device}
use Rattle.lvdc_port.specs.Devices.{AreDistinct}
use Rattle.lvdc_port.specs.declared.device.Kind.{Kind}
use Rattle.lvdc_model.specs.Runs.{guarded}
use Rattle.lvdc_model.specs.Trial.{Trial}
use Rattle.lvdc_model.specs.Voted.{Voted}
use Rattle.lvdc_plain.specs.declared.records.Unplug.{Unplug}
use Rattle.lvdc_deck.specs.Deck.{and_then, deck_of}
use Rattle.lvdc_deck.specs.Named.{NameDevices}
use Rattle.lvdc_fault.specs.declared.TheConstants.{MOST_TIMES}
use Rattle.lvdc_orders.specs.declared.orders.TheConstants.{MOST_ORDERS}
use Rattle.lvdc_deck.specs.declared.deck.Deck.{Deck}
use Rattle.lvdc_deck.specs.declared.fault.DeckFault.{DeckFault}
use Rattle.lvdc_deck.specs.declared.fault.DeckFault.TheVariants.{CountTooLarge}
use Rattle.lvdc_save_read.specs.Accepted.{kind_among, AreUnplugs, GoesWith, with_orders}
use Rattle.lvdc_save.specs.Printed.{IsPrinted, IsOfADeck}
use Rattle.lvdc_save.specs.Reading.{saved_of}
use Rattle.lvdc_save.specs.Saved.{entries_of, saved_text}
use Rattle.lvdc_save.specs.declared.saved.Saved.{Saved}
use Rattle.lvdc_command_run.specs.Trials.{trial_of}
use Rattle.lvdc_command_save.specs.Answers.{state_after, saved_after, deck_within}
use Rattle.lvdc_command_save.specs.Halves.{IsSaveOf}
use Rattle.lvdc_command_save.specs.States.{states_of}
use Rattle.lvdc_command_resume.specs.Finished.{MeansOf}
use Rattle.lvdc_command_resume.specs.Restore.{left_before, with_states, devices_of}
use Rattle.lvdc_cli.specs.Alike.{renewed, IsDevice, AreAlike}
use Rattle.lvdc_cli.specs.Goes.{TellsRun}
use Rattle.lvdc_cli.proofs.Going.{HasGone, times-gone}
use Rattle.lvdc_cli.proofs.HeldWords.{words-held, words-gone}
use Rattle.lvdc_cli.proofs.KindsLeft.{kind-renewed, distinct-renewed, renewed-distinct, distinct-left, kind-left, left-gone}
use Rattle.lvdc_cli.proofs.Renewing.{AreDevices, renewed-supplied, devices-supplied}
use Rattle.lvdc_cli.proofs.Restoring.{restored}

are-devices : (ds : List Device) → All IsDevice ds → AreDevices ds
are-devices [] h = tt
are-devices (d ∷ ds) h = (All-head IsDevice d ds h, are-devices ds (All-tail IsDevice d ds h))

-- ---- the deck

record IsWithin (n : ℕ) (read : Result Deck DeckFault) (deck : Deck) : Type 0 where
  pub means : read ≡ Ok deck
  pub within : n ≤ deck.count

within-by : (n : ℕ) (d deck : Deck) (t : Bool) → nat_lt d.count n ≡ t
    → (if t then Err (CountTooLarge d.run_line) else Ok d) ≡ Ok deck → IsWithin n (Ok d) deck
within-by n d deck true less is = absurd (cc is)
within-by n d deck false less is =
    let most = ltb-false d.count n less in
    let same : d ≡ deck = cc is in
    record { means = is; within = subst (λ (x : Deck). n ≤ x.count) same (omega (arith, most)) }

deck-read : (n : ℕ) (read : Result Deck DeckFault) (deck : Deck) → and_then read (deck_within n) ≡ Ok deck → IsWithin n read deck
deck-read n (Ok d) deck is = within-by n d deck (nat_lt d.count n) refl is
deck-read n (Err fault) deck is = absurd (cc is)

-- ---- the state, and what the text says of it

module _ (n : ℕ) (bytes : List ℕ) (before now : List Device) (text : List ℕ) (h : IsSaveOf n bytes before text) (alike : AreAlike before now) where
  abbrev o : Trial
  o = trial_of before h.deck

  abbrev v : Voted
  v = state_after before h.deck n

  abbrev s : Saved
  s = saved_after before h.deck n

  read_deck : IsWithin n (deck_of bytes before false) h.deck
  read_deck = deck-read n (deck_of bytes before false) h.deck h.means

  gone : HasGone o n v
  gone = times-gone o n (devices-supplied h.deck.supplies before (are-devices before alike.devices)) h.run.going

  -- the devices that are left, in their kinds' first states
  left : map renewed v.devices ≡ left_before h.deck.unplugs n now
  left =
      gone.devices.same ∙ ap (left_before h.deck.unplugs n) (renewed-supplied h.deck.supplies before ∙ sym alike.first)

  times : v.steps / 3 ≡ n
  times = let steps = gone.steps in omega (arith, steps)

  distinct-now : AreDistinct now
  distinct-now = subst AreDistinct (sym alike.first) (distinct-renewed before h.distinct)

  distinct-then : AreDistinct v.devices
  distinct-then = renewed-distinct v.devices (subst AreDistinct (sym left) (distinct-left h.deck.unplugs n now distinct-now))

  -- with their words they are those of the state
  same-devices : v.devices ≡ devices_of s now
  same-devices =
      sym (restored v.devices distinct-then gone.devices.devices)
      ∙ ap (with_states (states_of v.devices)) (left ∙ ap (λ (t : ℕ). left_before h.deck.unplugs t now) (sym times))

  kind-then : (port : ℕ) → kind_among v.devices port ≡ kind_among (left_before h.deck.unplugs n now) port
  kind-then port = sym (kind-renewed port v.devices) ∙ ap (λ (ds : List Device). kind_among ds port) left

  kinds : (port : ℕ) (kind : Kind) → kind_among v.devices port ≡ Some kind → kind_among now port ≡ Some kind
  kinds port kind is = kind-left h.deck.unplugs n port kind now distinct-now (sym (kind-then port) ∙ is)

  kind-before : (port : ℕ) → kind_among now port ≡ kind_among before port
  kind-before port = ap (λ (ds : List Device). kind_among ds port) alike.first ∙ kind-renewed port before

  unplugs : NameDevices before h.deck.unplugs → AreUnplugs now n (states_of v.devices) h.deck.unplugs
  unplugs named =
      record {
        there = λ k d within none. named.there k d within (sym (kind-before (get_or h.deck.unplugs k d).port) ∙ none);
        once = named.once;
        gone = λ k d within early.
            words-gone now v.devices gone.devices.devices kinds (get_or h.deck.unplugs k d).port
            (kind-then (get_or h.deck.unplugs k d).port ∙ left-gone h.deck.unplugs n now distinct-now k d within early);
      }

  goes_with : NameDevices before h.deck.unplugs → length h.deck.orders ≤ MOST_ORDERS → GoesWith now s
  goes_with named few =
      let steps = gone.steps in
      let most = read_deck.within in
      record {
        whole = h.run.taken.whole;
        within = omega (arith, steps, most);
        states = words-held now v.devices gone.devices.devices kinds;
        unplugs = subst (λ (t : ℕ). AreUnplugs now t (states_of v.devices) h.deck.unplugs) (sym times) (unplugs named);
        events = h.runnable.few;
        orders = few;
      }

  of_a_deck : All (λ (unplug : Unplug). unplug.time ≤ MOST_TIMES) h.deck.unplugs → IsOfADeck s
  of_a_deck early =
      let steps = gone.steps in
      let most = read_deck.within in
      let count = h.runnable.count in
      record { steps = omega (arith, steps, most, count); count = count; times = early; events = h.runnable.events }

  means : MeansOf (with_orders s) now o (guarded o v.steps)
  means =
      subst (λ (k : ℕ). MeansOf (with_orders s) now o (guarded o k)) (sym gone.steps)
      (record { script = refl; unplugs = refl; banks = refl; state = h.run.taken.state; left = same-devices })

  -- it tells the run
  pub tells-run : NameDevices before h.deck.unplugs → length h.deck.orders ≤ MOST_ORDERS → All (λ (unplug : Unplug). unplug.time ≤ MOST_TIMES) h.deck.unplugs
      → ((devices : List Device) (s : Saved) → All IsPrinted (entries_of s) → GoesWith devices s → saved_of devices (saved_text s) ≡ Ok (with_orders s))
      → TellsRun bytes before now text
  tells-run named few early back =
      record {
        deck = h.deck;
        means = read_deck.means;
        opening = h.run.opening;
        saved = with_orders s;
        read = ap (saved_of now) h.run.is ∙ back now s (h.run.taken.printed (of_a_deck early)) (goes_with named few);
        count = refl;
        state = means;
      }

-- the same with the laws of all decks
pub saved-tells : (n : ℕ) (bytes : List ℕ) (before now : List Device) (text : List ℕ) → IsSaveOf n bytes before text → AreAlike before now
    → ((bytes : List ℕ) (devices : List Device) (debugging : Bool) (deck : Deck) → deck_of bytes devices debugging ≡ Ok deck → NameDevices devices deck.unplugs)
    → ((bytes : List ℕ) (devices : List Device) (debugging : Bool) (deck : Deck) → deck_of bytes devices debugging ≡ Ok deck → length deck.orders ≤ MOST_ORDERS)
    → ((bytes : List ℕ) (devices : List Device) (debugging : Bool) (deck : Deck) → deck_of bytes devices debugging ≡ Ok deck
    → All (λ (unplug : Unplug). unplug.time ≤ MOST_TIMES) deck.unplugs)
    → ((devices : List Device) (s : Saved) → All IsPrinted (entries_of s) → GoesWith devices s → saved_of devices (saved_text s) ≡ Ok (with_orders s))
    → TellsRun bytes before now text
saved-tells n bytes before now text h alike named few early back =
    let means = (deck-read n (deck_of bytes before false) h.deck h.means).means in
    tells-run n bytes before now text h alike (named bytes before false h.deck means) (few bytes before false h.deck means) (early bytes before false h.deck means) back
