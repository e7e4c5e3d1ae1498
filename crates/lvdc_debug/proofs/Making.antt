-- A session's devices, from those that were made ready for it.
use Rattle.std.proofs.Common.{◌≡◌, ℕ, List, map, subst}
use Rattle.std.specs.declared.option.Option.{Option}
use Rattle.lvdc_port.specs.Device as device
use Rattle.lvdc_port.specs.Devices.{count_at}
use Rattle.lvdc_model.specs.declared.outcome.Outcome.{Outcome}
use Rattle.lvdc_deck.specs.declared.deck.Deck.{Deck}
use Rattle.lvdc_command_run.specs.Ready.{AreSupplied}
use Rattle.lvdc_debug.specs.Standing.{CausedSince}
use Rattle.lvdc_debug.specs.Replies.{IsUnwritten, supplying}

module _ {B : Type 0} (device_of : B → device.Device) (faults : B → ℕ) (old ready : List B)
    (still : (port : ℕ) → count_at device_of faults port ready ≡ count_at device_of faults port old) where
  -- want of memory while the machine was made
  pub unmade : (bytes : List ℕ) (deck : Deck) → AreSupplied deck (map device_of old) (map device_of ready) → IsUnwritten device_of faults bytes deck old ready
  unmade bytes deck part = supplying part.count part.devices (λ port left. still port)

  -- an end has its cause since before
  pub cause_before : (end : Option Outcome) (new : List B) → CausedSince device_of faults (λ port. count_at device_of faults port ready) end new
      → CausedSince device_of faults (λ port. count_at device_of faults port old) end new
  cause_before end new c = subst (λ (first : ℕ → ℕ). CausedSince device_of faults first end new) (λ i port. still port i) c
