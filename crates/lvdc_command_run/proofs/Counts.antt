-- The devices' counts of faults while they are made ready for a run, and what a want of memory leaves of them.
use Rattle.std.proofs.Common.{◌≡◌, ℕ, take, length, List, map, sym, subst, ap, ◌∙◌, arith}
use Rattle.std.proofs.lemmas.List.{take_all}
use Rattle.lvdc_port.specs.Device as device
use Rattle.lvdc_port.specs.Devices.{count_at, has_port}
use Rattle.lvdc_port.specs.Supplies.{supplied, IsSuppliedInPart}
use Rattle.lvdc_port.specs.declared.requests.Supply.{Supply}
use Rattle.lvdc_plain.specs.Calls as plain_calls
use Rattle.lvdc_plain.specs.Stands as plain
use Rattle.lvdc_plain.specs.declared.records.PlainEnd.{PlainEnd}
use Rattle.lvdc_model.specs.declared.outcome.Outcome.{Outcome}
use Rattle.lvdc_machine.specs.Causes.{Caused, EndHasCause}
use Rattle.lvdc_deck.specs.declared.deck.Deck.{Deck}
use Rattle.lvdc_command_run.specs.declared.job.Job.{Job}
use Rattle.lvdc_command_run.specs.Ready.{AreSupplied}
use Rattle.lvdc_command_run.specs.Replies.{IsUnreported, supplying}

-- no count has grown while devices were made ready
abbrev pub AreStill : {B : Type 0} → (B → device.Device) → (B → ℕ) → List B → List B → Type 0
AreStill device_of faults old ready = (port : ℕ) → count_at device_of faults port ready ≡ count_at device_of faults port old

-- so an end has its cause since before
pub plain_since : {B : Type 0} (device_of : B → device.Device) (faults : B → ℕ) (end : PlainEnd) (old ready new : List B)
    → AreStill device_of faults old ready → plain_calls.PlainEndHasCause device_of faults end ready new → plain_calls.PlainEndHasCause device_of faults end old new
plain_since device_of faults end old ready new still c =
    subst (λ (first : ℕ → ℕ). plain.Caused end first (λ port. count_at device_of faults port new) (λ port. has_port device_of port new)) (λ i port. still port i) c

-- the same of the voted machine's end
pub caused_since : {B : Type 0} (device_of : B → device.Device) (faults : B → ℕ) (end : Outcome) (old ready new : List B)
    → AreStill device_of faults old ready → EndHasCause device_of faults end ready new → EndHasCause device_of faults end old new
caused_since device_of faults end old ready new still c =
    subst (λ (first : ℕ → ℕ). Caused end first (λ port. count_at device_of faults port new) (λ port. has_port device_of port new)) (λ i port. still port i) c

-- want of memory while a machine was made
pub unmade : {B : Type 0} (device_of : B → device.Device) (faults : B → ℕ) (deck : Deck) (old new : List B)
    → AreSupplied deck (map device_of old) (map device_of new) → AreStill device_of faults old new → (j : Job) → IsUnreported device_of faults j deck old new
unmade device_of faults deck old new part still j = supplying part.count part.devices (λ port left. still port)

-- the first so many words of a list that is the deck's
pub supplied_some : (deck : Deck) (old new : List device.Device) (supplies : List Supply) → supplies ≡ deck.supplies → IsSuppliedInPart supplies old new → AreSupplied deck old new
supplied_some deck old new supplies is part = record { count = part.count; devices = part.devices ∙ ap (λ (x : List Supply). supplied (take part.count x) old) is }

-- all of them
pub supplied_all : (deck : Deck) (old new : List device.Device) → new ≡ supplied deck.supplies old → AreSupplied deck old new
supplied_all deck old new is =
    record {
      count = length deck.supplies;
      devices = is ∙ ap (λ (x : List Supply). supplied x old) (sym (take_all (length deck.supplies) deck.supplies (omega arith)));
    }
