-- The seven modules as lists of latches: after a phase, and the registers that they show.
use Rattle.std.specs.Prelude.{◌≡◌, ℕ, List, [], ◌∷◌, length, map}
use Rattle.lvdc_port.specs.Device.{Device}
use Rattle.lvdc_plain.specs.Plain.{PlainState}
use Rattle.lvdc_plain.specs.Table.{device_time}
use Rattle.lvdc_modules.specs.declared.bus.Bus.{Bus}
use Rattle.lvdc_modules.specs.Seen.{here}
use Rattle.lvdc_modules.specs.Rows.{rows, bus_of}
use Rattle.lvdc_laws_phases.specs.Exchanges.{made, port_answer}

-- each list has as many latches as the row of its module gives
abbrev pub Fits : List (Bus → List ℕ) → List (List ℕ) → Type 0
Fits [] [] = Unit {0}
Fits [] (state ∷ states) = ⊥
Fits (row ∷ more) [] = ⊥
Fits (row ∷ more) (state ∷ states) = ((b : Bus) → length (row b) ≡ length state) × Fits more states

-- what these rows make of a bus
abbrev pub next_of : List (Bus → List ℕ) → Bus → List (List ℕ)
next_of all b = map (λ row. row b) all

-- the states of the seven modules after this bus
abbrev pub next_states : Bus → List (List ℕ)
next_states b = next_of rows b

-- the states after a phase with these words from memory and port
abbrev pub after_phase : List (List ℕ) → ℕ → ℕ → List (List ℕ)
after_phase states memory port = next_states (bus_of states memory port)

-- the states after the third phase of a time of the plain state, with what the ports answer
abbrev pub third_phase : List (List ℕ) → PlainState → List Device → List (List ℕ)
third_phase states p devices = after_phase states 0 (port_answer (made p.stop p.hold p) devices (device_time p))

-- the registers that a report shows are the plain ones
pub record ShowsRegisters (states : List (List ℕ)) (p : PlainState) : Type 0 where
  pub place : here (bus_of states 0 0) ≡ p.place
  pub a : (bus_of states 0 0).accumulator.a ≡ p.a
  pub pq : (bus_of states 0 0).multiplier.pq ≡ p.pq
  pub saver : (bus_of states 0 0).locator.saver ≡ p.saver
