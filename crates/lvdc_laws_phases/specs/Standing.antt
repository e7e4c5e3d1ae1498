-- What three phases of the seven modules are to the plain machine, for any relation that says when they stand for it; and
-- one such relation.
use Rattle.std.specs.Prelude.{◌≡◌, ℕ, ◌^◌, ◌<◌, List}
use Rattle.std.specs.declared.option.Option.TheVariants.{None, Some}
use Rattle.lvdc_port.specs.Device.{Device}
use Rattle.lvdc_plain.specs.declared.records.Stop.{Stop}
use Rattle.lvdc_plain.specs.Plain.{PlainState}
use Rattle.lvdc_plain.specs.Table.{device_time, step}
use Rattle.lvdc_plain.specs.Accesses.{fetched, operand}
use Rattle.lvdc_plain.specs.View.{ByInstruction}
use Rattle.lvdc_modules.specs.declared.bus.Bus.{Bus}
use Rattle.lvdc_modules.specs.Rows.{rows, bus_of}
use Rattle.lvdc_modules.specs.Wish.{wish}
use Rattle.lvdc_laws_phases.specs.Phase.{IsPhase, CarriesWords, after, stop_number}
use Rattle.lvdc_laws_phases.specs.Exchanges.{exchange_in, word_read, IsAnswered, PortsFit}
use Rattle.lvdc_laws_phases.specs.States.{Fits, after_phase, third_phase, ShowsRegisters}
use Rattle.lvdc_laws_phases.specs.Fits.{PlainFits}

-- ---- over a bus

-- what the latches wish for in a phase is what the plain machine exchanges in it
abbrev pub WishLaw : Type 0
WishLaw = (phase : ℕ) (b : Bus) (p : PlainState) → phase < 3 → p.stop ≡ None → IsPhase phase b p → wish b p.banks ≡ exchange_in phase p

-- with the exchange of a phase answered, latches that stand for a running plain state in the first phase stand for it in the second
abbrev pub FirstLaw : Type 0
FirstLaw =
    (b : Bus) (p : PlainState) (devices : List Device) (memory port : ℕ) → p.stop ≡ None → IsPhase 0 b p → CarriesWords b
    → IsAnswered (wish b p.banks) b p devices → IsPhase 1 (after b memory port) p

-- those in the second stand for it in the third
abbrev pub SecondLaw : Type 0
SecondLaw =
    (b : Bus) (p : PlainState) (devices : List Device) (memory port : ℕ) → p.stop ≡ None → IsPhase 1 b p
    → IsAnswered (wish b p.banks) b p devices → IsPhase 2 (after b memory port) p

-- and those in the third for the state one instruction time later, stopped or not
abbrev pub ThirdLaw : Type 0
ThirdLaw =
    (b : Bus) (p : PlainState) (devices : List Device) (memory port : ℕ) → p.stop ≡ None → IsPhase 2 b p → CarriesWords b
    → IsAnswered (wish b p.banks) b p devices → IsPhase 0 (after b memory port) (step p devices).plain

-- an instruction time of words leaves words
abbrev pub WordsLaw : Type 0
WordsLaw = (p : PlainState) (devices : List Device) → PortsFit devices (device_time p) → PlainFits p → PlainFits (step p devices).plain

-- ---- over lists of latches

-- the states name this stop, which an instruction is the cause of, and show the registers
pub record ShowsStop (states : List (List ℕ)) (p : PlainState) (s : Stop) : Type 0 where
  pub number : (bus_of states 0 0).exchange.stop ≡ stop_number (Some s)
  pub cause : ByInstruction (Some s)
  pub registers : ShowsRegisters states p

-- where the states stand for a plain state in phase 0, 1 or 2 of its next time: they have the lengths of latches and name no
-- stop, and the plain state is one of words; the exchange that they wish for is the plain one, and once that is answered they
-- stand for the next phase; after the third they stand for the state one time later, or name its stop
pub record PhaseLaw (Stands : ℕ → List (List ℕ) → PlainState → Type 0) : Type 0 where
  pub fits : (n : ℕ) (states : List (List ℕ)) (p : PlainState) → Stands n states p → Fits rows states
  pub goes : (n : ℕ) (states : List (List ℕ)) (p : PlainState) → p.stop ≡ None → Stands n states p
      → (bus_of states 0 0).exchange.stop ≡ 0
  pub wishes : (n : ℕ) (states : List (List ℕ)) (p : PlainState) → n < 3 → p.stop ≡ None → Stands n states p
      → wish (bus_of states 0 0) p.banks ≡ exchange_in n p
  pub first : (states : List (List ℕ)) (p : PlainState) → p.stop ≡ None → word_read p (fetched p) < 2 ^ 26 → Stands 0 states p
      → Stands 1 (after_phase states (word_read p (fetched p)) 0) p
  pub second : (states : List (List ℕ)) (p : PlainState) → p.stop ≡ None → word_read p (operand p) < 2 ^ 26 → Stands 1 states p
      → Stands 2 (after_phase states (word_read p (operand p)) 0) p
  pub third : (states : List (List ℕ)) (p : PlainState) (devices : List Device) → p.stop ≡ None
      → PortsFit devices (device_time p) → Stands 2 states p → (step p devices).plain.stop ≡ None
      → Stands 0 (third_phase states p devices) (step p devices).plain
  pub stops : (states : List (List ℕ)) (p : PlainState) (devices : List Device) (s : Stop) → p.stop ≡ None
      → PortsFit devices (device_time p) → Stands 2 states p → (step p devices).plain.stop ≡ Some s
      → ShowsStop (third_phase states p devices) (step p devices).plain s
  pub registers : (n : ℕ) (states : List (List ℕ)) (p : PlainState) → Stands n states p → ShowsRegisters states p
  pub words : (n : ℕ) (states : List (List ℕ)) (p : PlainState) → Stands n states p → PlainFits p

-- the states are those of the plain state in this phase, and all that is held is words
pub record Standing (n : ℕ) (states : List (List ℕ)) (p : PlainState) : Type 0 where
  pub fits : Fits rows states
  pub phase : IsPhase n (bus_of states 0 0) p
  pub plain : PlainFits p
  pub operand : (bus_of states 0 0).accumulator.operand < 2 ^ 26
