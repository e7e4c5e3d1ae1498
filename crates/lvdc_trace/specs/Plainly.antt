-- What a guarded trace says of the plain run, which knows no script.
use Rattle.std.specs.Prelude.{◌≡◌, ℕ, zero, suc, ◌/◌, ◌%◌, List, [], codes}
use Rattle.std.specs.declared.option.Option.{Option}
use Rattle.std.specs.declared.option.Option.TheVariants.{None, Some}
use Rattle.lvdc_map.specs.Address.{Spot}
use Rattle.lvdc_map.specs.Memory.{word_at}
use Rattle.lvdc_map.specs.declared.placed.Placed.{Placed}
use Rattle.lvdc_modules.specs.declared.wanted.Wanted.{Wanted}
use Rattle.lvdc_modules.specs.declared.wanted.Wanted.TheVariants.{PortRead, PortWrite}
use Rattle.lvdc_plain.specs.Accesses.{fetched, operand, store}
use Rattle.lvdc_plain.specs.Plain.{PlainState}
use Rattle.lvdc_model.specs.Trial.{Trial, plain_at, plain_in}
use Rattle.lvdc_machine.specs.Made.{made_next}
use Rattle.lvdc_machine.specs.Steps.{run_of}
use Rattle.lvdc_machine.specs.declared.made.Made.{Made}
use Rattle.lvdc_machine.specs.declared.mode.Mode.TheVariants.{Guarded}
use Rattle.lvdc_report.specs.Report.{visible_in}
use Rattle.lvdc_report.specs.Voted.{visible_of}
use Rattle.lvdc_trace.specs.Steps.{access_line, exchange_text}

-- the line of a read of the plain run, where there is one
abbrev pub read_line : List ℕ → PlainState → Option Spot → List ℕ
read_line name p None = []
read_line name p (Some at) = access_line name at (word_at p.memory at)

-- the line of a store of the plain run, where there is one
abbrev pub store_line : Option Placed → List ℕ
store_line None = []
store_line (Some s) = access_line (codes "STORE") s.at s.word

-- what the next time of a plain state does with memory: in phase 0 it fetches, in phase 1 it reads its operand, in phase 2 it stores
abbrev pub memory_line : ℕ → PlainState → List ℕ
memory_line zero p = read_line (codes "FETCH") p (fetched p)
memory_line (suc zero) p = read_line (codes "OPERAND") p (operand p)
memory_line (suc (suc n)) p = store_line (store p)

-- the line of an exchange, where it is one with memory
abbrev pub memory_part : Wanted → ℕ → List ℕ
memory_part (PortRead port) word = []
memory_part (PortWrite port sent) word = []
memory_part wanted word = exchange_text wanted word

-- a step that is made tells what the plain run does with memory in the phase of its time; after the third of a time the votes show the
-- registers of the plain run after this time: A, PQ, PLACE, DATA and SAVER
pub record IsPlainly (o : Trial) (step : ℕ) (made : Made) : Type 0 where
  pub memory : memory_part made.wanted made.word ≡ memory_line (step % 3) (plain_in o step)
  pub registers : step % 3 ≡ 2 → visible_of (run_of Guarded o (suc step)) ≡ visible_in (plain_at o (suc step / 3))

-- so does each step that a guarded run makes
abbrev pub TellsPlainly : Trial → Type 0
TellsPlainly o = (step : ℕ) (made : Made) → made_next Guarded o (run_of Guarded o step) ≡ Some made → IsPlainly o step made
