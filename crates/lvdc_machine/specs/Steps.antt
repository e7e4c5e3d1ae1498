-- One step of either mode, and what it leaves of the machine.
use Rattle.std.specs.Prelude.{◌≡◌, ℕ, ◌+◌, ◌*◌, ◌≤◌, ◌<◌, Bool, true, false, List, ◌∷◌, [], ◌++◌, IfSome, Ok}
use Rattle.lvdc_map.specs.Address.{Spot}
use Rattle.lvdc_model.specs.declared.repair.Repair.{Repair}
use Rattle.std.specs.declared.option.Option.{Option}
use Rattle.std.specs.declared.option.Option.TheVariants.{None, Some}
use Rattle.lvdc_port.specs.Device as device
use Rattle.lvdc_modules.specs.declared.wanted.Wanted.{Wanted}
use Rattle.lvdc_modules.specs.declared.wanted.Wanted.TheVariants.{Nothing, Fetch, Operand, Store, PortRead, PortWrite}
use Rattle.lvdc_fault.specs.Script.{two_wrong}
use Rattle.lvdc_fault.specs.declared.verdict.Verdict.{Verdict}
use Rattle.lvdc_fault.specs.declared.verdict.Verdict.TheVariants.{Admissible}
use Rattle.lvdc_model.specs.declared.outcome.Outcome.{Outcome}
use Rattle.lvdc_model.specs.declared.outcome.Outcome.TheVariants.{Done, Stopped, Inadmissible, Device}
use Rattle.lvdc_model.specs.Known.{last_begun}
use Rattle.lvdc_model.specs.Runs.{after_steps, alone_step, through_step, own_verdict, recovers}
use Rattle.lvdc_model.specs.Trial.{Trial}
use Rattle.lvdc_model.specs.Twins.{read_answer}
use Rattle.lvdc_model.specs.Voted.{Voted, voted_start}
use Rattle.lvdc_machine.specs.declared.stepping.Brought.{Brought}
use Rattle.lvdc_machine.specs.declared.mode.Mode.{Mode}
use Rattle.lvdc_machine.specs.declared.mode.Mode.TheVariants.{Guarded, Through}
use Rattle.lvdc_machine.specs.Shows.{Shows}
use Rattle.lvdc_machine.specs.View.{View}

-- one step of a mode; after an end nothing changes
abbrev pub step_of : Mode → Trial → Voted → Voted
step_of Guarded o v = alone_step o v
step_of Through o v = through_step o v

-- the run of a mode that begins in a state, after so many steps, or fewer where it ends
abbrev pub run_from : Mode → Trial → Voted → ℕ → Voted
run_from mode o first n = after_steps (step_of mode o) first n

-- the run of a trial begins in the state of its start
abbrev pub run_of : Mode → Trial → ℕ → Voted
run_of mode o t = run_from mode o (voted_start o) t

-- what a mode says of a step that is prepared
abbrev pub verdict_of : Mode → Trial → Voted → Verdict
verdict_of Guarded o v = own_verdict o v
verdict_of Through o v = Admissible

-- the repair that a read notes: that of the twin rewritten, if any
abbrev pub repair_noted : Option ℕ → ℕ → Spot → Bool → Option Repair
repair_noted None step at switched = None
repair_noted (Some twin) step at switched = Some (record { step = step; at = at; twin = twin; switched = switched })

-- a list with one item more, if there is one
abbrev pub noted : {A : Type 0} → List A → Option A → List A
noted items None = items
noted items (Some item) = items ++ item ∷ []

-- a state with what an exchange brought in log and repairs
abbrev pub noting : Voted → Brought → Voted
noting v b = record v { log = noted v.log b.line; repairs = noted v.repairs b.repair }

-- a port exchange with this port is wanted
abbrev pub NamesPort : Wanted → ℕ → Type 0
NamesPort Nothing port = ⊥
NamesPort (Fetch at) port = ⊥
NamesPort (Operand at) port = ⊥
NamesPort (Store at word) port = ⊥
NamesPort (PortRead named) port = named ≡ port
NamesPort (PortWrite named word) port = named ≡ port

-- a step may be made: it was begun, it is one of those that are left, and of a machine that judges TIMER, module 1, hasn't two wrong
-- copies in it
pub record MayMake (m : View) : Type 0 where
  pub begun : m.on_memory.last ≡ Some m.steps
  pub left : m.steps < 3 * m.limit
  pub right : m.mode ≡ Guarded → two_wrong m.script m.steps 1 ≡ false

-- nothing is wrong at an address: its word can be recovered, and a read finds this word and mends nothing
pub record IsSoundAt (o : Trial) (v : Voted) (word : ℕ) (at : Spot) : Type 0 where
  pub recovered : recovers o v at ≡ true
  pub answer : read_answer o v.steps v.twins at ≡ Ok (record { word = word; repaired = None; switched = false })

-- a word that was found is that of the address that is to be read, where nothing is wrong
abbrev pub IsFoundSound : View → Option Spot → Option ℕ → Type 0
IsFoundSound m at found =
    IfSome found (λ word. (o : Trial) (v : Voted) (devices : List device.Device) → Shows o m devices v → IfSome at (IsSoundAt o v word))

-- the word of the address that is to be read can be recovered
abbrev pub IsRecovered : View → Option Spot → Type 0
IsRecovered m at =
    (o : Trial) (v : Voted) (devices : List device.Device) → Shows o m devices v → IfSome at (λ spot. recovers o v spot ≡ true)

-- what no call changes
pub record Keeps (before after : View) : Type 0 where
  pub banks : after.banks ≡ before.banks
  pub script : after.script ≡ before.script
  pub unplugs : after.unplugs ≡ before.unplugs
  pub limit : after.limit ≡ before.limit
  pub mode : after.mode ≡ before.mode
  pub pace : after.pace ≡ before.pace

-- where no end comes the step is counted; the only other end that an exchange brings is a stop
abbrev pub MadeAs : Option Outcome → ℕ → ℕ → Type 0
MadeAs None before after = after ≡ before + 1
MadeAs (Some (Stopped step stop)) before after = (before ≤ after) × (after ≤ before + 1)
MadeAs (Some Done) before after = ⊥
MadeAs (Some (Inadmissible verdict)) before after = ⊥
MadeAs (Some (Device step port)) before after = ⊥

-- what the exchange and the latching of a step leave
pub record IsMade (before after : View) : Type 0 where
  pub keeps : Keeps before after
  pub begun : after.on_memory.last ≡ last_begun after.end after.steps
  pub ends : MadeAs after.end before.steps after.steps
