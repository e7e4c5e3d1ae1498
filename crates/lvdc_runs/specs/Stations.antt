-- Stations of the fault-free run of a program, from which the runs of its scripts may go on.
use Rattle.std.specs.Prelude.{◌≡◌, ℕ, ◌*◌, ◌%◌, ◌≤◌, List, []}
use Rattle.std.specs.declared.option.Option.TheVariants.{None}
use Rattle.lvdc_port.specs.Device.{Device}
use Rattle.lvdc_plain.specs.Run.{Opening, IsOpening}
use Rattle.lvdc_model.specs.Voted.{Voted}
use Rattle.lvdc_snapshot.specs.Snapshot.{IsWhole, Means}
use Rattle.lvdc_machine.specs.Stands.{Stands}
use Rattle.lvdc_machine.specs.Steps.{run_of}
use Rattle.lvdc_machine.specs.View.{View}
use Rattle.lvdc_machine.specs.declared.mode.Mode.TheVariants.{Guarded}
use Rattle.lvdc_snapshot.specs.declared.snapshot.Snapshot.{Snapshot}
use Rattle.lvdc_runs.specs.Scripts.{trial_under}

-- the state of a machine that judges, after so many steps of a program without faults
abbrev pub fault_free_at : Opening → ℕ → Voted
fault_free_at program steps = run_of Guarded (trial_under program []) steps

-- the machine stands after whole times of the fault-free run of a program, over these devices and without an end
pub record IsUnderWay (program : Opening) (m : View) (devices : List Device) : Type 0 where
  pub opening : IsOpening program
  pub mode : m.mode ≡ Guarded
  pub end : m.end ≡ None
  pub times : m.steps % 3 ≡ 0
  pub stands : Stands (trial_under program []) m.steps m devices

-- it does so of some program
pub record IsFaultFree (m : View) (devices : List Device) : Type 0 where
  pub program : Opening
  pub under_way : IsUnderWay program m devices

-- a whole snapshot of the fault-free run, of a step of so many times
pub record IsStation (program : Opening) (count : ℕ) (s : Snapshot) : Type 0 where
  pub opening : IsOpening program
  pub whole : IsWhole s
  pub within : s.steps ≤ 3 * count
  pub banks : s.banks ≡ program.banks
  pub means : Means s (fault_free_at program s.steps)
