-- When a machine and its devices are in a state of the voted machine, and when a step of theirs is begun.
use Rattle.std.specs.Prelude.{◌≡◌, List}
use Rattle.std.specs.declared.option.Option.TheVariants.{Some}
use Rattle.lvdc_port.specs.Device as device
use Rattle.lvdc_model.specs.Exchanges.{damages}
use Rattle.lvdc_model.specs.Trial.{Trial}
use Rattle.lvdc_model.specs.Voted.{Voted}
use Rattle.lvdc_memory.specs.Holds.{IsMemoryOf}
use Rattle.lvdc_machine.specs.View.{View}

-- the machine is that of the trial, and it and the devices show this state: the same copies, memory, devices, log, repairs,
-- counts, steps and end
pub record Shows (o : Trial) (m : View) (devices : List device.Device) (v : Voted) : Type 0 where
  pub banks : m.banks ≡ o.opening.banks
  pub script : m.script ≡ o.script
  pub unplugs : m.unplugs ≡ o.opening.unplugs
  pub copies : m.copies ≡ v.copies
  pub memory : IsMemoryOf o m.on_memory.last m.memory v.twins v.intended
  pub left : devices ≡ v.devices
  pub log : m.log ≡ v.log
  pub repairs : m.repairs ≡ v.repairs
  pub counts : m.counts ≡ v.counts
  pub steps : m.steps ≡ v.steps
  pub end : m.end ≡ v.end

-- the step that is next has begun: its damage is done, in each state that is shown, what is active is that of this step, and nothing
-- else has changed
pub record HasBegun (before after : View) : Type 0 where
  pub shows : (o : Trial) (v : Voted) (devices : List device.Device) → Shows o before devices v
      → Shows o after devices (record v { twins = damages v.steps o.script v.twins })
  pub new : after ≡ record before { memory = after.memory; on_memory = after.on_memory }
  pub last : after.on_memory.last ≡ Some before.steps
