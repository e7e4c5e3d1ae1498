use Rattle.std.proofs.Common.{◌≡◌, ◌-◌, ◌%◌, ◌≤◌, map}
use Rattle.lvdc_fault.specs.declared.verdict.Verdict.TheVariants.{Admissible}
use Rattle.lvdc_plain.specs.Lists.{AreFit}
use Rattle.lvdc_model.specs.Trial.{Trial}
use Rattle.lvdc_model.specs.Voted.{Voted}
use Rattle.lvdc_machine.specs.Room.{exchanges_to_come}
use Rattle.lvdc_study.specs.Rejoins.{Replays, IsReplay}
use Rattle.lvdc_study.proofs.misled.rejoins.Given as goal

-- the machine has made the steps so far of each trial at whose state it began
abbrev pub invariant-loop-at : goal.invariant-loop-at
invariant-loop-at g l = record {
  times : l.made % 3 ≡ 0;
  later : l.from.snapshot.steps ≤ l.made;
  steps : l.machine.steps ≡ l.made;
  limit : l.machine.limit ≡ l.fn.machine.limit;
  fit : AreFit (λ b. (goal.PortDevice-dyn g (b.vtable, b.value)).device_of b.value) (λ b. (goal.PortDevice-dyn g (b.vtable, b.value)).spare b.value)
      (exchanges_to_come l.machine) l.devices.items;
  replay : IsReplay l.said l.machine (map (λ b. (goal.PortDevice-dyn g (b.vtable, b.value)).device_of b.value) l.devices.items);
  replays : (o : Trial) (first : Voted) → Replays o first 0 Admissible l.fn.machine (map (λ b. (goal.PortDevice-dyn g (b.vtable, b.value)).device_of b.value) l.fn.devices.items)
      → Replays o first (l.made - l.from.snapshot.steps) l.said l.machine (map (λ b. (goal.PortDevice-dyn g (b.vtable, b.value)).device_of b.value) l.devices.items);
}
