use Rattle.std.proofs.Common.{◌≡◌, ℕ, ◌*◌, ◌%◌, ◌≤◌, map}
use Rattle.lvdc_plain.specs.Lists.{Since, AreFit}
use Rattle.lvdc_model.specs.Trial.{Trial}
use Rattle.lvdc_machine.specs.Room.{exchanges_to_come}
use Rattle.lvdc_runs.specs.Ran.{NoneFailed}
use Rattle.lvdc_study.specs.Rejoins.{GoesOn}
use Rattle.lvdc_study.proofs.onward.go_on.Given as goal

-- the machine goes on after the steps made so far, and no device has failed
abbrev pub invariant-loop-at : goal.invariant-loop-at
invariant-loop-at g l = record {
  times : l.made % 3 ≡ 0;
  within : l.made ≤ 3 * l.machine.limit;
  limit : l.machine.limit ≡ l.fn.machine.limit;
  most : l.machine.steps ≤ l.made;
  unfailed : NoneFailed l.machine.end;
  fit : AreFit (λ b. (goal.PortDevice-dyn g (b.vtable, b.value)).device_of b.value) (λ b. (goal.PortDevice-dyn g (b.vtable, b.value)).spare b.value)
      (exchanges_to_come l.machine) l.devices.items;
  since : Since (λ b. (goal.PortDevice-dyn g (b.vtable, b.value)).device_of b.value) (λ b. (goal.PortDevice-dyn g (b.vtable, b.value)).faults b.value)
      l.fn.devices.items l.devices.items;
  goes : (o : Trial) (times : ℕ) → GoesOn o l.from times l.fn.machine (map (λ b. (goal.PortDevice-dyn g (b.vtable, b.value)).device_of b.value) l.fn.devices.items)
      → GoesOn o l.made times l.machine (map (λ b. (goal.PortDevice-dyn g (b.vtable, b.value)).device_of b.value) l.devices.items);
}
