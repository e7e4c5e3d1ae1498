use Rattle.std.proofs.Common.{◌≡◌, ℕ, ◌+◌, ◌*◌, ◌≤◌, ◌++◌, map, length}
use Rattle.lvdc_model.specs.Trial.{Trial}
use Rattle.lvdc_model.specs.Voted.{Voted}
use Rattle.lvdc_machine.specs.Resumed.{StandsFrom}
use Rattle.lvdc_trace.specs.Going.{GoesOn, count_by}
use Rattle.lvdc_trace.specs.Traces.{blocks}
use Rattle.lvdc_trace.proofs.whole.put_steps.Given as goal

abbrev pub invariant-loop-index : goal.invariant-loop-index
invariant-loop-index g l = record {
  goes : GoesOn (λ b. (goal.PortDevice-dyn g (b.vtable, b.value)).device_of b.value) (λ b. (goal.PortDevice-dyn g (b.vtable, b.value)).spare b.value) (λ b. (goal.PortDevice-dyn g (b.vtable, b.value)).faults b.value)
      l.index l.fn.machine l.machine l.fn.devices.items l.devices.items;
  text : (o : Trial) (begin : Voted) (from : ℕ) → StandsFrom o begin from l.fn.machine (map (λ b. (goal.PortDevice-dyn g (b.vtable, b.value)).device_of b.value) l.fn.devices.items)
      → l.out.items ≡ l.initial.out.items ++ blocks l.fn.machine.mode o begin from (count_by l.machine.end begin.steps from l.index);
  short : length l.out.items ≤ length l.initial.out.items + 1115 * l.index;
}
