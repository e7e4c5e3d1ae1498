use Rattle.std.proofs.Common.{◌≡◌, ℕ, ◌-◌, ◌*◌, ◌<◌, ◌≤◌, map, false}
use Rattle.lvdc_plain.specs.Run.{IsOpening}
use Rattle.lvdc_model.specs.Trial.{Trial}
use Rattle.lvdc_machine.specs.Stands.{Stands}
use Rattle.lvdc_debug.specs.Session.{state_after, rests}
use Rattle.lvdc_debug.specs.Standing.{IsReady, Moves, failure_of}
use Rattle.lvdc_debug.proofs.course.Course.go.Given as goal

abbrev pub invariant-loop-self : goal.invariant-loop-self
invariant-loop-self g l = record {
  breaks : l.self.breaks ≡ l.fn.self.breaks;
  ready : IsReady (λ b. (goal.PortDevice-dyn g (b.vtable, b.value)).device_of b.value) (λ b. (goal.PortDevice-dyn g (b.vtable, b.value)).spare b.value)
      l.self.asked l.fn.machine.limit l.machine l.devices.items;
  moves : Moves (λ b. (goal.PortDevice-dyn g (b.vtable, b.value)).device_of b.value) (λ b. (goal.PortDevice-dyn g (b.vtable, b.value)).faults b.value)
      l.fn.self.asked l.self.asked l.fn.machine l.machine l.fn.devices.items l.devices.items;
  going : (o : Trial) → IsOpening o.opening
      → Stands o (3 * l.fn.self.asked) l.fn.machine (map (λ b. (goal.PortDevice-dyn g (b.vtable, b.value)).device_of b.value) l.fn.devices.items)
      → (times : ℕ) → l.fn.self.asked < times → times ≤ l.self.asked
      → rests o l.fn.self.breaks (state_after (failure_of l.machine.end) o times) ≡ false;
}

abbrev pub decreases-loop-self : goal.decreases-loop-self
decreases-loop-self g l = l.machine.limit - l.self.asked
