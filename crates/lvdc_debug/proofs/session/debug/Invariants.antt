use Rattle.std.proofs.Common.{◌≡◌, ◌+◌, ◌*◌, ◌≤◌, ◌++◌, map, take, fold, length, codes}
use Rattle.lvdc_plain.specs.Run.{IsOpening}
use Rattle.lvdc_model.specs.Trial.{Trial}
use Rattle.lvdc_machine.specs.Stands.{Stands}
use Rattle.lvdc_debug.specs.Session.{Subject, at_start, after_line, entries}
use Rattle.lvdc_debug.specs.Standing.{command_texts, AreApart, IsReady, Moves, IsSubject}
use Rattle.lvdc_debug.proofs.Spent.{reach}
use Rattle.lvdc_debug.proofs.session.debug.Given as goal

abbrev pub invariant-loop-line : goal.invariant-loop-line
invariant-loop-line g l = record {
  ready : IsReady (λ b. (goal.PortDevice-dyn g (b.vtable, b.value)).device_of b.value) (λ b. (goal.PortDevice-dyn g (b.vtable, b.value)).spare b.value)
      l.course.asked l.fn.machine.limit l.machine l.devices.items;
  moves : Moves (λ b. (goal.PortDevice-dyn g (b.vtable, b.value)).device_of b.value) (λ b. (goal.PortDevice-dyn g (b.vtable, b.value)).faults b.value)
      0 l.course.asked l.fn.machine l.machine l.fn.devices.items l.devices.items;
  course : (o : Trial) (s : Subject) → IsOpening o.opening
      → Stands o 0 l.fn.machine (map (λ b. (goal.PortDevice-dyn g (b.vtable, b.value)).device_of b.value) l.fn.devices.items)
      → IsSubject o l.machine l.course.asked s → l.course ≡ fold (after_line s) at_start (take l.line-index (command_texts l.bytes l.commands));
  text : (o : Trial) (s : Subject) → IsOpening o.opening
      → Stands o 0 l.fn.machine (map (λ b. (goal.PortDevice-dyn g (b.vtable, b.value)).device_of b.value) l.fn.devices.items)
      → IsSubject o l.machine l.course.asked s
      → l.out.items ≡ codes "LVDC DEBUG\n" ++ entries s at_start (take l.line-index (command_texts l.bytes l.commands));
  short : AreApart l.commands → length l.out.items ≤ 11 + 500 * reach l.commands l.line-index;
}
