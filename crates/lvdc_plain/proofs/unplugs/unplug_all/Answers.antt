use Rattle.std.proofs.Common.{arith}
use Rattle.lvdc_plain.proofs.Lefts.{left-map, left-distinct, left-spare, left-has, left-count}
use Rattle.lvdc_plain.proofs.unplugs.unplug_all.Goals as goal

pub returns-clause-devices : goal.returns-clause-devices
returns-clause-devices g c = left-map c.unplug_lines.ensures

pub returns-clause-distinct : goal.returns-clause-distinct
returns-clause-distinct g c = left-distinct c.unplug_lines.ensures c.requires.distinct

pub returns-clause-spare : goal.returns-clause-spare
returns-clause-spare g c =
    λ n room. left-spare c.unplug_lines.ensures (λ b. (goal.PortDevice-dyn g (b.vtable, b.value)).spare b.value) n n (omega arith) room

pub returns-clause-since : goal.returns-clause-since
returns-clause-since g c = record {
  left = left-has c.unplug_lines.ensures;
  counts = left-count c.unplug_lines.ensures (λ b. (goal.PortDevice-dyn g (b.vtable, b.value)).faults b.value) c.requires.distinct;
}
