use Rattle.std.proofs.Common.{◌≡◌, ◌+◌, ◌-◌, ◌≤◌, vec_len}
use Rattle.std.specs.Io.KnownBytes.{Consumes}
use Rattle.lvdc_text.proofs.transfer.read_all.Given as goal

-- what is kept was taken from the source, and the count of faults has not moved
abbrev pub invariant-loop-bytes : goal.invariant-loop-bytes
invariant-loop-bytes g l = record {
  within : vec_len l.bytes ≤ l.limit;
  taken : Consumes (g.S.Source.state l.initial.source).left (g.S.Source.state l.source).left l.bytes.items;
  quiet : (g.S.Source.state l.source).faults ≡ (g.S.Source.state l.initial.source).faults;
}

-- each turn takes at least one byte, or is the last
abbrev pub decreases-loop-bytes : goal.decreases-loop-bytes
decreases-loop-bytes g l = l.limit + 1 - vec_len l.bytes
