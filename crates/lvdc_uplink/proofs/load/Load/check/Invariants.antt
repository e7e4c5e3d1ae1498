use Rattle.std.proofs.Common.{◌≡◌, ◌+◌, ◌%◌, ◌^◌, ◌<◌, drop}
use Rattle.lvdc_uplink.specs.Frames.{checks_from, load_check}
use Rattle.lvdc_uplink.proofs.load.Load.check.Given as goal

abbrev pub invariant-loop-index : goal.invariant-loop-index
invariant-loop-index l = record {
  checks : (l.check + checks_from l.self.id (l.index + 1) (drop l.index l.frames)) % 2 ^ 26 ≡ load_check l.self;
  small : l.check < 2 ^ 26;
}
