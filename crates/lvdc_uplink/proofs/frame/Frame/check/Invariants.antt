use Rattle.std.proofs.Common.{◌≡◌, ◌+◌, ◌%◌, ◌^◌, ◌<◌, drop}
use Rattle.std.specs.Prelude.{sum}
use Rattle.lvdc_uplink.specs.Frames.{frame_check}
use Rattle.lvdc_uplink.proofs.frame.Frame.check.Given as goal

abbrev pub invariant-loop-word : goal.invariant-loop-word
invariant-loop-word l = record {
  sum : (l.check + sum (drop l.word-index l.words)) % 2 ^ 26 ≡ frame_check l.id l.number l.self;
  small : l.check < 2 ^ 26;
}
