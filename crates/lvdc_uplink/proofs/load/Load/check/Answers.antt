use Rattle.std.proofs.Common.{◌≡◌, ◌+◌, ◌%◌, ◌^◌, [], drop, arith}
use Rattle.std.proofs.lemmas.List.{drop_all}
use Rattle.lvdc_uplink.specs.Frames.{load_check}
use Rattle.lvdc_uplink.proofs.load.Load.check.Goals as goal

pub returns : goal.returns
returns c =
    let all : drop c.loop-index.index c.as_slice-frames.result.now ≡ [] = drop_all c.loop-index.index c.as_slice-frames.result.now c.loop-index-test.false in
    let so_far : (c.loop-index.check + 0) % 2 ^ 26 ≡ load_check c.args.self.now = rw all at c.loop-index.invariant.checks in
    omega (arith, so_far, c.loop-index.invariant.small)
