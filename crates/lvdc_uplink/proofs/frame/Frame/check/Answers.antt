use Rattle.std.proofs.Common.{◌≡◌, ◌+◌, ◌%◌, ◌^◌, [], drop, arith}
use Rattle.std.proofs.lemmas.List.{drop_all}
use Rattle.lvdc_uplink.specs.Frames.{frame_check}
use Rattle.lvdc_uplink.proofs.frame.Frame.check.Goals as goal

pub returns : goal.returns
returns c =
    let all : drop c.loop-word.word-index c.words-words.result.now ≡ [] = drop_all c.loop-word.word-index c.words-words.result.now c.loop-word-test.false in
    let so_far : (c.loop-word.check + 0) % 2 ^ 26 ≡ frame_check c.args.id c.args.number c.args.self.now = rw all at c.loop-word.invariant.sum in
    omega (arith, so_far, c.loop-word.invariant.small)
