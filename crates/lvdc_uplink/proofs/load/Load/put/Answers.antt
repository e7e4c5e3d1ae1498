use Rattle.std.proofs.Common.{sym, ◌∙◌}
use Rattle.lvdc_uplink.proofs.Applying.{after-some, after-none}
use Rattle.lvdc_uplink.proofs.load.Load.put.Goals as goal
use Rattle.lvdc_uplink.proofs.load.Load.put.Goals.{in-Some+in_ok-put, in_default}

pub loop-frame-preserved : goal.loop-frame-preserved
loop-frame-preserved c =
    elim c.match-frame.branch [
      | in-Some+in_ok-put w ↦ rw w.words-is (record {
        words = after-some c.as_slice-frames.result.now c.loop-frame.frame-index c.frame-item.result c.loop-frame-test.true c.loop-frame.words.items
            w.in-Some.frame (sym c.frame-item.is ∙ w.in-Some.is) w.put.new.image.items w.in_ok-put.ensures.words
            ∙ c.loop-frame.invariant.words;
        rising = w.in_ok-put.ensures.rising;
      })
      | in_default w ↦ rw w.words-is (record {
        words = after-none c.as_slice-frames.result.now c.loop-frame.frame-index c.frame-item.result c.loop-frame-test.true c.loop-frame.words.items
            (sym c.frame-item.is ∙ w.in_default.is)
            ∙ c.loop-frame.invariant.words;
        rising = c.loop-frame.invariant.rising;
      })
    ]
