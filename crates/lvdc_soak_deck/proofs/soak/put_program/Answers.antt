use Rattle.std.proofs.Common.{◌∙◌}
use Rattle.lvdc_soak_deck.specs.Soak.{program}
use Rattle.lvdc_soak_deck.proofs.Soaking.{placed-more, placed-done}
use Rattle.lvdc_soak_deck.proofs.soak.put_program.Goals as goal

pub loop-loc-preserved : goal.loop-loc-preserved
loop-loc-preserved c =
    placed-more 0 program c.loop-loc.loc 0 c.loop-loc.words.items _ c.loop-loc.invariant c.loop-loc-test.true c.within.result (c.within.ensures ∙ c.from.ensures) c.push.new.self.items c.in_ok-push.ensures.items

pub returns : goal.returns
returns c = placed-done 0 program c.loop-loc.loc c.loop-loc.words.items _ c.loop-loc.invariant c.loop-loc-test.false
