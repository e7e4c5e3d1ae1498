use Rattle.lvdc_soak_deck.proofs.Soaking.{drawn-more, drawn-done, draws-more, draws-done}
use Rattle.lvdc_soak_deck.proofs.soak.put_drawn.Goals as goal

pub loop-loc-preserved : goal.loop-loc-preserved
loop-loc-preserved c = record {
  words = drawn-more 1 5 c.loop-loc.loc c.loop-loc.generator c.loop-loc.words.items _ c.loop-loc.invariant.words c.loop-loc-test.true c.draw.new.self c.draw.result c.draw.ensures.state c.draw.ensures.word c.push.new.self.items c.in_ok-push.ensures.items;
  state = draws-more 5 c.loop-loc.loc c.loop-loc.generator _ c.loop-loc.invariant.state c.loop-loc-test.true c.draw.new.self c.draw.ensures.state;
}

pub returns-clause-words : goal.returns-clause-words
returns-clause-words c = drawn-done 1 5 c.loop-loc.loc c.loop-loc.generator c.loop-loc.words.items _ c.loop-loc.invariant.words c.loop-loc-test.false

pub returns-clause-state : goal.returns-clause-state
returns-clause-state c = draws-done 5 c.loop-loc.loc c.loop-loc.generator _ c.loop-loc.invariant.state c.loop-loc-test.false
