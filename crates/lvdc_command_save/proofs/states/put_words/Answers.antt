use Rattle.std.proofs.Common.{◌-◌, sym, ◌∙◌, arith}
use Rattle.lvdc_command_save.proofs.HeldWords.{no-word, word-more, words-done}
use Rattle.lvdc_command_save.proofs.states.put_words.Goals as goal

pub loop-word-init : goal.loop-word-init
loop-word-init g c = no-word c.args.port _ c.args.states.now.items c.len-before.result (omega (arith, c.len-before.ensures))

pub loop-word-preserved : goal.loop-word-preserved
loop-word-preserved g c =
    word-more c.args.port _ c.args.states.now.items c.len-before.result c.loop-word.states.items c.push.new.self.items (c.len.result - c.len-before.result)
    c.in-Some.word c.loop-word.invariant (omega (arith, c.len.ensures)) (sym c.held.ensures ∙ c.in-Some.is) c.in_ok-push.ensures.items

pub returns : goal.returns
returns g c =
    words-done c.args.port _ c.args.states.now.items c.loop-word.states.items c.len-before.result (c.len.result - c.len-before.result) c.loop-word.invariant
    (omega (arith, c.len.ensures)) (sym c.held.ensures ∙ c.in_default.is)
