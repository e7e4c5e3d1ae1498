use Rattle.lvdc_text.specs.Words.{texts}
use Rattle.lvdc_console.specs.Rack.{rack}
use Rattle.lvdc_console.proofs.Over.{end_over, end_never, unhindered, headline_over, answer_over}
use Rattle.lvdc_console.proofs.command.run.Goals as goal

pub plug_in_four-requires-3-clause-before : goal.plug_in_four-requires-3-clause-before
plug_in_four-requires-3-clause-before g c = c.plug_in_four-2.ensures

pub returns-clause-ends : goal.returns-clause-ends
returns-clause-ends g c = end_over rack c.is_whole.ensures.rack c.lvdc.ensures.ends c.is_whole.ensures.never_fail

pub returns-clause-never_fails : goal.returns-clause-never_fails
returns-clause-never_fails g c = end_never c.lvdc.ensures.ends c.is_whole.ensures.never_fail

pub returns-clause-answer : goal.returns-clause-answer
returns-clause-answer g c =
    λ bytes told free.
    answer_over (texts c.args.words.now) bytes (g.K.Sink.state c.args.sink.now).written (g.K.Sink.state c.lvdc.new.sink).written c.lvdc.result _ _ rack c.is_whole.ensures.rack
    (c.lvdc.ensures.answer bytes told (unhindered c.lvdc.ensures.ends c.is_whole.ensures.never_fail free))

pub returns-clause-headline : goal.returns-clause-headline
returns-clause-headline g c =
    λ asked free short.
    headline_over rack c.is_whole.ensures.rack (c.lvdc.ensures.headline asked (unhindered c.lvdc.ensures.ends c.is_whole.ensures.never_fail free) short)
