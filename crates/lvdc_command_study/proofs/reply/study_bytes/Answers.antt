use Rattle.std.proofs.Common.{List, sym, subst, ◌∙◌}
use Rattle.std.proofs.lemmas.Result.{IfOk-weaker}
use Rattle.lvdc_port.specs.Device.{Device}
use Rattle.lvdc_command_study.specs.Studied.{IsStudied}
use Rattle.lvdc_command_study.proofs.Answering.{on_each, of_study, of_refusal, refusal-unfailed, rows-keep, no-rows}
use Rattle.lvdc_command_study.proofs.reply.study_bytes.Goals as goal

pub tell_study-requires : goal.tell_study-requires
tell_study-requires g c =
    let read = c.in-Ok.ensures in
    record { count = read.count; rising = read.rising; there = read.there; few = read.few; run = read.run }

pub returns-in-Ok-clause-reply : goal.returns-in-Ok-clause-reply
returns-in-Ok-clause-reply g c =
    IfOk-weaker c.tell_study.result _ _
    (λ reply studied. of_study c.args.bytes.now _ c.in-Ok.study c.in-Ok.ensures.study reply (subst (λ (ds : List Device). IsStudied ds c.in-Ok.study reply) (sym c.requires.alike) studied))
    c.tell_study.ensures.studied

pub returns-in-Ok-clause-laws : goal.returns-in-Ok-clause-laws
returns-in-Ok-clause-laws g c =
    on_each c.tell_study.result (rows-keep c.args.bytes.now _ c.in-Ok.study c.in-Ok.ensures.study c.rows_keep_laws.ensures (c.opens_with_words.ensures _))

pub returns-in-Err-clause-reply : goal.returns-in-Err-clause-reply
returns-in-Err-clause-reply g c =
    of_refusal c.args.bytes.now _ c.in-Err.fault c.in-Err.ensures.refusal c.refuse.result c.refuse.ensures.refused c.refuse.ensures.status c.refuse.ensures.text

pub returns-in-Err-clause-laws : goal.returns-in-Err-clause-laws
returns-in-Err-clause-laws g c = no-rows c.args.bytes.now _ c.in-Err.fault c.in-Err.ensures.refusal c.refuse.result c.refuse.ensures.refused

pub returns-in-Err-clause-unfailed : goal.returns-in-Err-clause-unfailed
returns-in-Err-clause-unfailed g c =
    IfOk-weaker c.refuse.result _ _ (λ reply is sound ten. refusal-unfailed c.in-Err.fault (sym is ∙ ten)) c.refuse.ensures.status
