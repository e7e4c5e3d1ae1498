use Rattle.std.proofs.Common.{◌≤◌, List, length, All, ap, sym, subst, ◌∙◌, arith}
use Rattle.std.proofs.lemmas.Result.{IfOk-weaker}
use Rattle.lvdc_reply.proofs.Statuses.{if_ok_both}
use Rattle.lvdc_command_run.specs.Trials.{trial_of}
use Rattle.lvdc_study.specs.declared.row.Row.{Row}
use Rattle.lvdc_command_study.specs.Studied.{made}
use Rattle.lvdc_command_study.specs.Texts.{study_text}
use Rattle.lvdc_command_study.proofs.Answering.{failure-told}
use Rattle.lvdc_command_study.proofs.Runnable.{rows-short, as-many}
use Rattle.lvdc_command_study.proofs.reply.tell_study.Goals as goal

pub tell_rows-requires-clause-names : goal.tell_rows-requires-clause-names
tell_rows-requires-clause-names g c =
    subst (λ (rows : List Row). All (λ (row : Row). length row.name ≤ 8) rows) (sym (c.deref.ensures.value ∙ c.in-Ok.ensures.rows))
    (rows-short (trial_of (g.B.Bench.devices c.args.bench.now) c.args.study.deck).opening c.args.study.deck.count c.args.study.scripts c.requires.run)

pub tell_rows-requires-clause-few : goal.tell_rows-requires-clause-few
tell_rows-requires-clause-few g c =
    let many = ap length (c.deref.ensures.value ∙ c.in-Ok.ensures.rows)
    ∙ as-many (trial_of (g.B.Bench.devices c.args.bench.now) c.args.study.deck).opening c.args.study.deck.count c.args.study.scripts in
    let few = c.requires.few in
    omega (arith, many, few)

pub returns-in-Ok-clause-studied : goal.returns-in-Ok-clause-studied
returns-in-Ok-clause-studied g c =
    if_ok_both c.tell_rows.result _ _ _ (λ reply status text. made status (text ∙ ap study_text (c.deref.ensures.value ∙ c.in-Ok.ensures.rows))) c.tell_rows.ensures.status c.tell_rows.ensures.text

pub returns-in-Err-Device-clause-studied : goal.returns-in-Err-Device-clause-studied
returns-in-Err-Device-clause-studied g c =
    let fails = rw c.in-Err-Device.field-0-is at c.in-Err-Device.ensures.failed in
    if_ok_both c.tell_failure.result _ _ _ (failure-told (g.B.Bench.devices c.args.bench.now) c.args.study c.in-Err-Device.port fails)
    c.tell_failure.ensures.status c.tell_failure.ensures.text

pub returns-in-Ok-clause-unfailed : goal.returns-in-Ok-clause-unfailed
returns-in-Ok-clause-unfailed g c =
    IfOk-weaker c.tell_rows.result _ _ (λ reply zero sound ten. absurd (omega (arith, zero, ten))) c.tell_rows.ensures.status

pub returns-in-Err-Device-clause-unfailed : goal.returns-in-Err-Device-clause-unfailed
returns-in-Err-Device-clause-unfailed g c =
    let only = rw c.in-Err-Device.field-0-is at c.in-Err-Device.ensures.unfailed in
    IfOk-weaker c.tell_failure.result _ _ (λ reply is sound. absurd (cc (only sound))) c.tell_failure.ensures.status
