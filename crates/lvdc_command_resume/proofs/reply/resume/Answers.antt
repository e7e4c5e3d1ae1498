use Rattle.std.proofs.Common.{◌∙◌}
use Rattle.std.proofs.lemmas.Result.{IfOk-weaker}
use Rattle.lvdc_model.specs.Runs.{guarded}
use Rattle.lvdc_command_resume.specs.Runs.{steps_left}
use Rattle.lvdc_reply.proofs.Statuses.{on_err, if_ok_both}
use Rattle.lvdc_command_resume.proofs.Resumed.{run-resumed, run-stands, run-unreported, failed-resumed, refused-unreported}
use Rattle.lvdc_command_resume.proofs.Onward.{onward, onward-reordered}
use Rattle.lvdc_command_resume.proofs.Reordering.{with_devices}
use Rattle.lvdc_command_resume.proofs.reply.resume.Goals as goal

pub returns-in-Ok-clause-run : goal.returns-in-Ok-clause-run
returns-in-Ok-clause-run g c =
    if_ok_both c.report.result _ _ _
    (λ reply status text.
    run-resumed _ _ c.args.saved c.args.devices.now.items c.run_saved.new.devices.items c.in-Ok.machine c.in-Ok.ensures.run
    (c.resumed_goes_on.ensures.meant c.args.saved.snapshot _) reply.status reply.text status
    (text _ _ _ _ (run-stands _ _ c.args.saved c.args.devices.now.items c.run_saved.new.devices.items c.in-Ok.machine c.in-Ok.ensures.run
    (c.resumed_goes_on.ensures.meant c.args.saved.snapshot _))))
    c.report.ensures.status c.report.ensures.text

pub returns-in-Ok-clause-unreported : goal.returns-in-Ok-clause-unreported
returns-in-Ok-clause-unreported g c =
    on_err c.report.result
    (run-unreported _ _ c.args.saved c.args.devices.now.items c.run_saved.new.devices.items c.in-Ok.machine c.in-Ok.ensures.run
    (c.resumed_goes_on.ensures.meant c.args.saved.snapshot _))

pub returns-in-Ok-clause-short : goal.returns-in-Ok-clause-short
returns-in-Ok-clause-short g c =
    IfOk-weaker c.report.result _ _
    (λ reply short. short _ _ _ _ (run-stands _ _ c.args.saved c.args.devices.now.items c.run_saved.new.devices.items c.in-Ok.machine c.in-Ok.ensures.run
    (c.resumed_goes_on.ensures.meant c.args.saved.snapshot _)) c.requires.runnable.whole.repairs.below)
    c.report.ensures.short

pub returns-in-Err-Failed-clause-run : goal.returns-in-Err-Failed-clause-run
returns-in-Err-Failed-clause-run g c =
    if_ok_both c.refuse_device.result _ _ _
    (λ reply status text. failed-resumed _ _ c.args.saved c.args.devices.now.items c.run_saved.new.devices.items c.in-Err-Failed.port reply.status reply.text
    (rw c.in-Err-Failed.field-0-is at c.in-Err-Failed.ensures.refused) status text)
    c.refuse_device.ensures.status c.refuse_device.ensures.text

pub returns-in-Err-Failed-clause-unreported : goal.returns-in-Err-Failed-clause-unreported
returns-in-Err-Failed-clause-unreported g c =
    on_err c.refuse_device.result
    (refused-unreported _ _ c.args.saved c.args.devices.now.items c.run_saved.new.devices.items c.in-Err-Failed.field-0 c.in-Err-Failed.ensures.refused)

pub returns-in-Ok-clause-goes_on : goal.returns-in-Ok-clause-goes_on
returns-in-Ok-clause-goes_on g c =
    if_ok_both c.report.result _ _ _
    (λ reply status text. λ o opens means unfailed.
    onward _ _ c.args.saved c.args.devices.now.items c.run_saved.new.devices.items c.in-Ok.machine c.in-Ok.ensures.run o
    (c.judges_alone.ensures o opens) c.requires.runnable.steps means reply.status reply.text unfailed status
    (text o (guarded o c.args.saved.snapshot.steps) (steps_left c.args.saved) _
    (c.in-Ok.ensures.run.stands o (guarded o c.args.saved.snapshot.steps) means))
    ∙ c.guarded_is_answered.ensures o c.args.saved.count opens)
    c.report.ensures.status c.report.ensures.text

pub returns-in-Err-Failed-clause-goes_on : goal.returns-in-Err-Failed-clause-goes_on
returns-in-Err-Failed-clause-goes_on g c =
    IfOk-weaker c.refuse_device.result _ _ (λ reply status o opens means unfailed. absurd (unfailed status)) c.refuse_device.ensures.status

pub returns-in-Ok-clause-reordered : goal.returns-in-Ok-clause-reordered
returns-in-Ok-clause-reordered g c =
    if_ok_both c.report.result _ _ _
    (λ reply status text. λ o left opens means re unfailed.
    onward-reordered _ _ c.args.saved c.args.devices.now.items c.run_saved.new.devices.items c.in-Ok.machine c.in-Ok.ensures.run o
    (c.judges_alone.ensures o opens) c.requires.runnable.steps left means re reply.status reply.text unfailed status
    (text o (with_devices (guarded o c.args.saved.snapshot.steps) left) (steps_left c.args.saved) _
    (c.in-Ok.ensures.run.stands o (with_devices (guarded o c.args.saved.snapshot.steps) left) means))
    _ (c.guarded_is_answered.ensures o c.args.saved.count opens))
    c.report.ensures.status c.report.ensures.text

pub returns-in-Err-Failed-clause-reordered : goal.returns-in-Err-Failed-clause-reordered
returns-in-Err-Failed-clause-reordered g c =
    IfOk-weaker c.refuse_device.result _ _ (λ reply status o left opens means re unfailed. absurd (unfailed status)) c.refuse_device.ensures.status
