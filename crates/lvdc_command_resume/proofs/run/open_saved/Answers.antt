use Rattle.std.proofs.Common.{sym, ap, ◌∙◌}
use Rattle.std.proofs.lemmas.Result.{err_from_is_err_and}
use Rattle.lvdc_port.specs.Supplies.{ports_of}
use Rattle.lvdc_command_resume.proofs.Taking.{since-same, since-both}
use Rattle.lvdc_command_resume.proofs.Went.{all-taken}
use Rattle.lvdc_command_resume.proofs.run.open_saved.Goals as goal

pub returns-in_err-machine-clause-refused : goal.returns-in_err-machine-clause-refused
returns-in_err-machine-clause-refused g c =
    let parts = err_from_is_err_and c.from_residual-in_err-machine.result c.from_residual-in_err-machine.ensures.1 in
    rw (parts.1, parts.2) (
      all-taken c.args.saved _ _ (c.in_err-machine.ensures.devices ∙ c.in_ok-restore_devices.ensures.ok),
      (since-both c.in_ok-restore_devices.ensures.since (since-same _ _ _ _ (ap ports_of c.in_err-machine.ensures.devices) c.in_err-machine.ensures.faults)).counts,
    )

pub returns-clause-stands : goal.returns-clause-stands
returns-clause-stands g c = λ o v means.
    c.in_ok-machine.ensures.stands o v means.script (means.unplugs ∙ sym c.into_vec.ensures) means.banks means.state (means.left ∙ sym c.in_ok-restore_devices.ensures.ok)

pub returns-clause-since : goal.returns-clause-since
returns-clause-since g c =
    since-both c.in_ok-restore_devices.ensures.since (since-same _ _ _ _ (ap ports_of c.in_ok-machine.ensures.devices) c.in_ok-machine.ensures.faults)
