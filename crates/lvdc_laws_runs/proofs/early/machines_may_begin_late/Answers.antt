use Rattle.lvdc_laws_runs.proofs.Machines.{late-run, late-stands}
use Rattle.lvdc_laws_runs.proofs.early.machines_may_begin_late.Goals as goal

pub returns : goal.returns
returns c =
    let alone = c.runs_begin_fault_free.ensures.alone in
    let through = c.runs_begin_fault_free.ensures.through in
    record { runs = late-run alone through; stands = late-stands alone through }
