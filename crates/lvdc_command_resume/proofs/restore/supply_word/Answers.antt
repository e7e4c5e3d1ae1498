use Rattle.lvdc_plain.proofs.Lefts.{spare-same}
use Rattle.lvdc_port.proofs.Lists.{count-same}
use Rattle.lvdc_command_resume.proofs.Taking.{state-supplied, since-same}
use Rattle.lvdc_command_resume.proofs.restore.supply_word.Goals as goal

pub returns-in-Ok-clause-ok : goal.returns-in-Ok-clause-ok
returns-in-Ok-clause-ok g c = state-supplied _ c.args.state.now c.args.devices.now.items _ c.requires.kind c.in-Ok.ensures.ok

pub returns-in-Ok-clause-since : goal.returns-in-Ok-clause-since
returns-in-Ok-clause-since g c = since-same _ _ _ _ c.supply_all.ensures.ports c.supply_all.ensures.faults

pub returns-in-Ok-clause-spare : goal.returns-in-Ok-clause-spare
returns-in-Ok-clause-spare g c = λ n room. spare-same _ n _ _ c.supply_all.ensures.spare room

pub returns-in-Err-clause-refused : goal.returns-in-Err-clause-refused
returns-in-Err-clause-refused g c = λ port has. count-same _ _ port _ _ c.supply_all.ensures.ports c.supply_all.ensures.faults

pub returns-in-Err-clause-spare : goal.returns-in-Err-clause-spare
returns-in-Err-clause-spare g c = λ n room. spare-same _ n _ _ c.supply_all.ensures.spare room

pub returns-in-Ok-clause-told : goal.returns-in-Ok-clause-told
returns-in-Ok-clause-told g c = since-same _ _ _ _ c.supply_all.ensures.ports c.supply_all.ensures.told

pub returns-in-Err-clause-told : goal.returns-in-Err-clause-told
returns-in-Err-clause-told g c = since-same _ _ _ _ c.supply_all.ensures.ports c.supply_all.ensures.told
