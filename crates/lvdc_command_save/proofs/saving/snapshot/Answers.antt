use Rattle.std.proofs.Common.{◌∙◌}
use Rattle.lvdc_command_save.proofs.Taken.{snapshot_is}
use Rattle.lvdc_command_save.proofs.saving.snapshot.Goals as goal

pub returns-clause-state : goal.returns-clause-state
returns-clause-state c =
    λ o v ds shows. snapshot_is c.in_ok-snapshot.snapshot o.opening.banks v (c.in_ok-snapshot.ensures.whole c.requires.guarded) (c.in_ok-snapshot.ensures.means o v ds shows)
    c.in_ok-snapshot.ensures.addresses (c.in_ok-snapshot.ensures.banks ∙ shows.banks)
