use Rattle.lvdc_command_run.proofs.Loading.{run-loads}
use Rattle.lvdc_command_run.proofs.laws.source_is_loaded.Goals as goal

pub returns-clause-deck : goal.returns-clause-deck
returns-clause-deck c = λ bytes devices deck source means begins.
    run-loads devices deck _ (c.source_is_assembled.ensures.deck bytes devices _ deck source means begins)

pub returns-clause-alone : goal.returns-clause-alone
returns-clause-alone c = λ bytes own devices deck source means begins same.
    run-loads devices deck _ (c.source_is_assembled.ensures.alone bytes own devices _ deck source means begins same)
