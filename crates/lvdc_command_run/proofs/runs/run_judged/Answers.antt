use Rattle.std.proofs.lemmas.Result.{IfOk-weaker}
use Rattle.lvdc_command_run.proofs.Judged.{has_judged}
use Rattle.lvdc_command_run.proofs.runs.run_judged.Goals as goal

pub returns-clause-run : goal.returns-clause-run
returns-clause-run g c =
    IfOk-weaker c.run_machine.result _ _
    (λ m h. has_judged _ _ _ c.args.deck.count _ _ m h c.judges_alone.ensures c.guarded_run.ensures c.words_known.ensures.made
    c.words_known.ensures.begun c.all_times_made.ensures c.guarded_times.ensures c.guarded_ends.ensures.end c.guarded_ends.ensures.steps
    c.failed_exchange.ensures c.guarded_follows.ensures)
    c.run_machine.ensures.run
