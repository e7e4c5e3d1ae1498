use Rattle.lvdc_study.proofs.Counted.{replayed-counts, admissible-early}
use Rattle.lvdc_study.proofs.laws.replayed_counts.Goals as goal

pub returns-clause-counts : goal.returns-clause-counts
returns-clause-counts c = replayed-counts c.through_is_guarded.ensures

pub returns-clause-early : goal.returns-clause-early
returns-clause-early c = admissible-early
