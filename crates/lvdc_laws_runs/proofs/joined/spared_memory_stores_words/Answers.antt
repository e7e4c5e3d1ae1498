use Rattle.lvdc_laws_runs.proofs.Spared.{spared-words}
use Rattle.lvdc_laws_runs.proofs.joined.spared_memory_stores_words.Goals as goal

pub returns : goal.returns
returns c = spared-words c.ports_match.ensures
