use Rattle.lvdc_runs.proofs.Windowed.{tells-all}
use Rattle.lvdc_runs.proofs.laws.window_tells_all.Goals as goal

pub returns : goal.returns
returns c = tells-all c.through_is_guarded.ensures c.joined_runs_stay_joined.ensures c.spared_memory_stores_words.ensures
