use Rattle.lvdc_deck.proofs.SessionDecks.{session-runs}
use Rattle.lvdc_deck.proofs.laws.session_is_run.Goals as goal

pub returns : goal.returns
returns c = session-runs
