use Rattle.std.proofs.Common.{ℕ, List, ◌∙◌, ap}
use Rattle.std.specs.Prelude.{slice_index}
use Rattle.lvdc_logic.proofs.Alike.{vote_at_alike}
use Rattle.lvdc_logic.proofs.logic.Logic.voted_word.Goals as goal

pub returns-else-self : goal.returns-else-self
returns-else-self c = rw (← c.self.view_is, c.if-self.false) (c.latch_on.ensures 1 ∙ ap (λ (s : List ℕ). slice_index s c.args.index) (vote_at_alike c.self.inside.bus c.args.number))
