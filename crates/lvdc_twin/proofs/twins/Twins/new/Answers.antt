-- The words of the image are stored in the memory of no image.
use Rattle.std.proofs.Common.{ℕ, [], subst, sym}
use Rattle.lvdc_twin.specs.Calls.{Begins}
use Rattle.lvdc_twin.proofs.twins.Twins.new.Goals as goal

pub load-requires-clause-there : goal.load-requires-clause-there
load-requires-clause-there c k d within = rw c.in_ok-twins.ensures.banks_are (c.requires k d within)

pub load-requires-clause-blank : goal.load-requires-clause-blank
load-requires-clause-blank c =
    subst (λ (banks : ℕ). Begins banks [] c.in_ok-twins.twins) (sym c.in_ok-twins.ensures.banks_are) c.in_ok-twins.ensures

pub returns : goal.returns
returns c = subst (λ (banks : ℕ). Begins banks c.args.image.now c.load.new.self) c.in_ok-twins.ensures.banks_are c.load.ensures
