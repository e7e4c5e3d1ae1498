use Rattle.std.proofs.Common.{Option, ℕ, sym, subst, arith}
use Rattle.lvdc_machine.specs.Sound.{KnowsForce}
use Rattle.lvdc_memory.proofs.Begun.{made-last}
use Rattle.lvdc_machine.proofs.resumed.forces_before.Goals as goal

pub returns-clause-known : goal.returns-clause-known
returns-clause-known c =
    subst (λ (last : Option ℕ). KnowsForce c.args.script.now last c.go_to.new.self.known) (sym (made-last c.args.steps (omega arith))) c.go_to.ensures.known
