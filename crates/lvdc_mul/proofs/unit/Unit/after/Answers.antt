use Rattle.std.proofs.Common.{ap, sym, ◌∙◌, ℕ, add-one}
use Rattle.lvdc_mul.specs.Unit.{after_phases, phase_of}
use Rattle.lvdc_mul.proofs.unit.Unit.after.Goals as goal

pub loop-made-preserved : goal.loop-made-preserved
loop-made-preserved c =
    c.phase-unit.ensures ∙ ap phase_of c.loop-made.invariant ∙ ap (λ (n : ℕ). after_phases n c.args.self) (sym (add-one c.loop-made._made))
