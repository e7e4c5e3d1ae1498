use Rattle.std.proofs.Common.{arith}
use Rattle.lvdc_forces.proofs.forces.Forces.go_to.Goals as goal

pub returns-then-lasts-clause-fit : goal.returns-then-lasts-clause-fit
returns-then-lasts-clause-fit c =
    let fit = c.requires.fit in
    let later = c.lasts.ensures.at c.if-lasts.true in
    record {
      whole = fit.whole;
      few = fit.few;
      parts = λ k below n t h low high. fit.parts k below n t h (omega (arith, later, low)) high;
      known = λ t low high. fit.known t (omega (arith, later, low)) high;
    }

pub returns-then-lasts-clause-known : goal.returns-then-lasts-clause-known
returns-then-lasts-clause-known c = c.requires.fit.known c.args.step (c.lasts.ensures.at c.if-lasts.true) (c.lasts.ensures.until c.if-lasts.true)
