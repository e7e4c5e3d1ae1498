use Rattle.std.proofs.Common.{sym, ◌∙◌, arith}
use Rattle.std.proofs.lemmas.Bool.{eqb-true, ne_eqb, not-false}
use Rattle.lvdc_port.specs.Causes.{never}
use Rattle.lvdc_tests_call.proofs.punctual.PunctualPortDevice.write.Goals as goal

pub returns-in-Ok-clause-told : goal.returns-in-Ok-clause-told
returns-in-Ok-clause-told g c =
    let own = c.args.self.now.time in
    let is_word = c.args.self.now.is_word in
    let looks = ne_eqb own never (λ never_looks. absurd (omega (arith, never_looks, is_word))) in
    rw looks (sym (eqb-true c.args.time own (not-false _ (sym c.ne.ensures ∙ c.if-ne.false))))
