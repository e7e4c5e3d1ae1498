-- A twin of a bare memory shows what it stores.
use Rattle.std.proofs.Common.{sym, ◌∙◌, subst}
use Rattle.lvdc_twin.specs.Store.{IsBare}
use Rattle.lvdc_twin.proofs.Shown.{shown-bare}
use Rattle.lvdc_twin.proofs.twins.Twins.view.Goals as goal

pub returns-then-self-clause-value : goal.returns-then-self-clause-value
returns-then-self-clause-value c =
    let bare : IsBare c.args.self.now = subst IsBare c.self.view_is (c.self.invariant.0.bare c.if-self.true) in
    c.stored.ensures.value ∙ sym (shown-bare c.args.self.now c.args.twin c.args.at bare)
