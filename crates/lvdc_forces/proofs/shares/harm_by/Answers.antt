use Rattle.std.proofs.Common.{◌≡◌, ◌<◌, ℕ, ◌∙◌, List, length, replicate, get_or, sym, ap, arith}
use Rattle.lvdc_vote.specs.Harms.{no_patch, harm_and}
use Rattle.lvdc_vote.specs.declared.harm.Harm.{Harm}
use Rattle.lvdc_vote.specs.declared.harm.Patch.{Patch}
use Rattle.lvdc_vote.specs.declared.hurt.Hurt.TheVariants as hurts
use Rattle.lvdc_forces.proofs.Joins.{filled, filled_none, filled_next, filled_all, flip_there, force_there}
use Rattle.lvdc_forces.proofs.shares.harm_by.Goals as goal

pub loop-index-init : goal.loop-index-init
loop-index-init c =
    let ps : List Patch = c.args.patches.now in
    let five : length ps ≡ 5 = c.type_inv.patches in
    c.lagging-harm.ensures
    ∙ ap (λ (qs : List Patch). record { lags = c.args.lags; patches = qs }) (ap (λ (n : ℕ). replicate n no_patch) (sym five) ∙ filled_none ps)

pub loop-index-preserved : goal.loop-index-preserved
loop-index-preserved c =
    let ps : List Patch = c.args.patches.now in
    let five : length ps ≡ 5 = c.type_inv.patches in
    let i : ℕ = c.loop-index.index in
    let r : Patch = c.index-patches-from.result in
    let below : i < length ps = omega (arith, five, c.loop-index-test.true) in
    c.and-harm-in-loop-index.ensures
    ∙ ap (λ (h : Harm). harm_and h (hurts.Force i (get_or ps c.from.result r).mask (get_or ps c.from.result r).value))
    (c.and-harm.ensures ∙ ap (λ (h : Harm). harm_and h (hurts.Flip i (get_or ps c.from.result r).value)) c.loop-index.invariant)
    ∙ ap (λ (n : ℕ). record { lags = c.args.lags; patches = force_there (flip_there (filled ps i) i (get_or ps n r)) i (get_or ps n r) }) c.from.ensures
    ∙ ap (λ (qs : List Patch). record { lags = c.args.lags; patches = qs }) (filled_next ps i r below)

pub returns : goal.returns
returns c =
    let ps : List Patch = c.args.patches.now in
    let five : length ps ≡ 5 = c.type_inv.patches in
    c.loop-index.invariant
    ∙ ap (λ (qs : List Patch). record { lags = c.args.lags; patches = qs }) (filled_all ps c.loop-index.index (omega (arith, five, c.loop-index-test.false)))
