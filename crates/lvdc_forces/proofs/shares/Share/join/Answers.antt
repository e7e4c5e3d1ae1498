use Rattle.std.proofs.Common.{◌≡◌, ◌||◌, [], ◌∷◌, ◌∙◌, List, length, rules}
use Rattle.lvdc_vote.specs.declared.harm.Patch.{Patch}
use Rattle.lvdc_forces.specs.Shares.{patches_join}
use Rattle.lvdc_forces.proofs.Joins.{five}
use Rattle.lvdc_forces.proofs.shares.Share.join.Goals as goal

pub returns : goal.returns
returns c =
    let ps : List Patch = c.args.self.now.patches in
    let qs : List Patch = c.args.later.now.patches in
    let p5 : length ps ≡ 5 = search rules in
    let q5 : length qs ≡ 5 = search rules in
    let one = five ps c.index-one-0.result c.index-one-1.result c.index-one-2.result c.index-one-3.result c.index-one-4.result p5 in
    let two = five qs c.index-two-0.result c.index-two-1.result c.index-two-2.result c.index-two-3.result c.index-two-4.result q5 in
    (λ j. record {
      named = c.either.ensures j;
      deaf = c.either-2.ensures j;
      lags = c.either-3.ensures j;
      patches = c.join_patch.ensures j ∷ c.join_patch-2.ensures j ∷ c.join_patch-3.ensures j ∷ c.join_patch-4.ensures j ∷ c.join_patch-5.ensures j ∷ [];
    })
    ∙ (λ j. record {
      named = (c.args.self.now.named || c.args.later.now.named);
      deaf = (c.args.self.now.deaf || c.args.later.now.deaf);
      lags = (c.args.self.now.lags || c.args.later.now.lags);
      patches = patches_join (one j) (two j);
    })
