-- Each write stores one word of the image more.
use Rattle.std.proofs.Common.{◌≡◌, ◌+◌, true, List, ◌∷◌, [], ◌++◌, take, sym, ap, ◌∙◌, subst}
use Rattle.std.proofs.lemmas.List.{take_more, take_all}
use Rattle.lvdc_map.specs.Banks.{is_there}
use Rattle.lvdc_map.specs.declared.placed.Placed.{Placed}
use Rattle.lvdc_twin.specs.Store.{Store}
use Rattle.lvdc_twin.specs.Calls.{Begins}
use Rattle.lvdc_twin.proofs.Loading.{begins-more}
use Rattle.lvdc_twin.proofs.twins.Twins.load.Goals as goal

pub write-requires : goal.write-requires
write-requires c =
    rw c.loop-placed.invariant.banks_are
    (subst (λ (p : Placed). is_there c.args.self.now.banks p.at ≡ true) (sym c.placed-item.is)
    (c.requires.there c.loop-placed.placed-index c.placed-item.result c.loop-placed-test.true))

pub loop-placed-init : goal.loop-placed-init
loop-placed-init c = c.requires.blank

pub loop-placed-preserved : goal.loop-placed-preserved
loop-placed-preserved c =
    let banks = c.args.self.now.banks in
    let image = c.args.image.now in
    let i = c.loop-placed.placed-index in
    let item = c.placed-item.result in
    let one_more : take (i + 1) image ≡ take i image ++ item ∷ [] =
    take_more image i item c.loop-placed-test.true ∙ ap (λ (p : Placed). take i image ++ p ∷ []) (sym c.placed-item.is) in
    subst (λ (words : List Placed). Begins banks words c.write.new.self) (sym one_more)
    (subst (λ (t : Store). Begins banks (take i image ++ item ∷ []) t) (sym c.write.ensures.after)
    (begins-more banks (take i image) item c.loop-placed.self c.write.ensures.whole c.write.ensures.place c.loop-placed.invariant))

pub returns : goal.returns
returns c =
    subst (λ (words : List Placed). Begins c.args.self.now.banks words c.loop-placed.self)
    (take_all c.loop-placed.placed-index c.args.image.now c.loop-placed-test.false) c.loop-placed.invariant
