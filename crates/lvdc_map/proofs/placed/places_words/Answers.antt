use Rattle.std.proofs.Common.{◌<◌, ◌^◌, All, subst}
use Rattle.std.proofs.lemmas.List.{take_all}
use Rattle.std.proofs.lemmas.List.Elements.{All-more}
use Rattle.lvdc_map.specs.declared.placed.Placed.{Placed}
use Rattle.lvdc_map.proofs.placed.places_words.Goals as goal

pub loop-placed-preserved : goal.loop-placed-preserved
loop-placed-preserved c =
    All-more (λ (p : Placed). p.word < 2 ^ 26) c.args.image.now c.loop-placed.placed-index c.placed-item.result c.loop-placed-test.true
    c.loop-placed.invariant (subst (λ (p : Placed). p.word < 2 ^ 26) c.placed-item.is c.places_word.ensures)

pub returns : goal.returns
returns c =
    subst (All (λ (p : Placed). p.word < 2 ^ 26)) (take_all c.loop-placed.placed-index c.args.image.now c.loop-placed-test.false) c.loop-placed.invariant
