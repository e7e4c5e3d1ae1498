use Rattle.std.proofs.Common.{◌<◌, ◌^◌, All, List, add-one, subst}
use Rattle.std.proofs.lemmas.List.{take_all}
use Rattle.std.proofs.lemmas.List.Elements.{All-more}
use Rattle.lvdc_map.specs.Memory.{filled_with, loaded, IsMemory}
use Rattle.lvdc_map.specs.declared.placed.Placed.{Placed}
use Rattle.lvdc_map.proofs.Images.{loaded-more}
use Rattle.lvdc_map.proofs.words.Words.of_image.Goals as goal

pub loop-placed-preserved : goal.loop-placed-preserved
loop-placed-preserved c = record {
  memory =
      rw add-one (subst (λ m. IsMemory c.store.new.self m)
      (loaded-more c.args.image.now c.loop-placed.placed-index c.placed-item.result (filled_with 0) c.loop-placed-test.true c.placed-item.is)
      (c.store.ensures.memory _ c.loop-placed.invariant.memory));
  words =
      All-more (λ (p : Placed). p.word < 2 ^ 26) c.args.image.now c.loop-placed.placed-index c.placed-item.result c.loop-placed-test.true
      c.loop-placed.invariant.words (subst (λ (p : Placed). p.word < 2 ^ 26) c.placed-item.is c.store.ensures.word);
}

pub returns-clause-words : goal.returns-clause-words
returns-clause-words c =
    subst (All (λ (p : Placed). p.word < 2 ^ 26)) (take_all c.loop-placed.placed-index c.args.image.now c.loop-placed-test.false) c.loop-placed.invariant.words

pub returns-clause-memory : goal.returns-clause-memory
returns-clause-memory c =
    subst (λ (image : List Placed). IsMemory c.loop-placed.words (loaded image (filled_with 0)))
    (take_all c.loop-placed.placed-index c.args.image.now c.loop-placed-test.false) c.loop-placed.invariant.memory
