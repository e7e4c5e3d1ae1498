-- One word of the image more is put.
use Rattle.std.proofs.Common.{◌≡◌, ◌+◌, ◌<◌, ◌^◌, ◌∷◌, [], ◌++◌, All, List, take, sym, ap, ◌∙◌, subst}
use Rattle.std.proofs.lemmas.List.{take_all, take_more}
use Rattle.std.proofs.lemmas.List.Elements.{All-more}
use Rattle.lvdc_map.specs.Memory.{Memory, filled_with, loaded, stored, IsMemory}
use Rattle.lvdc_map.specs.declared.placed.Placed.{Placed}
use Rattle.lvdc_twin.proofs.Loading.{loaded-push}
use Rattle.lvdc_fault.proofs.codes.Codes.of_image.Goals as goal

pub loop-placed-preserved : goal.loop-placed-preserved
loop-placed-preserved c =
    let image = c.args.image.now in
    let i = c.loop-placed.placed-index in
    let item = c.placed-item.result in
    let one_more : take (i + 1) image ≡ take i image ++ item ∷ [] =
    take_more image i item c.loop-placed-test.true ∙ ap (λ (p : Placed). take i image ++ p ∷ []) (sym c.placed-item.is) in
    let put : loaded (take (i + 1) image) (filled_with 0) ≡ stored (loaded (take i image) (filled_with 0)) item.at item.word =
    ap (λ (ps : List Placed). loaded ps (filled_with 0)) one_more ∙ loaded-push (take i image) item (filled_with 0) in
    record {
      memory = subst (λ (m : Memory). IsMemory c.store.new.self m) (sym put) (c.store.ensures.memory _ c.loop-placed.invariant.memory);
      words =
          All-more (λ (p : Placed). p.word < 2 ^ 26) image i item c.loop-placed-test.true c.loop-placed.invariant.words
          (subst (λ (p : Placed). p.word < 2 ^ 26) c.placed-item.is c.store.ensures.word);
    }

pub returns-clause-words : goal.returns-clause-words
returns-clause-words c =
    subst (All (λ (p : Placed). p.word < 2 ^ 26)) (take_all c.loop-placed.placed-index c.args.image.now c.loop-placed-test.false) c.loop-placed.invariant.words

pub returns-clause-memory : goal.returns-clause-memory
returns-clause-memory c =
    subst (λ (image : List Placed). IsMemory c.loop-placed.codes (loaded image (filled_with 0)))
    (take_all c.loop-placed.placed-index c.args.image.now c.loop-placed-test.false) c.loop-placed.invariant.memory
