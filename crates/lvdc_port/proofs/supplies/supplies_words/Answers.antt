use Rattle.std.proofs.Common.{◌<◌, ◌^◌, All, subst}
use Rattle.std.proofs.lemmas.List.{take_all}
use Rattle.std.proofs.lemmas.List.Elements.{All-more}
use Rattle.lvdc_port.specs.declared.requests.Supply.{Supply}
use Rattle.lvdc_port.proofs.supplies.supplies_words.Goals as goal

pub loop-supply-preserved : goal.loop-supply-preserved
loop-supply-preserved c =
    All-more (λ (p : Supply). p.word < 2 ^ 26) c.args.supplies.now c.loop-supply.supply-index c.supply-item.result c.loop-supply-test.true
    c.loop-supply.invariant (subst (λ (p : Supply). p.word < 2 ^ 26) c.supply-item.is c.supplies_word.ensures)

pub returns : goal.returns
returns c =
    subst (All (λ (p : Supply). p.word < 2 ^ 26)) (take_all c.loop-supply.supply-index c.args.supplies.now c.loop-supply-test.false) c.loop-supply.invariant
