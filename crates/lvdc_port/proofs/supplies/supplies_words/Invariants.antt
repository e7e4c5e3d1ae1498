use Rattle.std.proofs.Common.{◌<◌, ◌^◌, take, All}
use Rattle.lvdc_port.specs.declared.requests.Supply.{Supply}
use Rattle.lvdc_port.proofs.supplies.supplies_words.Given as goal

abbrev pub invariant-loop-supply : goal.invariant-loop-supply
invariant-loop-supply l = All (λ (p : Supply). p.word < 2 ^ 26) (take l.supply-index l.supplies)
