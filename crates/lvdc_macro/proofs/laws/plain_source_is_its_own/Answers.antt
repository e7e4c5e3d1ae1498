use Rattle.lvdc_macro.proofs.PlainSources.{plain_is_its_own}
use Rattle.lvdc_macro.proofs.laws.plain_source_is_its_own.Goals as goal

pub returns : goal.returns
returns c = λ lines plain fits. plain_is_its_own lines plain fits
