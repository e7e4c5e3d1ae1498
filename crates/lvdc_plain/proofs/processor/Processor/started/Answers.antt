use Rattle.std.proofs.Common.{refl}
use Rattle.lvdc_plain.proofs.processor.Processor.started.Goals as goal

pub returns-clause-holds : goal.returns-clause-holds
returns-clause-holds c =
    λ m words. record { banks = refl; place = refl; a = refl; pq = refl; saver = refl; pending = refl; hold = refl; memory = words }
