use Rattle.std.proofs.Common.{refl}
use Rattle.lvdc_console.specs.Commands.{cut}
use Rattle.lvdc_service.proofs.service.refuse.Goals as goal

pub returns-in-Err : goal.returns-in-Err
returns-in-Err g c = cut refl c.in-Err.ensures.cause.failed c.in-Err.ensures.cause.later c.in-Err.field-0.written c.in-Err.ensures.part.0 c.in-Err.ensures.part.1
