use Rattle.lvdc_service.proofs.Apart.{apart}
use Rattle.lvdc_service.proofs.framing.frames_are_apart.Goals as goal

pub returns : goal.returns
returns c = apart
