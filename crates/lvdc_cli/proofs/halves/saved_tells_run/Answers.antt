use Rattle.lvdc_cli.proofs.Telling.{saved-tells}
use Rattle.lvdc_cli.proofs.halves.saved_tells_run.Goals as goal

pub returns : goal.returns
returns c = λ n bytes before now text h alike.
    saved-tells n bytes before now text h alike c.unplugs_are_apart.ensures.unplugs c.unplugs_are_apart.ensures.orders c.unplugs_are_apart.ensures.times
    c.printed_is_read_back.ensures
