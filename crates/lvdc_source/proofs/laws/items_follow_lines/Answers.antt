use Rattle.lvdc_source.proofs.Following.{source-follows}
use Rattle.lvdc_source.proofs.laws.items_follow_lines.Goals as goal

pub returns : goal.returns
returns c = source-follows
