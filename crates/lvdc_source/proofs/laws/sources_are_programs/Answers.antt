use Rattle.lvdc_source.proofs.Programs.{source_of-IsProgram}
use Rattle.lvdc_source.proofs.laws.sources_are_programs.Goals as goal

pub returns : goal.returns
returns c = source_of-IsProgram
