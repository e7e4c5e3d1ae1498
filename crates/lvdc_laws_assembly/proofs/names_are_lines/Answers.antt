use Rattle.lvdc_laws_assembly.proofs.Assemblies.{assembly-walked}
use Rattle.lvdc_laws_assembly.proofs.Named.{line-named, name-defined}
use Rattle.lvdc_laws_assembly.proofs.names_are_lines.Goals as goal

pub returns-clause-labels : goal.returns-clause-labels
returns-clause-labels c = λ lines a e. line-named a (assembly-walked (record {
  programs = c.sources_are_programs.ensures;
  apart = c.placed_lines.ensures.apart;
  forms = c.placed_lines.ensures.forms;
  free = c.pooled_places.ensures.free;
  sector = c.pooled_places.ensures.sector;
}) lines a e)

pub returns-clause-names : goal.returns-clause-names
returns-clause-names c = λ lines a e. name-defined a (assembly-walked (record {
  programs = c.sources_are_programs.ensures;
  apart = c.placed_lines.ensures.apart;
  forms = c.placed_lines.ensures.forms;
  free = c.pooled_places.ensures.free;
  sector = c.pooled_places.ensures.sector;
}) lines a e)
