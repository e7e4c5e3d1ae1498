use Rattle.lvdc_laws_assembly.proofs.Assemblies.{assembly-walked}
use Rattle.lvdc_laws_assembly.proofs.Items.{each-stands, each-holds, each-pooled, bare-none, bare-half}
use Rattle.lvdc_laws_assembly.proofs.image_holds_lines.Goals as goal

pub returns-clause-stand : goal.returns-clause-stand
returns-clause-stand c = λ lines a e. each-stands a (assembly-walked (record {
  programs = c.sources_are_programs.ensures;
  apart = c.placed_lines.ensures.apart;
  forms = c.placed_lines.ensures.forms;
  free = c.pooled_places.ensures.free;
  sector = c.pooled_places.ensures.sector;
}) lines a e)

pub returns-clause-lines : goal.returns-clause-lines
returns-clause-lines c = λ lines a e. each-holds a (assembly-walked (record {
  programs = c.sources_are_programs.ensures;
  apart = c.placed_lines.ensures.apart;
  forms = c.placed_lines.ensures.forms;
  free = c.pooled_places.ensures.free;
  sector = c.pooled_places.ensures.sector;
}) lines a e)

pub returns-clause-pool : goal.returns-clause-pool
returns-clause-pool c = λ lines a e. each-pooled a (assembly-walked (record {
  programs = c.sources_are_programs.ensures;
  apart = c.placed_lines.ensures.apart;
  forms = c.placed_lines.ensures.forms;
  free = c.pooled_places.ensures.free;
  sector = c.pooled_places.ensures.sector;
}) lines a e)

pub returns-clause-nothing : goal.returns-clause-nothing
returns-clause-nothing c = λ lines a e. bare-none a (assembly-walked (record {
  programs = c.sources_are_programs.ensures;
  apart = c.placed_lines.ensures.apart;
  forms = c.placed_lines.ensures.forms;
  free = c.pooled_places.ensures.free;
  sector = c.pooled_places.ensures.sector;
}) lines a e)

pub returns-clause-zero : goal.returns-clause-zero
returns-clause-zero c = λ lines a e. bare-half a (assembly-walked (record {
  programs = c.sources_are_programs.ensures;
  apart = c.placed_lines.ensures.apart;
  forms = c.placed_lines.ensures.forms;
  free = c.pooled_places.ensures.free;
  sector = c.pooled_places.ensures.sector;
}) lines a e)
