use Rattle.lvdc_laws_assembly.proofs.Assemblies.{assembly-parts, assembly-walked}
use Rattle.lvdc_laws_assembly.proofs.Showing.{listing-shows}
use Rattle.lvdc_laws_assembly.proofs.listing_shows_image.Goals as goal

pub returns : goal.returns
returns c = λ lines a e. listing-shows a lines (assembly-walked (record {
  programs = c.sources_are_programs.ensures;
  apart = c.placed_lines.ensures.apart;
  forms = c.placed_lines.ensures.forms;
  free = c.pooled_places.ensures.free;
  sector = c.pooled_places.ensures.sector;
}) lines a e) (c.items_follow_lines.ensures lines a.items (assembly-parts lines a e).0)
