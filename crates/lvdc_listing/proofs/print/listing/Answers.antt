use Rattle.std.proofs.Common.{List, ap, ◌∙◌, subst, length, arith}
use Rattle.lvdc_map.specs.Memory.{memory_of, IsMemory}
use Rattle.lvdc_map.specs.declared.placed.Placed.{Placed}
use Rattle.lvdc_image.specs.Image.{Contents}
use Rattle.lvdc_text.specs.Lines.{numbered}
use Rattle.lvdc_listing.proofs.Sizes.{length-listing}
use Rattle.lvdc_listing.proofs.Steps.{parts}
use Rattle.lvdc_listing.proofs.print.listing.Goals as goal

pub put_lines-requires-clause-memory : goal.put_lines-requires-clause-memory
put_lines-requires-clause-memory c =
    subst (λ (words : List Placed). IsMemory c.in_ok-memory.memory (memory_of words)) (c.words.ensures.words ∙ ap (λ (image : Contents). image.words) c.image.ensures)
    c.in_ok-memory.ensures.memory

pub returns-clause-text : goal.returns-clause-text
returns-clause-text c =
    parts c.args.assembly.now (numbered c.args.bytes.now c.args.lines.now) c.new-out.result.items c.put_lines.new.out.items c.put_pool.new.out.items _ c.new-out.ensures.items
    c.in_ok-put_lines.ensures
    (c.in_ok-put_pool.ensures (memory_of c.args.assembly.now.words)
    (subst (λ (words : List Placed). IsMemory c.in_ok-memory.memory (memory_of words)) (c.words.ensures.words ∙ ap (λ (image : Contents). image.words) c.image.ensures) c.in_ok-memory.ensures.memory))
    c.in_ok-put_names.ensures

pub returns-clause-short : goal.returns-clause-short
returns-clause-short c = λ e.
    let bound = length-listing c.args.assembly.now c.args.bytes.now c.args.lines.now
    (c.assembly_is_small.ensures (numbered c.args.bytes.now c.args.lines.now) c.args.assembly.now c.requires.assembled) c.requires.within c.requires.size e in
    omega (arith, bound, ap length (returns-clause-text c))
