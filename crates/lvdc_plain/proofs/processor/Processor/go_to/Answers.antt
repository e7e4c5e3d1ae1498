use Rattle.std.proofs.Common.{ℕ, ◌∙◌, ap}
use Rattle.lvdc_map.specs.Hop.{word_of_hop}
use Rattle.lvdc_plain.proofs.processor.Processor.go_to.Goals as goal

pub returns : goal.returns
returns c =
    ap (λ (w : ℕ). record c.args.self.now { place = c.args.place; saver = w }) (c.to_word-self.ensures ∙ ap word_of_hop c.after.ensures)
