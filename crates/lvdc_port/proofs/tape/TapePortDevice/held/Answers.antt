use Rattle.std.proofs.Common.{◌≡◌, ℕ, List, length, None, Some, slice_get, option_copied, refl, sym, ap, ◌∙◌}
use Rattle.std.specs.declared.option.Option.{Option}
use Rattle.std.specs.Slice.{IsItemAt}
use Rattle.std.proofs.lemmas.Option.{slice_get_past, slice_get_read}
use Rattle.std.specs.Borrow.{Bor}
use Rattle.lvdc_port.proofs.tape.TapePortDevice.held.Goals as goal

-- what is lent of an item, copied, is the item
copied_item : (words : List ℕ) (i : ℕ) (lent : Option (Bor ℕ)) → IsItemAt words i lent → option_copied lent ≡ slice_get words i
copied_item words i None h = sym (slice_get_past words i h.3)
copied_item words i (Some x) h = sym (slice_get_read words (length words) i x.now refl h.3.0 h.1)

pub returns : goal.returns
returns c =
    c.copied.ensures ∙ copied_item c.left.result.now c.args.index c.get.result c.get.ensures.lookup
    ∙ ap (λ (words : List ℕ). slice_get words c.args.index) c.left.ensures
