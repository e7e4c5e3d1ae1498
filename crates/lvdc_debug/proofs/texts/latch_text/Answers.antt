use Rattle.std.proofs.Common.{◌≡◌, refl, ◌∙◌}
use Rattle.lvdc_text.specs.Numbers.{octal_text}
use Rattle.lvdc_debug.proofs.texts.latch_text.Goals as goal

-- nine digits take the places of as many zeros
pub returns : goal.returns
unfolding octal_text
returns c =
    let word : c.fill_octal.new.digits ≡ octal_text 9 c.args.word = c.fill_octal.ensures ∙ rw (c.from.ensures, c.value.ensures.value) refl in
    rw word refl
