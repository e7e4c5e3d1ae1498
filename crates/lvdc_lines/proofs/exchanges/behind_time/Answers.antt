use Rattle.std.proofs.Common.{◌≡◌, refl, ap, ◌∙◌}
use Rattle.lvdc_text.specs.Numbers.{octal_text}
use Rattle.lvdc_lines.proofs.exchanges.behind_time.Goals as goal

-- three and nine digits take the places of as many zeros
pub returns-clause-value : goal.returns-clause-value
unfolding octal_text
returns-clause-value c =
    let port : c.fill_octal.new.digits ≡ octal_text 3 c.args.port = c.fill_octal.ensures ∙ ap (octal_text 3) c.from.ensures in
    let word : c.fill_octal-2.new.digits ≡ octal_text 9 c.args.word = c.fill_octal-2.ensures ∙ rw (port, c.from-2.ensures, c.value.ensures.value) refl in
    rw (port, word) refl
