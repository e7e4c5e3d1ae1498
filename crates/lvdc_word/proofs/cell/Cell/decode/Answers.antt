-- A good cell is the code of its word, and the code of a word is good.
use Rattle.std.proofs.Common.{sym, ap, ◌∙◌, Some}
use Rattle.std.proofs.lemmas.Bool.{true≢false}
use Rattle.lvdc_word.specs.Cell.{is_good, code_of, word_in}
use Rattle.lvdc_word.proofs.Parity.{good-code, word-code, code-word}
use Rattle.lvdc_word.proofs.cell.Cell.decode.Goals as goal

pub returns-then-is_good-clause-code : goal.returns-then-is_good-clause-code
returns-then-is_good-clause-code c =
    ap code_of c.word.ensures ∙ code-word c.args.self c.is_good.ensures.small (sym c.is_good.ensures.value ∙ c.if-is_good.true)

pub returns-then-is_good-clause-decoded : goal.returns-then-is_good-clause-decoded
returns-then-is_good-clause-decoded c w small code = ap Some (c.word.ensures ∙ ap word_in code ∙ word-code w small)

pub returns-else-is_good-clause-decoded : goal.returns-else-is_good-clause-decoded
returns-else-is_good-clause-decoded c w small code =
    absurd (true≢false (sym (ap is_good code ∙ good-code w small) ∙ sym c.is_good.ensures.value ∙ c.if-is_good.false))
