use Rattle.std.proofs.Common.{◌≡◌, ℕ, ◌<◌, ◌≤◌, List, [], ◌∷◌, map, length, get_or, Option, None, Some, option_map, refl, ap, ◌∙◌, arith}
use Rattle.lvdc_text.specs.Lines.{token_text}
use Rattle.lvdc_text.specs.declared.cutting.Token.{Token}
use Rattle.lvdc_lines.specs.Fields.{decimal_in}
use Rattle.lvdc_debug.specs.declared.command.Command.TheVariants.{Step}
use Rattle.lvdc_debug.specs.Commands.{step_in}
use Rattle.lvdc_text.proofs.Places.{is-there}
use Rattle.lvdc_debug.proofs.fields.step_in.Goals as goal

-- what an index past the end reads
abbrev no_token : Token
no_token = record { start = 0; end = 0 }

-- one field, and what it means
step-of : (text_of : Token → List ℕ) (fields : List Token) (d : Token) → 1 ≤ length fields → length fields < 2 → (found : Option ℕ)
    → found ≡ decimal_in 1 1000001 (text_of (get_or fields 0 d)) → option_map Step found ≡ step_in (map text_of fields)
step-of text_of [] d long short found is = absurd (omega arith)
step-of text_of (field ∷ []) d long short found is = ap (option_map Step) is
step-of text_of (field ∷ other ∷ more) d long short found is = absurd (omega arith)

at-most : (times : ℕ) → times < 1000001 → times ≤ 1000000
at-most times below = omega arith

pub token_text-requires : goal.token_text-requires
token_text-requires c = c.requires _ _ (is-there _ 1 (length c.args.fields.now) refl c.in-len1.len_at_least)

pub returns-in_err-times-clause-command : goal.returns-in_err-times-clause-command
returns-in_err-times-clause-command c =
    c.from_residual.ensures
    ∙ step-of (token_text c.args.text.now) c.args.fields.now no_token c.in-len1.len_at_least c.in-len1.len_below None
    (c.in_err-times.ensures.value ∙ ap (decimal_in 1 1000001) c.token_text.ensures)

pub returns-clause-command : goal.returns-clause-command
returns-clause-command c =
    step-of (token_text c.args.text.now) c.args.fields.now no_token c.in-len1.len_at_least c.in-len1.len_below (Some c.in_ok-times.times)
    (c.in_ok-times.ensures.value ∙ ap (decimal_in 1 1000001) c.token_text.ensures)

pub returns-clause-ranges : goal.returns-clause-ranges
returns-clause-ranges c =
    let range = c.in_ok-times.ensures.range in (range.0, at-most c.in_ok-times.times range.1)
