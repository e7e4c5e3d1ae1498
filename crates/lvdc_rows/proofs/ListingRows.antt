-- Worked rows of a listing, and the answer to a source with macros that is expanded and can't be assembled.
use Rattle.std.proofs.Common.{◌≡◌, [], ◌∷◌, refl}
use Rattle.lvdc_asm.specs.Locations.{nothing}
use Rattle.lvdc_command_asm.specs.Expanded.{macro_answer}
use Rattle.lvdc_command_asm.specs.declared.expand.Form.TheVariants.{Source}
use Rattle.lvdc_image.specs.Image.{image_text}
use Rattle.lvdc_listing.specs.Rows.{line_rows}
use Rattle.lvdc_macro.specs.Expansion.{pieces, called, expanded_from, bytes_of}
use Rattle.lvdc_place.specs.Placement.{placement}
use Rattle.lvdc_place.specs.Slots.{least}
use Rattle.std.specs.Prelude.{codes}
use Rattle.lvdc_macro.specs.Macros.{body_of}
use Rattle.lvdc_macro.specs.Substitution.{substituted}
use Rattle.lvdc_source.specs.Lines.{parts_of}
use Rattle.lvdc_source.specs.Names.{is_name}
use Rattle.lvdc_source.specs.Numbers.{signed_of, octals_of}
use Rattle.lvdc_source.specs.Operands.{address_in, literal_in, body_in}
use Rattle.lvdc_source.specs.Operations.{operation_of}
use Rattle.lvdc_source.specs.Source.{meaning_of, after_end, items_from}
use Rattle.lvdc_text.specs.Lines.{lines_from, tokens_from}
use Rattle.lvdc_text.specs.Numbers.{octal_text, word_in}
use Rattle.std.specs.Fmt.{digits}
use Rattle.lvdc_reply.specs.Answer.{answer_with}

-- a comment is listed, and END is the last line
up_to_end : line_rows [] (record { number = 8; text = codes "* ALL" } ∷ record { number = 9; text = codes " END" } ∷ record { number = 10; text = codes "MORE" } ∷ [])
    ≡ codes "      8                      * ALL" ∷ codes "      9                       END" ∷ []
unfolding tokens_from digits
up_to_end = refl

undefined_in_the_expansion : macro_answer Source (codes "        ORG   0,00,0,000\n        CLA   X\n        END\n") []
    ≡ answer_with 0 (codes "        ORG   0,00,0,000\n        CLA   X\n        END\n") []
unfolding lines_from tokens_from octal_text word_in is_name parts_of signed_of octals_of address_in literal_in body_in operation_of meaning_of after_end items_from placement least nothing pieces called expanded_from bytes_of body_of substituted image_text digits
undefined_in_the_expansion = refl
