use Rattle.std.proofs.Common.{◌≡◌, List, sym, subst, IfOk}
use Rattle.lvdc_text.specs.Lines.{numbered}
use Rattle.lvdc_text.specs.declared.cutting.Line.{Line}
use Rattle.lvdc_image.specs.Image.{image_text}
use Rattle.lvdc_image.specs.declared.image.Image.{Image}
use Rattle.lvdc_listing.specs.Listing.{listing_text}
use Rattle.lvdc_command_asm.specs.Answers.{product_text}
use Rattle.lvdc_command_asm.specs.declared.reply.Product.{Product}
use Rattle.lvdc_command_asm.proofs.reply.print.Goals as goal

pub returns-in-Image-clause-text : goal.returns-in-Image-clause-text
returns-in-Image-clause-text c =
    subst (λ (product : Product). IfOk c.print_image.result (λ text. text.items ≡ product_text product c.args.bytes.now c.args.assembly.now)) (sym c.in-Image.is)
    (subst (λ (image : Image). IfOk c.print_image.result (λ text. text.items ≡ image_text image)) c.image.ensures c.print_image.ensures.text)

pub returns-in-Listing-clause-text : goal.returns-in-Listing-clause-text
returns-in-Listing-clause-text c =
    subst (λ (product : Product). IfOk c.listing.result (λ text. text.items ≡ product_text product c.args.bytes.now c.args.assembly.now)) (sym c.in-Listing.is)
    (subst (λ (lines : List Line). IfOk c.listing.result (λ text. text.items ≡ listing_text c.args.assembly.now (numbered c.args.bytes.now lines))) c.requires.lines
    c.listing.ensures.text)
