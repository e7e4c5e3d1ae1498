use Rattle.std.proofs.Common.{◌≡◌, Ok, map, sym, ◌∙◌}
use Rattle.std.proofs.lemmas.Result.{IfOk-weaker}
use Rattle.lvdc_text.specs.Lines.{part_of, numbered}
use Rattle.lvdc_image.specs.Image.{Contents, image_lines}
use Rattle.lvdc_image.specs.Reading.{image_of}
use Rattle.lvdc_image.proofs.ImageBack.{image_of-texts, refused-image}
use Rattle.lvdc_image.proofs.TextBack.{texts-numbered}
use Rattle.lvdc_image.proofs.read.read_image.Goals as goal

pub returns-clause-one : goal.returns-clause-one
returns-clause-one c =
    IfOk-weaker c.read_by_version.result
    (λ (image : Contents). image_of (numbered c.args.bytes.now c.args.lines.now) ≡ Ok image)
    (λ (image : Contents). map (part_of c.args.bytes.now) c.args.lines.now ≡ image_lines image)
    (λ (image : Contents) told. sym (texts-numbered c.args.bytes.now c.args.lines.now) ∙ image_of-texts (numbered c.args.bytes.now c.args.lines.now) image told)
    c.read_by_version.ensures.image

pub returns-clause-each : goal.returns-clause-each
returns-clause-each c = λ image can lines.
    refused-image (numbered c.args.bytes.now c.args.lines.now) image c.read_by_version.result can (texts-numbered c.args.bytes.now c.args.lines.now ∙ lines) c.read_by_version.ensures.refusal
