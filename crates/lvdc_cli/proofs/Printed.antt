-- What `asm --image` prints of the lines of a source with which a run starts.
use Rattle.std.proofs.Common.{◌≡◌, ℕ, List, None, Result, Ok, Err, sym, ap}
use Rattle.lvdc_map.specs.declared.placed.Placed.{Placed}
use Rattle.lvdc_port.specs.Device.{Device}
use Rattle.lvdc_image.specs.Image.{image_text}
use Rattle.lvdc_asm.specs.Assembly.{Assembled}
use Rattle.lvdc_asm.specs.declared.fault.AsmFault.{AsmFault}
use Rattle.lvdc_model.specs.Trial.{Trial}
use Rattle.lvdc_reply.specs.Answer.{answer_with}
use Rattle.lvdc_command_asm.specs.Answers.{status_of, text_of}
use Rattle.lvdc_command_asm.specs.declared.reply.Product.TheVariants.{Image}
use Rattle.lvdc_command_run.specs.Loaded.{StartsWith}

pub prints-image : (trial : Trial) (own : List ℕ) (devices : List Device) (assembly : Result Assembled AsmFault) → StartsWith trial assembly →
    answer_with (status_of assembly) (text_of Image own assembly) devices ≡ answer_with 0 (image_text (record { words = trial.opening.image; start = None; banks = 0 })) devices
prints-image trial own devices (Ok assembled) is =
    ap (λ (words : List Placed). answer_with 0 (image_text (record { words = words; start = None; banks = 0 })) devices) (sym is)
prints-image trial own devices (Err fault) is = absurd is
