-- The answer to a source: what was asked for of it, or its first refusal.
use Rattle.std.specs.Prelude.{ℕ, List, Result, Ok, Err, None}
use Rattle.lvdc_text.specs.Lines.{lines_of, numbered}
use Rattle.lvdc_port.specs.Device.{Device}
use Rattle.lvdc_image.specs.Image.{image_text}
use Rattle.lvdc_reply.specs.Answer.{Answer, answer_with, refusal_text}
use Rattle.lvdc_asm.specs.Assembly.{Assembled, assembly_of}
use Rattle.lvdc_asm.specs.Faults.{name_of, line_of}
use Rattle.lvdc_asm.specs.declared.fault.AsmFault.{AsmFault}
use Rattle.lvdc_listing.specs.Listing.{listing_text}
use Rattle.lvdc_command_asm.specs.declared.reply.Product.{Product}
use Rattle.lvdc_command_asm.specs.declared.reply.Product.TheVariants.{Image, Listing}

-- the assembly of the source that the bytes are, or its first refusal
abbrev pub assembly_in : List ℕ → Result Assembled AsmFault
assembly_in bytes = assembly_of (numbered bytes (lines_of bytes))

-- what is asked for of a source that is assembled so: its image, of version 1, or its listing
abbrev pub product_text : Product → List ℕ → Assembled → List ℕ
product_text Image bytes assembled = image_text (record { words = assembled.words; start = None; banks = 0 })
product_text Listing bytes assembled = listing_text assembled (numbered bytes (lines_of bytes))

-- 3 where the source is refused
abbrev pub status_of : Result Assembled AsmFault → ℕ
status_of (Ok assembled) = 0
status_of (Err fault) = 3

-- what was asked for, or the refusal
abbrev pub text_of : Product → List ℕ → Result Assembled AsmFault → List ℕ
text_of product bytes (Ok assembled) = product_text product bytes assembled
text_of product bytes (Err fault) = refusal_text (name_of fault) (line_of fault)

-- the answer to a source, which has no use for devices
abbrev pub source_answer : Product → List ℕ → List Device → Answer
source_answer product bytes devices = answer_with (status_of (assembly_in bytes)) (text_of product bytes (assembly_in bytes)) devices
