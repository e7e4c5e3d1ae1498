-- What is told of refused bytes: the name of the cause, the line, and the status.
use Rattle.std.specs.Prelude.{ℕ, List, codes}
use Rattle.lvdc_image.specs.Faults as image
use Rattle.lvdc_uplink.specs.declared.fault.PatchFault.{PatchFault}
use Rattle.lvdc_uplink.specs.declared.fault.PatchFault.TheVariants.{NoProgram, BadSection, BadLine, Image}

-- the name of a cause; that of an image is told by its own
abbrev pub name_of : PatchFault → List ℕ
name_of (NoProgram line) = codes "NoProgram"
name_of (BadSection line) = codes "BadSection"
name_of (BadLine line) = codes "BadLine"
name_of (Image fault) = image.name_of fault

-- the line that a cause names
abbrev pub line_of : PatchFault → ℕ
line_of (NoProgram line) = line
line_of (BadSection line) = line
line_of (BadLine line) = line
line_of (Image fault) = image.line_of fault

-- 4 where the image is refused, else 2
abbrev pub refusal_status : PatchFault → ℕ
refusal_status (Image fault) = 4
refusal_status fault = 2
