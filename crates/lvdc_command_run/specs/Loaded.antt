-- What a run starts with, where its deck begins with a source.
use Rattle.std.specs.Prelude.{◌≡◌, Result, Ok, Err}
use Rattle.lvdc_asm.specs.Assembly.{Assembled}
use Rattle.lvdc_asm.specs.declared.fault.AsmFault.{AsmFault}
use Rattle.lvdc_model.specs.Trial.{Trial}

-- the memory has exactly the words of this assembly, and so of the image that `asm --image` prints of it
abbrev pub StartsWith : Trial → Result Assembled AsmFault → Type 0
StartsWith o (Ok assembled) = o.opening.image ≡ assembled.words
StartsWith o (Err fault) = ⊥
