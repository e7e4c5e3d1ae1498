use Rattle.std.proofs.Common.{◌≡◌, refl}
use Rattle.lvdc_source.specs.declared.fault.SourceFault.{SourceFault}
use Rattle.lvdc_source.specs.declared.fault.SourceFault.TheVariants.{NoMemory, LineTooLong, BadLabel, UnknownOperation, ExecuteModified, BadDirective, BadOperand, MissingEnd, AfterEnd}
use Rattle.lvdc_asm.specs.declared.fault.AsmFault.TheVariants.{Source}
use Rattle.lvdc_asm.specs.Faults.{of_source}
use Rattle.lvdc_asm.proofs.fault.AsmFaultFromSourceFault.from.Goals as goal

-- a fault of the grammar is told as one
told : (fault : SourceFault) → (fault ≡ NoMemory → ⊥) → Source fault ≡ of_source fault
told NoMemory other = absurd (other refl)
told (LineTooLong line) other = refl
told (BadLabel line) other = refl
told (UnknownOperation line) other = refl
told (ExecuteModified line) other = refl
told (BadDirective line) other = refl
told (BadOperand line) other = refl
told (MissingEnd line) other = refl
told (AfterEnd line) other = refl

pub returns-in_default : goal.returns-in_default
returns-in_default c = told c.args.fault c.in_default.not-NoMemory
