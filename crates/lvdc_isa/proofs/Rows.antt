-- Worked values of the definitions.
use Rattle.std.proofs.Common.{◌≡◌, refl}
use Rattle.std.specs.Prelude.{codes}
use Rattle.std.specs.declared.option.Option.TheVariants.{None, Some}
use Rattle.lvdc_isa.specs.declared.op.Op.TheVariants.{Sub, Cds, Shf, WrongShift, Exm, Cla}
use Rattle.lvdc_isa.specs.Instr.{instr, syllable_of}
use Rattle.lvdc_isa.specs.Mnemonics.{printed, operation_named}

clear_and_add : instr 0o17000 ≡ record { op = Cla; address = 0 }
clear_and_add = refl

residual_operand : instr 0o02775 ≡ record { op = Sub; address = 0o775 }
residual_operand = refl

change_data_sector : instr 0o16437 ≡ record { op = Cds; address = 0o437 }
change_data_sector = refl

shift_right_one : instr 0o16201 ≡ record { op = Shf; address = 0o201 }
shift_right_one = refl

shift_by_no_pattern : instr 0o16203 ≡ record { op = WrongShift; address = 0o203 }
shift_by_no_pattern = refl

execute_modified : instr 0o16600 ≡ record { op = Exm; address = 0o600 }
execute_modified = refl

syllable_again : syllable_of (instr 0o16203) ≡ 0o16203
syllable_again = refl

wrong_shift_as_text : printed (instr 0o16203) ≡ codes "SHF 203"
wrong_shift_as_text = refl

transfer_as_text : printed (instr 0o14052) ≡ codes "TMI 052"
transfer_as_text = refl

shift_by_name : operation_named (codes "SHF") ≡ Some Shf
shift_by_name = refl

small_letters : operation_named (codes "cla") ≡ None
small_letters = refl
