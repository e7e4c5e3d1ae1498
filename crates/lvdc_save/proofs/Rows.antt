-- Worked lines of saved texts as they are printed.
use Rattle.std.proofs.Common.{◌≡◌, true, [], ◌∷◌, refl, codes, arith}
use Rattle.std.proofs.lemmas.Fmt.{decimal_digit}
use Rattle.lvdc_text.specs.Numbers.{octal_text}
use Rattle.lvdc_lines.specs.Noted.{lines_of}
use Rattle.lvdc_save.specs.declared.entry.Entry.TheVariants as says
use Rattle.lvdc_save.specs.Lines.{entry_line}

copy_of_locator : entry_line (says.Copy (record { number = 2; copy = 1; count = 0; latches = 0o2004 ∷ 0 ∷ [] })) ≡ codes "COPY 2 1 0 000002004 000000000\n"
unfolding octal_text lines_of
copy_of_locator = rw (decimal_digit 2 (omega arith), decimal_digit 1 (omega arith), decimal_digit 0 (omega arith)) refl

repair_that_switches : entry_line (says.Repair (record { step = 1; at = record { pair = 0; sector = 1; loc = 0 }; twin = 0; switched = true })) ≡ codes "REPAIR 1 0 01 000 0 SWITCH\n"
unfolding octal_text
repair_that_switches = rw (decimal_digit 1 (omega arith), decimal_digit 0 (omega arith)) refl

word_of_bank_4 : entry_line (says.Word (record { at = record { pair = 4; sector = 1; loc = 0 }; word = 0o377777777 })) ≡ codes "WORD 4 01 000 377777777\n"
unfolding octal_text
word_of_bank_4 = refl
