-- Worked values of the definitions.
use Rattle.std.proofs.Common.{◌≡◌, ℕ, List, [], ◌∷◌, Ok, Err, Some, None, refl, codes}
use Rattle.std.specs.Prelude.{pos, negsuc}
use Rattle.lvdc_isa.specs.declared.op.Op.TheVariants.{Tra, Cla, Sto, Shf, Pio}
use Rattle.lvdc_map.specs.Address.{Spot}
use Rattle.lvdc_map.specs.Hop.{word_of_hop}
use Rattle.lvdc_source.specs.declared.item.Body.{Body}
use Rattle.lvdc_source.specs.declared.item.Body.TheVariants as says
use Rattle.lvdc_source.specs.declared.item.Item.{Item}
use Rattle.lvdc_asm.specs.DataPlace.{first_data}
use Rattle.lvdc_asm.specs.Hop.{hop_at}
use Rattle.lvdc_asm.specs.Names.{names_in, names_of}
use Rattle.lvdc_asm.specs.Operands.{name_address, number_address, pair_address, octal_word, decimal_word}
use Rattle.lvdc_asm.specs.Target.{Target}
use Rattle.lvdc_asm.specs.declared.fault.AsmFault.TheVariants.{DuplicateName, UndefinedName, OutOfRange, OutOfSector}

at : ℕ → ℕ → ℕ → Spot
at pair sector loc = record { pair = pair; sector = sector; loc = loc }

code : ℕ → ℕ → ℕ → ℕ → Target
code pair sector syl loc = record { at = at pair sector loc; syl = Some syl; assumed = first_data }

word : ℕ → ℕ → ℕ → Target
word pair sector loc = record { at = at pair sector loc; syl = None; assumed = first_data }

-- a transfer goes to code of its sector, with the syllable as A9
transfer : name_address 3 Tra (at 0 0 9) first_data 2 (Some (code 0 0 1 5)) ≡ Ok 0o407
unfolding at code
transfer = refl

transfer_elsewhere : name_address 3 Tra (at 0 1 9) first_data 0 (Some (code 0 0 1 5)) ≡ Err (OutOfSector 3)
unfolding at code
transfer_elsewhere = refl

transfer_to_a_word : name_address 3 Tra (at 0 1 9) first_data 0 (Some (word 0 1 5)) ≡ Err (OutOfSector 3)
unfolding at word
transfer_to_a_word = refl

-- a word of the data sector has A9 0, one of the residual sector A9 1, unless that is the data sector
data_sector : name_address 3 Cla (at 0 0 9) first_data 1 (Some (word 0 1 5)) ≡ Ok 0o6
unfolding at word
data_sector = refl

residual_sector : name_address 3 Cla (at 0 0 9) first_data 0 (Some (word 0 15 5)) ≡ Ok 0o405
unfolding at word
residual_sector = refl

residual_in_use : name_address 3 Cla (at 0 0 9) (record { pair = 0; sector = 15 }) 0 (Some (word 0 15 5)) ≡ Ok 0o5
unfolding at word
residual_in_use = refl

other_sector : name_address 3 Cla (at 0 0 9) first_data 0 (Some (word 0 2 5)) ≡ Err (OutOfSector 3)
unfolding at word
other_sector = refl

-- 775 names PQ, 776 a word of the saver
pq : name_address 3 Cla (at 0 0 9) first_data 1 (Some (word 0 15 0o374)) ≡ Err (OutOfSector 3)
unfolding at word
pq = refl

saver : name_address 3 Sto (at 0 0 9) first_data 0 (Some (word 0 15 0o376)) ≡ Ok 0o776
unfolding at word
saver = refl

-- the range comes before the sector, and the name before both
past_the_sector : name_address 3 Tra (at 0 1 9) first_data 0o373 (Some (code 0 0 1 5)) ≡ Err (OutOfRange 3)
unfolding at code
past_the_sector = refl

undefined : name_address 3 Tra (at 0 1 9) first_data 999 None ≡ Err (UndefinedName 3)
undefined = refl

-- numbers
numbers : (number_address Cla 0o777 ≡ Some 0o777) × (number_address Pio 0o1000 ≡ None) × (number_address Shf 0o20 ≡ Some 0o220) × (number_address Shf 0o3 ≡ None)
numbers = (refl, refl, refl, refl)

data_fields : (pair_address 1 2 ≡ Some 0o442) × (pair_address 4 0 ≡ None) × (pair_address 0 16 ≡ None)
data_fields = (refl, refl, refl)

words : (octal_word 0o377777777 ≡ Some 0o377777777) × (octal_word 0o400000000 ≡ None) × (decimal_word (negsuc 33554431) ≡ Some 0o200000000) × (decimal_word (negsuc 33554432) ≡ None)
    × (decimal_word (pos 33554431) ≡ Some 0o177777777) × (decimal_word (pos 33554432) ≡ None)
words = (refl, refl, refl, refl, refl, refl)

-- a HOP constant
hop : word_of_hop (hop_at (at 2 3 7) 1 (record { pair = 1; sector = 2 })) ≡ 0o207016426
unfolding at
hop = refl

-- names
line : ℕ → List ℕ → Body → Item
line number label body = record { line = number; label = label; body = body }

twice : names_in (line 1 [] says.Code ∷ line 2 (codes "X") (says.Room 1) ∷ line 4 (codes "Y") (says.Room 1) ∷ line 5 (codes "X") (says.Room 1) ∷ line 6 (codes "Y") (says.Room 1) ∷ []) ≡ Err (DuplicateName 5)
unfolding line
twice = refl

-- a USE counts from the next line on
used : names_of (line 1 (codes "X") (says.Room 1) ∷ line 2 [] (says.Sector 1 2) ∷ line 3 (codes "Y") (says.Room 1) ∷ [])
    ≡ (codes "X", record { item = 0; assumed = first_data }) ∷ (codes "Y", record { item = 2; assumed = record { pair = 1; sector = 2 } }) ∷ []
unfolding line
used = refl
