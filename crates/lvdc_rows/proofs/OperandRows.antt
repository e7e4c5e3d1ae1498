-- Worked parts of source lines: names, numbers with nine digits and ten, operands by operation, and places at their limits.
use Rattle.std.proofs.Common.{◌≡◌, [], ◌∷◌, false, Some, None, refl}
use Rattle.std.specs.Prelude.{codes, pos}
use Rattle.lvdc_isa.specs.declared.op.Op.TheVariants.{Tra, Tnz, Tmi, Shf}
use Rattle.lvdc_source.specs.Names.{is_name}
use Rattle.lvdc_source.specs.Numbers.{signed_of, octals_of}
use Rattle.lvdc_source.specs.Operands.{number_in, address_in, constant_in, literal_in, operand_in, org_of, words_of, use_of}
use Rattle.lvdc_source.specs.declared.item.Body.TheVariants as body
use Rattle.lvdc_source.specs.declared.item.Operand.TheVariants.{Number, Name}

-- ---- names: capital letters, and behind the first one digits too

before_capitals : is_name (codes "@A") ≡ false
unfolding is_name
before_capitals = refl

behind_capitals : is_name (codes "[A") ≡ false
unfolding is_name
behind_capitals = refl

behind_digits : is_name (codes "A:") ≡ false
unfolding is_name
behind_digits = refl

-- ---- numbers have nine digits at most

decimals : (signed_of (codes "+123456789") ≡ Some (pos 123456789)) × (signed_of (codes "123456789") ≡ Some (pos 123456789))
    × (signed_of (codes "+1234567890") ≡ None) × (signed_of (codes "-1234567890") ≡ None) × (signed_of (codes "1234567890") ≡ None)
unfolding signed_of
decimals = (refl, refl, refl, refl, refl)

octals : (octals_of (codes "000000001,2") ≡ Some (1 ∷ 2 ∷ [])) × (octals_of (codes "0000000001,2") ≡ None)
unfolding octals_of
octals = (refl, refl)

an_octal_operand : (number_in (codes "000000017") ≡ Some (Number 0o17)) × (number_in (codes "0000000017") ≡ None)
an_octal_operand = (refl, refl)

-- ---- operands by operation: a transfer takes no literal, and a shift no name

transfers : (operand_in Tmi (codes "LOOP") ≡ Some (Name (codes "LOOP") 0)) × (operand_in Tra (codes "=O5") ≡ None) × (operand_in Tnz (codes "=O5") ≡ None)
    × (operand_in Tmi (codes "=O5") ≡ None)
unfolding address_in literal_in is_name
transfers = (refl, refl, refl, refl)

a_shift : operand_in Shf (codes "LOOP") ≡ None
unfolding address_in literal_in is_name
a_shift = refl

another_literal : constant_in (codes "=XLOOP") ≡ None
unfolding is_name
another_literal = refl

-- ---- places at their limits

origins : (org_of (Some (4 ∷ 0 ∷ 0 ∷ 0 ∷ [])) ≡ None) × (org_of (Some (0 ∷ 16 ∷ 0 ∷ 0 ∷ [])) ≡ None)
origins = (refl, refl)

words : (words_of (Some (3 ∷ 15 ∷ 255 ∷ [])) ≡ Some (body.Words 3 15 (Some 255))) × (words_of (Some (4 ∷ 0 ∷ 0 ∷ [])) ≡ None)
    × (words_of (Some (0 ∷ 16 ∷ 0 ∷ [])) ≡ None) × (words_of (Some (0 ∷ 1 ∷ 256 ∷ [])) ≡ None)
words = (refl, refl, refl, refl)

a_use : use_of (Some (0 ∷ 16 ∷ [])) ≡ None
a_use = refl
