-- Worked instructions: each code, and each pattern that shifts.
use Rattle.std.proofs.Common.{◌≡◌, ℕ, List, [], ◌∷◌, map, codes, filter, false, refl}
use Rattle.std.specs.List.{list_any, range_with_len}
use Rattle.lvdc_isa.specs.Instr.{instr, is_shift, takes_operand}
use Rattle.lvdc_isa.specs.declared.op.Op.TheVariants.{Tnz, Tra, Pio, Sto, Tmi, Cds, Shf, WrongShift, Exm}
use Rattle.lvdc_isa.specs.Shift.{shifted}
use Rattle.lvdc_isa.specs.declared.instr.Instr.{Instr}
use Rattle.lvdc_isa.specs.Mnemonics.{printed}

-- the text of a syllable's instruction
text_of_syllable : ℕ → List ℕ
text_of_syllable s = printed (instr s)

nine_take_no_operand : list_any takes_operand (Tnz ∷ Tra ∷ Pio ∷ Sto ∷ Tmi ∷ Cds ∷ Shf ∷ WrongShift ∷ Exm ∷ []) ≡ false
nine_take_no_operand = refl

-- the codes 0 to 7 at address 017
the_first_eight : map text_of_syllable (0o00017 ∷ 0o01017 ∷ 0o02017 ∷ 0o03017 ∷ 0o04017 ∷ 0o05017 ∷ 0o06017 ∷ 0o07017 ∷ [])
    ≡ codes "HOP 017" ∷ codes "MPY 017" ∷ codes "SUB 017" ∷ codes "DIV 017" ∷ codes "TNZ 017" ∷ codes "MPH 017" ∷ codes "AND 017" ∷ codes "ADD 017" ∷ []
unfolding text_of_syllable
the_first_eight = refl

-- the codes 10 to 17 (octal) at address 417
the_other_eight : map text_of_syllable (0o10417 ∷ 0o11417 ∷ 0o12417 ∷ 0o13417 ∷ 0o14417 ∷ 0o15417 ∷ 0o16417 ∷ 0o17417 ∷ [])
    ≡ codes "TRA 417" ∷ codes "XOR 417" ∷ codes "PIO 417" ∷ codes "STO 417" ∷ codes "TMI 417" ∷ codes "RSU 417" ∷ codes "CDS 417" ∷ codes "CLA 417" ∷ []
unfolding text_of_syllable
the_other_eight = refl

-- code 16 (octal) by A9 and A8: CDS, SHF, CDS, EXM
the_four_of_one_code : map text_of_syllable (0o16001 ∷ 0o16201 ∷ 0o16401 ∷ 0o16601 ∷ [])
    ≡ codes "CDS 001" ∷ codes "SHF 201" ∷ codes "CDS 401" ∷ codes "EXM 601" ∷ []
unfolding text_of_syllable
the_four_of_one_code = refl

-- of the 128 patterns these five shift
the_patterns : filter is_shift (range_with_len 0 128) ≡ 0 ∷ 0o1 ∷ 0o2 ∷ 0o20 ∷ 0o40 ∷ []
the_patterns = refl

-- 252 shifted by each of them
by_each_pattern : map (shifted 0o252) (0 ∷ 0o1 ∷ 0o2 ∷ 0o20 ∷ 0o40 ∷ []) ≡ 0 ∷ 0o125 ∷ 0o52 ∷ 0o524 ∷ 0o1250 ∷ []
by_each_pattern = refl
