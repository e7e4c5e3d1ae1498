-- What operands come to: nine address bits, or a word.
use Rattle.std.specs.Prelude.{ℕ, ◌+◌, ◌-◌, ◌*◌, ◌^◌, Bool, true, false, ◌==◌, ◌&&◌, nat_lt, if◌then◌else◌, Option, None, Some, Result, Ok, Err, ℤ, pos, negsuc}
use Rattle.lvdc_map.specs.Address.{Spot}
use Rattle.lvdc_map.specs.Hop.{HopConstant, word_of_hop}
use Rattle.lvdc_isa.specs.Instr.{is_shift}
use Rattle.lvdc_isa.specs.declared.op.Op.{Op}
use Rattle.lvdc_isa.specs.declared.op.Op.TheVariants.{Tra, Tnz, Tmi, Shf}
use Rattle.lvdc_source.specs.declared.item.Constant.{Constant}
use Rattle.lvdc_source.specs.declared.item.Constant.TheVariants.{Oct, Dec, HopOf}
use Rattle.lvdc_asm.specs.DataPlace.{DataPlace}
use Rattle.lvdc_asm.specs.Hop.{Plan, target_of, hop_to}
use Rattle.lvdc_asm.specs.declared.fault.AsmFault.{AsmFault}
use Rattle.lvdc_asm.specs.declared.fault.AsmFault.TheVariants.{UndefinedName, OutOfRange, OutOfSector}
use Rattle.lvdc_asm.specs.Target.{Target}

-- a value, or what is wrong with its line where there is none
abbrev pub or_refused : {V : Type 0} → AsmFault → Option V → Result V AsmFault
or_refused fault None = Err fault
or_refused fault (Some value) = Ok value

-- ---- names

-- the operations that transfer by an address
abbrev pub is_transfer : Op → Bool
is_transfer Tra = true
is_transfer Tnz = true
is_transfer Tmi = true
is_transfer _ = false

-- the address by which a transfer that stands here goes on at a place of code so many locations after a line: A9 is the
-- syllable. There is none to a line that isn't code, nor to another sector.
abbrev pub transfer_address : Spot → Target → ℕ → Option ℕ → Option ℕ
transfer_address here target offset None = None
transfer_address here target offset (Some syl) =
    if target.at.pair == here.pair && target.at.sector == here.sector then Some (syl * 2 ^ 8 + (target.at.loc + offset)) else None

-- the address in the residual sector, with A9 1, of a location; 775 is PQ, and so none
abbrev pub residual_address : ℕ → Option ℕ
residual_address loc = if 2 ^ 8 + loc == 0o775 then None else Some (2 ^ 8 + loc)

-- the address that reaches a location where this data place is assumed: A9 is 0 in its sector, and 1 in the residual
-- sector where that is another one; there is none to every other place
abbrev pub data_address : DataPlace → Spot → ℕ → Option ℕ
data_address assumed at offset =
    if at.pair == assumed.pair then
    (if at.sector == assumed.sector then Some (at.loc + offset)
    else (if at.sector == 15 then residual_address (at.loc + offset) else None))
    else None

-- the address that reaches from here a place so many locations after a line
abbrev pub reach : Op → Spot → DataPlace → Target → ℕ → Option ℕ
reach op here assumed target offset =
    if is_transfer op then transfer_address here target offset target.syl else data_address assumed target.at offset

-- the address of a name, or what is wrong with it: the name isn't defined; its location is above 377; it is out of reach
abbrev pub name_address : ℕ → Op → Spot → DataPlace → ℕ → Option Target → Result ℕ AsmFault
name_address line op here assumed offset None = Err (UndefinedName line)
name_address line op here assumed offset (Some target) =
    if nat_lt (target.at.loc + offset) 256 then or_refused (OutOfSector line) (reach op here assumed target offset)
    else Err (OutOfRange line)

-- ---- numbers

-- the address that a number is: nine bits, or the pattern of a shift, to which A8 belongs
abbrev pub number_address : Op → ℕ → Option ℕ
number_address Shf n = if is_shift n then Some (2 ^ 7 + n) else None
number_address op n = if nat_lt n (2 ^ 9) then Some n else None

-- the address by which CDS sets a pair and a sector: the even module of the pair, and A9 1
abbrev pub pair_address : ℕ → ℕ → Option ℕ
pair_address pair sector = if nat_lt pair 4 && nat_lt sector 16 then Some (2 ^ 8 + pair * 2 ^ 5 + sector) else None

-- ---- words

-- the word of an octal number
abbrev pub octal_word : ℕ → Option ℕ
octal_word n = if nat_lt n (2 ^ 26) then Some n else None

-- the word of a number with a sign, in two's complement
abbrev pub decimal_word : ℤ → Option ℕ
decimal_word (pos n) = if nat_lt n (2 ^ 25) then Some n else None
decimal_word (negsuc n) = if nat_lt n (2 ^ 25) then Some (2 ^ 26 - (n + 1)) else None

-- the word of a line's HOP constant, or what is wrong: the name isn't defined, or it isn't that of a line of code
abbrev pub hop_word : ℕ → Option HopConstant → Result ℕ AsmFault
hop_word line None = Err (OutOfSector line)
hop_word line (Some hop) = Ok (word_of_hop hop)

-- the word of the HOP constant of a name, or what is wrong
abbrev pub name_word : ℕ → Option Target → Result ℕ AsmFault
name_word line None = Err (UndefinedName line)
name_word line (Some target) = hop_word line (hop_to target)

-- the word that a constant on a line is, or what is wrong with it
abbrev pub constant_word : Plan → ℕ → Constant → Result ℕ AsmFault
constant_word plan line (Oct n) = or_refused (OutOfRange line) (octal_word n)
constant_word plan line (Dec z) = or_refused (OutOfRange line) (decimal_word z)
constant_word plan line (HopOf name) = name_word line (target_of plan name)
