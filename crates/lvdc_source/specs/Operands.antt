-- Operands: what is written after an operation.
use Rattle.std.specs.Prelude.{ℕ, nat_lt, nat_le, Bool, ◌==◌, ◌&&◌, List, [], ◌∷◌, codes, take, drop, if◌then◌else◌, Option, None, Some}
use Rattle.std.specs.List.{before_first}
use Rattle.std.specs.Option.{option_map}
use Rattle.std.specs.Str.{bytes_eq}
use Rattle.lvdc_text.specs.Numbers.{number_of}
use Rattle.lvdc_isa.specs.declared.op.Op.{Op}
use Rattle.lvdc_isa.specs.declared.op.Op.TheVariants.{Tnz, Tra, Pio, Sto, Tmi, Cds, Shf, WrongShift, Exm}
use Rattle.lvdc_source.specs.declared.item.Constant.{Constant}
use Rattle.lvdc_source.specs.declared.item.Constant.TheVariants.{Oct, Dec, HopOf}
use Rattle.lvdc_source.specs.declared.item.Operand.{Operand}
use Rattle.lvdc_source.specs.declared.item.Operand.TheVariants.{Number, Pair, Name, Literal}
use Rattle.lvdc_source.specs.declared.item.Body.{Body}
use Rattle.lvdc_source.specs.declared.item.Body.TheVariants as body
use Rattle.lvdc_source.specs.declared.operation.Operation.{Operation}
use Rattle.lvdc_source.specs.declared.operation.Operation.TheVariants as operation
use Rattle.lvdc_source.specs.Names.{name_of}
use Rattle.lvdc_source.specs.Numbers.{signed_of, after_any, octals_of}

-- ---- constants

-- an octal number as a constant
abbrev pub octal_of : List ℕ → Option Constant
octal_of text = option_map (λ n. Oct n) (number_of 8 9 text)

-- a decimal number, with or without sign, as a constant
abbrev pub decimal_of : List ℕ → Option Constant
decimal_of text = option_map (λ z. Dec z) (signed_of text)

-- a name, for its HOP constant
abbrev pub hop_of : List ℕ → Option Constant
hop_of text = option_map (λ name. HopOf name) (name_of text)

-- ---- operands of instructions

-- a number: one to nine octal digits
abbrev pub number_in : List ℕ → Option Operand
number_in text = option_map (λ n. Number n) (number_of 8 9 text)

-- the plus sign, which parts a name from what is added
abbrev pub is_plus : ℕ → Bool
is_plus b = b == 43

-- the locations that are added to a name: one to three decimal digits, and none where no plus sign stands
abbrev pub offset_of : Option (List ℕ) → Option ℕ
offset_of None = Some 0
offset_of (Some digits) = number_of 10 3 digits

-- a name and what is added to it
abbrev pub place_of : Option (List ℕ) → Option ℕ → Option Operand
place_of (Some name) (Some offset) = Some (Name name offset)
place_of (Some name) None = None
place_of None offset = None

-- a name, or a name, a plus sign and what is added
abbrev pub place_in : List ℕ → Option Operand
place_in text = place_of (name_of (before_first is_plus text)) (offset_of (after_any is_plus text))

-- the first that is there
abbrev pub either : {A : Type 0} → Option A → Option A → Option A
either (Some first) second = Some first
either None second = second

-- an address: a number, or the place of a name
unfoldable pub address_in : List ℕ → Option Operand
address_in text = either (number_in text) (place_in text)

-- the constant of a literal: `=O`, `=D` or `=H`, and what is written after it
abbrev pub constant_in : List ℕ → Option Constant
constant_in text =
    if bytes_eq (take 2 text) (codes "=O") then octal_of (drop 2 text)
    else (if bytes_eq (take 2 text) (codes "=D") then decimal_of (drop 2 text)
    else (if bytes_eq (take 2 text) (codes "=H") then hop_of (drop 2 text) else None))

-- a literal: a word that the assembler places by itself
unfoldable pub literal_in : List ℕ → Option Operand
literal_in text = option_map (λ constant. Literal constant) (constant_in text)

-- a pair and a sector, as CDS has them
abbrev pub pair_of : Option (List ℕ) → Option Operand
pair_of (Some (pair ∷ sector ∷ [])) = Some (Pair pair sector)
pair_of numbers = None

-- the operand of an operation: an address or a literal for the ten with an operand word, an address for the store and
-- the transfers, a number for a port or a shift, a pair and a sector for CDS
abbrev pub operand_in : Op → List ℕ → Option Operand
operand_in Sto text = address_in text
operand_in Tra text = address_in text
operand_in Tnz text = address_in text
operand_in Tmi text = address_in text
operand_in Pio text = number_in text
operand_in Shf text = number_in text
operand_in Cds text = pair_of (octals_of text)
operand_in WrongShift text = None
operand_in Exm text = None
operand_in op text = either (address_in text) (literal_in text)

-- ---- operands of directives

-- a pair below 4 and a sector below 16
abbrev pub is_sector : ℕ → ℕ → Bool
is_sector pair sector = nat_lt pair 4 && nat_lt sector 16

-- ORG's place: pair, sector, syllable and location
abbrev pub org_of : Option (List ℕ) → Option Body
org_of (Some (pair ∷ sector ∷ syl ∷ loc ∷ [])) =
    if is_sector pair sector && nat_lt syl 2 && nat_lt loc 256
    then Some (body.Org (record { pair = pair; sector = sector; loc = loc }) syl) else None
org_of numbers = None

-- WORDS's pair and sector, and where the block is fixed its location
abbrev pub words_of : Option (List ℕ) → Option Body
words_of (Some (pair ∷ sector ∷ [])) = if is_sector pair sector then Some (body.Words pair sector None) else None
words_of (Some (pair ∷ sector ∷ loc ∷ [])) =
    if is_sector pair sector && nat_lt loc 256 then Some (body.Words pair sector (Some loc)) else None
words_of numbers = None

-- USE's pair and sector
abbrev pub use_of : Option (List ℕ) → Option Body
use_of (Some (pair ∷ sector ∷ [])) = if is_sector pair sector then Some (body.Sector pair sector) else None
use_of numbers = None

-- BSS's words: 1 to 256
abbrev pub room_of : Option ℕ → Option Body
room_of (Some words) = if nat_lt 0 words && nat_le words 256 then Some (body.Room words) else None
room_of None = None

-- what an operation says with this operand, where the operand has its form
unfoldable pub body_in : Operation → List ℕ → Option Body
body_in (operation.Machine op) text = option_map (λ operand. body.Instruction op operand) (operand_in op text)
body_in operation.Oct text = option_map (λ constant. body.Constant constant) (octal_of text)
body_in operation.Dec text = option_map (λ constant. body.Constant constant) (decimal_of text)
body_in operation.Hopc text = option_map (λ constant. body.Constant constant) (hop_of text)
body_in operation.Bss text = room_of (number_of 10 9 text)
body_in operation.Code text = Some body.Code
body_in operation.Org text = org_of (octals_of text)
body_in operation.Words text = words_of (octals_of text)
body_in operation.Use text = use_of (octals_of text)
body_in operation.End text = None
