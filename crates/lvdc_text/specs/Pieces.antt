-- Texts by pieces: bytes, numbers and places, one after another, or as a line with a blank before each.
use Rattle.std.specs.Prelude.{ℕ, ◌+◌, ◌^◌, ◌<◌, List, [], ◌∷◌, ◌++◌, codes, decimal, length}
use Rattle.lvdc_map.specs.Address.{Spot, IsAddress}
use Rattle.lvdc_text.specs.Numbers.{octal_text}
use Rattle.lvdc_text.specs.declared.pieces.Piece.{Piece}
use Rattle.lvdc_text.specs.declared.pieces.Piece.TheVariants.{Bytes, Decimal, Small, Octal, Word, Cell, Address}

-- an address: bank, sector and location in one, two and three octal digits
abbrev pub spot_text : Spot → List ℕ
spot_text at = octal_text 1 at.pair ++ codes " " ++ octal_text 2 at.sector ++ codes " " ++ octal_text 3 at.loc

-- a piece as it is written
abbrev pub piece_text : Piece → List ℕ
piece_text (Bytes bytes) = bytes.now
piece_text (Decimal value) = decimal value
piece_text (Small value) = decimal value
piece_text (Octal value digits) = octal_text digits value
piece_text (Word word) = octal_text 9 word
piece_text (Cell cell) = octal_text 10 cell
piece_text (Address at) = spot_text at

-- how many bytes a piece takes at most
abbrev pub piece_room : Piece → ℕ
piece_room (Bytes bytes) = length bytes.now
piece_room (Decimal value) = 20
piece_room (Small value) = 3
piece_room (Octal value digits) = digits
piece_room (Word word) = 9
piece_room (Cell cell) = 10
piece_room (Address at) = 8

-- a number in octal fits its digits
abbrev pub IsFit : Piece → Type 0
IsFit (Bytes bytes) = Unit {0}
IsFit (Decimal value) = Unit {0}
IsFit (Small value) = Unit {0}
IsFit (Octal value digits) = value < 8 ^ digits
IsFit (Word word) = Unit {0}
IsFit (Cell cell) = Unit {0}
IsFit (Address at) = Unit {0}

-- so does each of the pieces
abbrev pub AreFit : List Piece → Type 0
AreFit [] = Unit {0}
AreFit (piece ∷ pieces) = IsFit piece × AreFit pieces

-- what its type says of a piece
abbrev pub IsInRange : Piece → Type 0
IsInRange (Bytes bytes) = Unit {0}
IsInRange (Decimal value) = Unit {0}
IsInRange (Small value) = value < 2 ^ 8
IsInRange (Octal value digits) = Unit {0}
IsInRange (Word word) = word < 2 ^ 26
IsInRange (Cell cell) = cell < 2 ^ 28
IsInRange (Address at) = IsAddress at

-- the same of each of the pieces
abbrev pub AreInRange : List Piece → Type 0
AreInRange [] = Unit {0}
AreInRange (piece ∷ pieces) = IsInRange piece × AreInRange pieces

-- the pieces one after another
abbrev pub pieces_text : List Piece → List ℕ
pieces_text [] = []
pieces_text (piece ∷ pieces) = piece_text piece ++ pieces_text pieces

-- how many bytes they take at most
abbrev pub pieces_room : List Piece → ℕ
pieces_room [] = 0
pieces_room (piece ∷ pieces) = piece_room piece + pieces_room pieces

-- the pieces, each after a blank, and LF behind the last one
abbrev pub fields_text : List Piece → List ℕ
fields_text [] = codes "\n"
fields_text (piece ∷ pieces) = codes " " ++ piece_text piece ++ fields_text pieces

-- how many bytes they take at most
abbrev pub fields_room : List Piece → ℕ
fields_room [] = 1
fields_room (piece ∷ pieces) = 1 + piece_room piece + fields_room pieces
