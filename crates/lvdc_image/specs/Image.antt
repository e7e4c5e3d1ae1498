-- Images and their texts.
use Rattle.std.specs.Prelude.{◌≡◌, ℕ, ◌+◌, ◌^◌, ◌<◌, true, ◌==◌, List, [], ◌∷◌, ◌++◌, map, codes, All, Option, None, Some, IfSome, if◌then◌else◌}
use Rattle.lvdc_map.specs.Address.{IsAddress}
use Rattle.lvdc_map.specs.Hop.{HopConstant, IsHopConstant, word_of_hop}
use Rattle.lvdc_map.specs.Banks.{is_simplex}
use Rattle.lvdc_map.specs.Memory.{are_rising, AllThere}
use Rattle.lvdc_map.specs.declared.placed.Placed.{Placed}
pub use Rattle.lvdc_text.specs.Joined.{text_of}
use Rattle.lvdc_text.specs.Numbers.{octal_text}
pub use Rattle.lvdc_text.specs.Pieces.{spot_text}

-- what an image says: its words, the start constant, which version 1 has not, and which pairs are simplex, a bit each
pub record Contents : Type 0 where
  pub words : List Placed
  pub start : Option HopConstant
  pub banks : ℕ

-- the numbers of an address and its word are in their ranges
pub record IsPlaced (placed : Placed) : Type 0 where
  pub at : IsAddress placed.at
  pub word : placed.word < 2 ^ 26

-- the addresses rise, their banks are there, and without a start constant each pair is duplex
pub record IsImage (image : Contents) : Type 0 where
  pub rising : are_rising image.words ≡ true
  pub there : AllThere image.banks image.words
  pub duplex : image.start ≡ None → image.banks ≡ 0

-- an image, with its numbers in their ranges
pub record IsImageInRange (image : Contents) : Type 0 where
  pub sound : IsImage image
  pub words : All IsPlaced image.words
  pub start : IfSome image.start IsHopConstant
  pub banks : image.banks < 16

-- the line of a word: its address and the word itself, in octal
abbrev pub word_line : Placed → List ℕ
word_line placed = spot_text placed.at ++ codes " " ++ octal_text 9 placed.word

-- the line of a start constant
abbrev pub start_line : HopConstant → List ℕ
start_line start = codes "START " ++ octal_text 9 (word_of_hop start)

-- the name of a pair after a blank, where it is simplex
abbrev pub pair_name : ℕ → ℕ → List ℕ
pair_name banks pair = if is_simplex banks pair then 32 ∷ (48 + pair) ∷ [] else []

-- the line that names the simplex pairs
abbrev pub simplex_line : ℕ → List ℕ
simplex_line banks = codes "SIMPLEX" ++ pair_name banks 0 ++ pair_name banks 1 ++ pair_name banks 2 ++ pair_name banks 3

-- that line, where a pair is simplex
abbrev pub simplex_lines : ℕ → List (List ℕ)
simplex_lines banks = if banks == 0 then [] else simplex_line banks ∷ []

-- the lines before the words
abbrev pub head_lines : Option HopConstant → ℕ → List (List ℕ)
head_lines None banks = codes "LVDC 1" ∷ []
head_lines (Some start) banks = codes "LVDC 2" ∷ start_line start ∷ simplex_lines banks

-- the one list of lines of an image
abbrev pub image_lines : Contents → List (List ℕ)
image_lines image = head_lines image.start image.banks ++ map word_line image.words ++ codes "END" ∷ []

-- the text of an image
unfoldable pub image_text : Contents → List ℕ
image_text image = text_of (image_lines image)
