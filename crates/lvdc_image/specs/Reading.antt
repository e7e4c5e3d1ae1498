-- What the lines of a text mean: the image that they tell, or their first refusal.
use Rattle.std.specs.Prelude.{ℕ, ◌+◌, ◌%◌, ◌^◌, Bool, not, ◌==◌, ◌&&◌, nat_lt, List, [], ◌∷◌, map, length, take, drop, slice_index, slice_range, codes, Option, None, Some, Result, Ok, Err, if◌then◌else◌}
use Rattle.std.specs.Str.{bytes_eq}
use Rattle.lvdc_map.specs.Address.{number_of as number_of_spot}
use Rattle.lvdc_map.specs.Banks.{is_there}
use Rattle.lvdc_map.specs.Hop.{HopConstant, hop_of}
use Rattle.lvdc_map.specs.declared.placed.Placed.{Placed}
use Rattle.lvdc_text.specs.Lines.{NumberedLine}
use Rattle.lvdc_text.specs.Numbers.{number_of}
use Rattle.lvdc_image.specs.Image.{Contents}
use Rattle.lvdc_image.specs.declared.entry.Entry.{Entry}
use Rattle.lvdc_image.specs.declared.fault.ImageFault.{ImageFault}
use Rattle.lvdc_image.specs.declared.fault.ImageFault.TheVariants.{BadImageLine, AddressOrder, BadWord}

-- the bytes of the lines
abbrev pub texts : List NumberedLine → List (List ℕ)
texts lines = map (λ (line : NumberedLine). line.text) lines

-- the octal number that fills these columns, which begin here and are so many
abbrev pub field : ℕ → ℕ → List ℕ → Option ℕ
field column width text = number_of 8 width (slice_range text column (column + width))

-- the fields of a word line are parted by single spaces
abbrev pub is_spaced : List ℕ → Bool
is_spaced text = length text == 18 && slice_index text 1 == 32 && slice_index text 4 == 32 && slice_index text 8 == 32

-- the entry of these numbers, where they name an address whose bank is there
abbrev pub entry_of : ℕ → Option ℕ → Option ℕ → Option ℕ → Option ℕ → Option Entry
entry_of banks (Some pair) (Some sector) (Some loc) (Some value) =
    if nat_lt pair 8 && nat_lt sector 16 && nat_lt loc 256 && is_there banks (record { pair = pair; sector = sector; loc = loc })
    then Some (record { at = record { pair = pair; sector = sector; loc = loc }; value = value }) else None
entry_of banks _ _ _ _ = None

-- what a line says as a word line, where it has that form
unfoldable pub entry_in : ℕ → List ℕ → Option Entry
entry_in banks text = if is_spaced text then entry_of banks (field 0 1 text) (field 2 2 text) (field 5 3 text) (field 9 9 text) else None

-- the word of a line, or its refusal: its form comes first, then the order, where the place of the address is to be
-- at least this one, then the size of the word
abbrev pub placed_of : ℕ → ℕ → Option Entry → Result Placed ImageFault
placed_of least number None = Err (BadImageLine number)
placed_of least number (Some entry) =
    if nat_lt (number_of_spot entry.at) least then Err (AddressOrder number)
    else (if nat_lt entry.value (2 ^ 26) then Ok (record { at = entry.at; word = entry.value }) else Err (BadWord number))

-- the least place that may follow
abbrev pub least_after : Result Placed ImageFault → ℕ
least_after (Ok placed) = number_of_spot placed.at + 1
least_after (Err fault) = 0

-- a word stands before the others
abbrev pub with_word : Result Placed ImageFault → Result (List Placed) ImageFault → Result (List Placed) ImageFault
with_word (Ok placed) (Ok words) = Ok (placed ∷ words)
with_word (Ok placed) (Err fault) = Err fault
with_word (Err fault) later = Err fault

-- after END no line may follow
abbrev pub after_end : List NumberedLine → Result (List Placed) ImageFault
after_end [] = Ok []
after_end (line ∷ lines) = Err (BadImageLine line.number)

-- the words of the lines up to END, where the next line has this number
unfoldable pub words_from : ℕ → ℕ → ℕ → List NumberedLine → Result (List Placed) ImageFault
words_from banks least next [] = Err (BadImageLine next)
words_from banks least next (line ∷ lines) =
    if bytes_eq line.text (codes "END") then after_end lines
    else with_word (placed_of least line.number (entry_in banks line.text))
    (words_from banks (least_after (placed_of least line.number (entry_in banks line.text))) (line.number + 1) lines)

-- the image of words with this start constant and these simplex pairs
abbrev pub image_with : Option HopConstant → ℕ → Result (List Placed) ImageFault → Result Contents ImageFault
image_with start banks (Ok words) = Ok (record { words = words; start = start; banks = banks })
image_with start banks (Err fault) = Err fault

-- the text begins with the name of this pair: a single space and its digit
abbrev pub names_pair : ℕ → List ℕ → Bool
names_pair pair text = slice_index text 0 == 32 && slice_index text 1 == 48 + pair

-- bit p for pair p, where the text begins with its name
abbrev pub pair_bit : ℕ → List ℕ → ℕ
pair_bit pair text = if names_pair pair text then 2 ^ pair else 0

-- the text after the name of this pair, where it begins with it
abbrev pub after_pair : ℕ → List ℕ → List ℕ
after_pair pair text = if names_pair pair text then drop 2 text else text

-- the pairs that the text names in rising order, each at most once, and one at least
unfoldable pub banks_named : List ℕ → Option ℕ
banks_named text =
    let text_1 = after_pair 0 text in
    let text_2 = after_pair 1 text_1 in
    let text_3 = after_pair 2 text_2 in
    let banks = pair_bit 0 text + pair_bit 1 text_1 + pair_bit 2 text_2 + pair_bit 3 text_3 in
    if length (after_pair 3 text_3) == 0 && not (banks == 0) then Some banks else None

-- the simplex pairs that a line names, where it is a SIMPLEX line
unfoldable pub banks_in : List ℕ → Option ℕ
banks_in text = if bytes_eq (take 7 text) (codes "SIMPLEX") then banks_named (drop 7 text) else None

-- from the line after START on: a SIMPLEX line, or the words of a memory of duplex pairs
abbrev pub by_banks : HopConstant → ℕ → NumberedLine → List NumberedLine → Option ℕ → Result Contents ImageFault
by_banks start next line lines (Some banks) = image_with (Some start) banks (words_from banks 0 (line.number + 1) lines)
by_banks start next line lines None = image_with (Some start) 0 (words_from 0 0 next (line ∷ lines))

-- from the line after START on, which must be there
abbrev pub after_start : HopConstant → ℕ → List NumberedLine → Result Contents ImageFault
after_start start next [] = Err (BadImageLine next)
after_start start next (line ∷ lines) = by_banks start next line lines (banks_in line.text)

-- the number of a START line, where it has that form
abbrev pub start_number : List ℕ → Option ℕ
start_number text = if bytes_eq (take 6 text) (codes "START ") && length (drop 6 text) == 9 then number_of 8 9 (drop 6 text) else None

-- the start constant of a line, or its refusal: a number from 2^26 on, or with the spare bit, is none
abbrev pub start_of : ℕ → Option ℕ → Result HopConstant ImageFault
start_of number None = Err (BadImageLine number)
start_of number (Some value) = if nat_lt value (2 ^ 26) && value % 2 == 0 then Ok (hop_of value) else Err (BadWord number)

-- from the line after this START line on
abbrev pub by_start : Result HopConstant ImageFault → ℕ → List NumberedLine → Result Contents ImageFault
by_start (Ok start) number lines = after_start start (number + 1) lines
by_start (Err fault) number lines = Err fault

-- a text of version 2 after its first line
abbrev pub from_start : ℕ → List NumberedLine → Result Contents ImageFault
from_start next [] = Err (BadImageLine next)
from_start next (line ∷ lines) = by_start (start_of line.number (start_number line.text)) line.number lines

-- the image that the lines tell, or their first refusal
unfoldable pub image_of : List NumberedLine → Result Contents ImageFault
image_of [] = Err (BadImageLine 1)
image_of (line ∷ lines) =
    if bytes_eq line.text (codes "LVDC 1") then image_with None 0 (words_from 0 0 (line.number + 1) lines)
    else (if bytes_eq line.text (codes "LVDC 2") then from_start (line.number + 1) lines
    else Err (BadImageLine line.number))
