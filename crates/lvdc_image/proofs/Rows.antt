-- Worked values of the definitions.
use Rattle.std.proofs.Common.{◌≡◌, ℕ, ◌+◌, List, [], ◌∷◌, Ok, Err, Some, Result, refl, codes}
use Rattle.lvdc_map.specs.Hop.{hop_of}
use Rattle.lvdc_image.specs.Image.{Contents, image_lines}
use Rattle.lvdc_text.specs.Lines.{NumberedLine}
use Rattle.lvdc_image.specs.Reading.{entry_in, words_from, banks_named, banks_in, image_of}
use Rattle.lvdc_text.specs.Numbers.{octal_text}
use Rattle.lvdc_image.specs.declared.fault.ImageFault.{ImageFault}
use Rattle.lvdc_image.specs.declared.fault.ImageFault.TheVariants.{BadImageLine, AddressOrder, BadWord}

-- lines numbered from this one on
from : ℕ → List (List ℕ) → List NumberedLine
from number [] = []
from number (text ∷ texts) = record { number = number; text = text } ∷ from (number + 1) texts

meaning : List (List ℕ) → Result Contents ImageFault
meaning texts = image_of (from 2 texts)

-- an image with a start constant and a word in the odd module of pair 0
simplex : Contents
simplex =
    record {
      words = record { at = record { pair = 0; sector = 0; loc = 0 }; word = 0o17000 } ∷ record { at = record { pair = 4; sector = 1; loc = 0 }; word = 7 } ∷ [];
      start = Some (hop_of 0o216);
      banks = 1;
    }

lines_of_simplex : List (List ℕ)
lines_of_simplex =
    codes "LVDC 2" ∷ codes "START 000000216" ∷ codes "SIMPLEX 0" ∷ codes "0 00 000 000017000" ∷ codes "4 01 000 000000007" ∷ codes "END" ∷ []

printed : image_lines simplex ≡ lines_of_simplex
unfolding simplex lines_of_simplex octal_text
printed = refl

read : meaning lines_of_simplex ≡ Ok simplex
unfolding meaning from simplex lines_of_simplex words_from entry_in banks_in banks_named image_of
read = refl

-- without the SIMPLEX line bank 4 isn't there
bank_missing : meaning (codes "LVDC 2" ∷ codes "START 000000216" ∷ codes "0 00 000 000017000" ∷ codes "4 01 000 000000007" ∷ codes "END" ∷ []) ≡ Err (BadImageLine 5)
unfolding meaning from words_from entry_in banks_in banks_named image_of
bank_missing = refl

spare_bit : meaning (codes "LVDC 2" ∷ codes "START 000000017" ∷ codes "END" ∷ []) ≡ Err (BadWord 3)
unfolding meaning from words_from entry_in banks_in banks_named image_of
spare_bit = refl

falling_pairs : meaning (codes "LVDC 2" ∷ codes "START 000000016" ∷ codes "SIMPLEX 1 0" ∷ codes "END" ∷ []) ≡ Err (BadImageLine 4)
unfolding meaning from words_from entry_in banks_in banks_named image_of
falling_pairs = refl

-- the line that isn't there is the next one
start_missing : meaning (codes "LVDC 2" ∷ []) ≡ Err (BadImageLine 3)
unfolding meaning from words_from entry_in banks_in banks_named image_of
start_missing = refl

end_missing : meaning (codes "LVDC 1" ∷ codes "0 00 000 000017000" ∷ []) ≡ Err (BadImageLine 4)
unfolding meaning from words_from entry_in banks_in banks_named image_of
end_missing = refl

after_the_end : meaning (codes "LVDC 1" ∷ codes "END" ∷ [] ∷ []) ≡ Err (BadImageLine 4)
unfolding meaning from words_from entry_in banks_in banks_named image_of
after_the_end = refl

same_address : meaning (codes "LVDC 1" ∷ codes "0 00 000 000017000" ∷ codes "0 00 000 400000000" ∷ codes "END" ∷ []) ≡ Err (AddressOrder 4)
unfolding meaning from words_from entry_in banks_in banks_named image_of
same_address = refl

too_large : meaning (codes "LVDC 1" ∷ codes "0 00 000 400000000" ∷ codes "END" ∷ []) ≡ Err (BadWord 3)
unfolding meaning from words_from entry_in banks_in banks_named image_of
too_large = refl

sector_20 : meaning (codes "LVDC 1" ∷ codes "0 20 000 000017000" ∷ codes "END" ∷ []) ≡ Err (BadImageLine 3)
unfolding meaning from words_from entry_in banks_in banks_named image_of
sector_20 = refl

no_lines : meaning [] ≡ Err (BadImageLine 1)
unfolding meaning from words_from entry_in banks_in banks_named image_of
no_lines = refl
