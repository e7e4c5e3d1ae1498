-- The place of a frame that a line sends is in one of the pairs, and its number is counted from 1.
use Rattle.std.proofs.Common.{◌≡◌, ℕ, ◌-◌, ◌<◌, ◌≤◌, Bool, true, false, nat_lt, nat_le, List, [], ◌∷◌, take, length, codes, Option, None, Some, refl, arith, if◌then◌else◌}
use Rattle.std.specs.Prelude.{slice_index_or}
use Rattle.std.specs.Option.{option_and_then, option_map}
use Rattle.std.specs.Str.{bytes_eq}
use Rattle.std.proofs.lemmas.Bool.{ltb-true, leb-true}
use Rattle.lvdc_map.specs.Address.{Spot}
use Rattle.lvdc_text.specs.Lines.{token_texts_of, is_long}
use Rattle.lvdc_text.specs.Numbers.{number_of, below, word_in}
use Rattle.lvdc_lines.specs.Fields.{from, octal_in, pair_in, place_of, place_in}
use Rattle.lvdc_uplink.specs.Messages.{id_in, count_in, content_in, checked_of, open_of, open_in, frame_of, frame_in, commit_of, commit_in, abandon_in, message_in, message_of}
use Rattle.lvdc_uplink.specs.declared.message.Message.{Message}
use Rattle.lvdc_uplink.specs.declared.message.Message.TheVariants as messages

-- a place in one of the pairs
pub record IsPlace (at : Spot) : Type 0 where
  pub pair : at.pair < 4
  pub sector : at.sector < 16

-- the message is no frame, or its frame has a number and a place
abbrev pub IsRanged : Option Message → Type 0
IsRanged (Some (messages.Frame id number frame check)) = IsPlace frame.at × (1 ≤ number)
IsRanged _ = Unit {0}

below-limit : (limit : ℕ) (told : Option ℕ) (n : ℕ) → below limit told ≡ Some n → n < limit
below-limit limit None n is = absurd (cc)
below-limit limit (Some m) n is = by_test (nat_lt m limit) refl is
  where
    by_test : (test : Bool) → nat_lt m limit ≡ test → (if test then Some m else None) ≡ Some n → n < limit
    by_test true low told = let same : m ≡ n = cc in omega (arith, same, ltb-true m limit low)
    by_test false low told = absurd (cc)

from-least : (least : ℕ) (told : Option ℕ) (n : ℕ) → from least told ≡ Some n → least ≤ n
from-least least None n is = absurd (cc)
from-least least (Some m) n is = by_test (nat_le least m) refl is
  where
    by_test : (test : Bool) → nat_le least m ≡ test → (if test then Some m else None) ≡ Some n → least ≤ n
    by_test true high told = let same : m ≡ n = cc in omega (arith, same, leb-true least m high)
    by_test false high told = absurd (cc)

count_in-some : (text : List ℕ) (n : ℕ) → count_in text ≡ Some n → 1 ≤ n
unfolding count_in
count_in-some text n is = from-least 1 (below 65 (number_of 10 6 text)) n is

place_of-ranged : (pair sector loc : Option ℕ) (at : Spot) → ((n : ℕ) → pair ≡ Some n → n < 4) → ((n : ℕ) → sector ≡ Some n → n < 16)
    → place_of pair sector loc ≡ Some at → IsPlace at
place_of-ranged (Some p) (Some s) (Some l) at low_pair low_sector is =
    let same_pair : p ≡ at.pair = cc in
    let same_sector : s ≡ at.sector = cc in
    record { pair = omega (arith, same_pair, low_pair p refl); sector = omega (arith, same_sector, low_sector s refl) }
place_of-ranged None sector loc at low_pair low_sector is = absurd (cc)
place_of-ranged (Some p) None loc at low_pair low_sector is = absurd (cc)
place_of-ranged (Some p) (Some s) None at low_pair low_sector is = absurd (cc)

place_in-ranged : (pair sector loc : List ℕ) (at : Spot) → place_in pair sector loc ≡ Some at → IsPlace at
unfolding place_in pair_in
place_in-ranged pair sector loc at is =
    place_of-ranged (octal_in 4 1 pair) (octal_in 16 2 sector) (octal_in 256 3 loc) at (below-limit 4 (number_of 8 1 pair)) (below-limit 16 (number_of 8 2 sector)) is

frame_of-ranged : (id number : Option ℕ) (place : Option Spot) (words : Spot → Option (List ℕ)) (check : Option ℕ) → ((n : ℕ) → number ≡ Some n → 1 ≤ n)
    → ((at : Spot) → place ≡ Some at → IsPlace at) → IsRanged (frame_of id number (option_and_then (λ at. checked_of at (words at) check) place))
frame_of-ranged None number place words check some low = tt
frame_of-ranged (Some id) None place words check some low = tt
frame_of-ranged (Some id) (Some number) None words check some low = tt
frame_of-ranged (Some id) (Some number) (Some at) words check some low = by_words (words at) check
  where
    by_words : (found : Option (List ℕ)) (check : Option ℕ) → IsRanged (frame_of (Some id) (Some number) (checked_of at found check))
    by_words None check = tt
    by_words (Some ws) None = tt
    by_words (Some ws) (Some c) = (low at refl, some number refl)

frame_in-ranged : (fields : List (List ℕ)) → IsRanged (frame_in fields)
frame_in-ranged [] = tt
frame_in-ranged (id ∷ []) = tt
frame_in-ranged (id ∷ number ∷ []) = tt
frame_in-ranged (id ∷ number ∷ pair ∷ []) = tt
frame_in-ranged (id ∷ number ∷ pair ∷ sector ∷ []) = tt
frame_in-ranged (id ∷ number ∷ pair ∷ sector ∷ loc ∷ rest) =
    frame_of-ranged (id_in id) (count_in number) (place_in pair sector loc) (λ at. content_in (take (length rest - 1) rest))
    (word_in (slice_index_or rest (length rest - 1) [])) (count_in-some number) (place_in-ranged pair sector loc)

open_of-ranged : (id count : Option ℕ) → IsRanged (open_of id count)
open_of-ranged None count = tt
open_of-ranged (Some id) None = tt
open_of-ranged (Some id) (Some count) = tt

open_in-ranged : (fields : List (List ℕ)) → IsRanged (open_in fields)
open_in-ranged [] = tt
open_in-ranged (id ∷ []) = tt
open_in-ranged (id ∷ count ∷ []) = open_of-ranged (id_in id) (count_in count)
open_in-ranged (id ∷ count ∷ more ∷ fields) = tt

commit_of-ranged : (id check : Option ℕ) → IsRanged (commit_of id check)
commit_of-ranged None check = tt
commit_of-ranged (Some id) None = tt
commit_of-ranged (Some id) (Some check) = tt

commit_in-ranged : (fields : List (List ℕ)) → IsRanged (commit_in fields)
commit_in-ranged [] = tt
commit_in-ranged (id ∷ []) = tt
commit_in-ranged (id ∷ check ∷ []) = commit_of-ranged (id_in id) (word_in check)
commit_in-ranged (id ∷ check ∷ more ∷ fields) = tt

abandon_of-ranged : (id : Option ℕ) → IsRanged (option_map messages.Abandon id)
abandon_of-ranged None = tt
abandon_of-ranged (Some id) = tt

abandon_in-ranged : (fields : List (List ℕ)) → IsRanged (abandon_in fields)
abandon_in-ranged [] = tt
abandon_in-ranged (id ∷ []) = abandon_of-ranged (id_in id)
abandon_in-ranged (id ∷ more ∷ fields) = tt

either : (test : Bool) (one other : Option Message) → IsRanged one → IsRanged other → IsRanged (if test then one else other)
either true one other a b = a
either false one other a b = b

message_in-ranged : (tokens : List (List ℕ)) → IsRanged (message_in tokens)
message_in-ranged [] = tt
message_in-ranged (word ∷ fields) =
    either (bytes_eq word (codes "OPEN")) (open_in fields) _ (open_in-ranged fields)
    (either (bytes_eq word (codes "FRAME")) (frame_in fields) _ (frame_in-ranged fields)
    (either (bytes_eq word (codes "COMMIT")) (commit_in fields) _ (commit_in-ranged fields)
    (either (bytes_eq word (codes "ABANDON")) (abandon_in fields) None (abandon_in-ranged fields) tt)))

pub message_of-ranged : (text : List ℕ) → IsRanged (message_of text)
message_of-ranged text = either (is_long text) None (message_in (token_texts_of text)) tt (message_in-ranged (token_texts_of text))
