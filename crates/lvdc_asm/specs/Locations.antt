-- What a source puts into the locations of the memory, and the words of that.
use Rattle.std.specs.Prelude.{ℕ, ◌+◌, ◌==◌, ◌&&◌, if◌then◌else◌, List, [], ◌∷◌, ◌++◌, slice_index_or, slice_set, replicate, Option, None, Some, unwrap_or, is_none}
use Rattle.lvdc_word.specs.Word.{upper, lower, joined}
use Rattle.lvdc_map.specs.Address.{Spot, number_of, spot_at}
use Rattle.lvdc_map.specs.declared.placed.Placed.{Placed}
use Rattle.lvdc_asm.specs.declared.location.Location.{Location}

-- neither slot is filled
abbrev pub no_syllables : Location
no_syllables = record { one = None; zero = None }

-- a word fills both slots
abbrev pub both_syllables : ℕ → Location
both_syllables w = record { one = Some (upper w); zero = Some (lower w) }

-- with this syllable in slot 1 or slot 0
abbrev pub with_syllable : Location → ℕ → ℕ → Location
with_syllable location syl s = if syl == 1 then record location { one = Some s } else record location { zero = Some s }

-- the word of a location one of whose slots is filled; a syllable that isn't there is 0
abbrev pub word_in : Location → Option ℕ
word_in location =
    if is_none location.one && is_none location.zero then None
    else Some (joined (unwrap_or location.one 0) (unwrap_or location.zero 0))

-- what stands at each address of the four pairs, in the order of the addresses
abbrev pub Locations : Type 0
Locations = List Location

-- nothing stands anywhere
unfoldable pub nothing : Locations
nothing = replicate 16384 no_syllables

-- what stands at an address
abbrev pub location_at : Locations → Spot → Location
location_at locations at = slice_index_or locations (number_of at) no_syllables

-- with this in the location of an address
abbrev pub put_at : Locations → Spot → Location → Locations
put_at locations at location = slice_set locations (number_of at) location

-- with a syllable of code in its slot
abbrev pub with_code : Locations → Spot → ℕ → ℕ → Locations
with_code locations at syl s = put_at locations at (with_syllable (location_at locations at) syl s)

-- with a word in both slots of its location
abbrev pub with_word : Locations → Spot → ℕ → Locations
with_word locations at w = put_at locations at (both_syllables w)

-- the word of an address, where it has one, as a word of an image
abbrev pub placed_at : Spot → Option ℕ → List Placed
placed_at at None = []
placed_at at (Some w) = record { at = at; word = w } ∷ []

-- the words of locations that stand from this place in the order of the addresses on
abbrev pub words_from : ℕ → Locations → List Placed
words_from place [] = []
words_from place (location ∷ locations) = placed_at (spot_at place) (word_in location) ++ words_from (place + 1) locations

-- the words of all locations, by rising address
abbrev pub words_of : Locations → List Placed
words_of locations = words_from 0 locations
