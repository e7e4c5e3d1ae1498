-- The words of a command line, as bytes.
use Rattle.std.specs.Prelude.{ℕ, Bool, List, map, string_bytes, String}
use Rattle.std.specs.Global.{Global}
use Rattle.std.specs.Str.{bytes_eq}

-- the bytes of the words
abbrev pub texts : List (String Global) → List (List ℕ)
texts words = map string_bytes words

-- is it this word?
abbrev pub is : List ℕ → List ℕ → Bool
is name word = bytes_eq word name
