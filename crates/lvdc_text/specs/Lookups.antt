-- What is found by a name.
use Rattle.std.specs.Prelude.{◌≡◌, ℕ, List}
use Rattle.std.specs.Map.{lookup}
use Rattle.std.specs.Str.{bytes_eq}

-- two lists of entries, whose keys are seen as bytes, have the same value at each name
abbrev pub FindsSame : {K X : Type 0} → (K → List ℕ) → List (K × X) → List (K × X) → Type 0
FindsSame f es fs = (name : List ℕ) → lookup (λ k. bytes_eq name (f k)) es ≡ lookup (λ k. bytes_eq name (f k)) fs
