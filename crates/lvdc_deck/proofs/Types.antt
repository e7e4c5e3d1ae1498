-- The types of values, for those whose names their crates keep to themselves.
use Rattle.std.proofs.Common.{List, Option}

-- of the value itself
abbrev pub TypeOf : {A : Type 0} → A → Type 0
TypeOf {A} value = A

-- of what may be there
abbrev pub ValueOf : {A : Type 0} → Option A → Type 0
ValueOf {A} value = A

-- of what a list has
abbrev pub ElementOf : {A : Type 0} → List A → Type 0
ElementOf {A} list = A
