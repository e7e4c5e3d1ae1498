-- What a test and the parts of a value say, where the whole is known.
use Rattle.std.proofs.Common.{◌≡◌, ℕ, Bool, true, false, ◌&&◌, List, ◌∷◌, Option, None, Some, Ok, Err, refl, if◌then◌else◌}

-- both tests hold
pub both : (a b : Bool) → (a && b) ≡ true → (a ≡ true) × (b ≡ true)
both true b e = (refl, e)
both false b e = absurd (cc)

-- there is a value only where the test holds
pub some_if : {A : Type 0} (test : Bool) (told : Option A) (value : A) → (if test then told else None) ≡ Some value → (test ≡ true) × (told ≡ Some value)
some_if true told value e = (refl, e)
some_if false told value e = absurd (cc)

-- there is no refusal only where the test holds
pub ok_if : {A E : Type 0} (test : Bool) (one value : A) (fault : E) → (if test then Ok one else Err fault) ≡ Ok value → (test ≡ true) × (one ≡ value)
ok_if true one value fault e = (refl, cc)
ok_if false one value fault e = absurd (cc)

pub heads : (x y : List ℕ) (xs ys : List (List ℕ)) → x ∷ xs ≡ y ∷ ys → (x ≡ y) × (xs ≡ ys)
heads x y xs ys e = (cc, cc)

pub same_lines : (x y : List ℕ) (xs ys : List (List ℕ)) → x ≡ y → xs ≡ ys → x ∷ xs ≡ y ∷ ys
same_lines x y xs ys e h = rw (e, h) refl
