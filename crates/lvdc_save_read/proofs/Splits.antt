-- Lists parted at an item.
use Rattle.std.proofs.Common.{◌≡◌, ◌<◌, List, [], ◌∷◌, ◌++◌, All, length, get_or, refl, sym, subst, arith, length-append}
use Rattle.std.specs.Prelude.{AllPairs}
use Rattle.std.proofs.lemmas.List.{get_or_append_left, get_or_at}

-- what holds of each item holds of the one where the list is parted
pub item_of : {A : Type 0} (P : A → Type 0) (done rest : List A) (x : A) (all : List A) → done ++ x ∷ rest ≡ all → All P all → P x
item_of P done rest x all e every =
    let here : All P (done ++ x ∷ rest) = subst (All P) (sym e) every in
    let at = get_or_at done x rest x (length done) refl in
    subst P at (here (length done) x (omega (arith, length-append done (x ∷ rest))))

-- the items before it stand in the relation to it
pub before_item : {A : Type 0} (R : A → A → Type 0) (done rest : List A) (x : A) (all : List A) → done ++ x ∷ rest ≡ all → AllPairs R all
    → All (λ y. R y x) done
before_item R done rest x all e pairs = λ k d less.
    let here : AllPairs R (done ++ x ∷ rest) = subst (AllPairs R) (sym e) pairs in
    let pair = here k (length done) d less (omega (arith, length-append done (x ∷ rest))) in
    let later = subst (R (get_or (done ++ x ∷ rest) k d)) (get_or_at done x rest d (length done) refl) pair in
    subst (λ y. R y x) (get_or_append_left done (x ∷ rest) d k less) later

pub last_item : {A : Type 0} (P : A → Type 0) (done : List A) (x : A) → All P (done ++ x ∷ []) → P x
last_item P done x every = item_of P done [] x (done ++ x ∷ []) refl every

pub first_items : {A : Type 0} (P : A → Type 0) (done : List A) (x : A) → All P (done ++ x ∷ []) → All P done
first_items P done x every = λ k d less.
    subst P (get_or_append_left done (x ∷ []) d k less) (every k d (omega (arith, less, length-append done (x ∷ []))))

-- the items before it are fewer than all
pub fewer : {A : Type 0} (done rest : List A) (x : A) (all : List A) → done ++ x ∷ rest ≡ all → length done < length all
fewer done rest x all e = subst (λ ys. length done < length ys) e (omega (arith, length-append done (x ∷ rest)))
