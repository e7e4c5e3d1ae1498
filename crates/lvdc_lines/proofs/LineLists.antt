-- Texts that grow by one line after the other.
use Rattle.std.proofs.Common.{◌≡◌, ℕ, zero, suc, ◌+◌, ◌<◌, ◌≤◌, List, [], ◌∷◌, ◌++◌, map, length, get_or, drop, refl, sym, ap, ◌∙◌, append_assoc, add-one, arith}
use Rattle.std.proofs.lemmas.List.{append-nil, drop_more, drop_all}
use Rattle.lvdc_lines.specs.Noted.{lines_of, lines_below}

-- a text to which a and then b were added
pub onward : (front a b x y : List ℕ) → x ≡ front ++ a → y ≡ x ++ b → y ≡ front ++ (a ++ b)
onward front a b x y e f = f ∙ ap (λ t. t ++ b) e ∙ append_assoc front a b

pub lines_of_more : {A : Type 0} (line : A → List ℕ) (index : ℕ) (items : List A) (item : A) (text next all : List ℕ) → index < length items
    → item ≡ get_or items index item → next ≡ text ++ line item → text ++ lines_of line (drop index items) ≡ all
    → next ++ lines_of line (drop (index + 1) items) ≡ all
unfolding lines_of
lines_of_more line index items item text next all l is n e =
    ap (λ front. front ++ lines_of line (drop (index + 1) items)) n
    ∙ append_assoc text (line item) (lines_of line (drop (index + 1) items))
    ∙ ap (λ x. text ++ (line x ++ lines_of line (drop (index + 1) items))) is
    ∙ ap (λ rest. text ++ rest) (sym (ap (λ xs. lines_of line xs) (drop_more items index item l)))
    ∙ e

pub lines_of_done : {A : Type 0} (line : A → List ℕ) (index : ℕ) (items : List A) (text all : List ℕ) → length items ≤ index
    → text ++ lines_of line (drop index items) ≡ all → text ≡ all
unfolding lines_of
lines_of_done line index items text all l e =
    sym (append-nil text) ∙ ap (λ rest. text ++ rest) (sym (ap (λ xs. lines_of line xs) (drop_all index items l))) ∙ e

-- the lines of one list after those of another
pub lines_of-append : {A : Type 0} (line : A → List ℕ) (xs ys : List A) → lines_of line (xs ++ ys) ≡ lines_of line xs ++ lines_of line ys
unfolding lines_of
lines_of-append line [] ys = refl
lines_of-append line (x ∷ xs) ys =
    ap (λ rest. line x ++ rest) (lines_of-append line xs ys) ∙ sym (append_assoc (line x) (lines_of line xs) (lines_of line ys))

-- the lines of what items become
pub lines_of-map : {A B : Type 0} (line : B → List ℕ) (f : A → B) (xs : List A) → lines_of line (map f xs) ≡ lines_of (λ x. line (f x)) xs
unfolding lines_of
lines_of-map line f [] = refl
lines_of-map line f (x ∷ xs) = ap (λ rest. line (f x) ++ rest) (lines_of-map line f xs)

-- lines that are empty add nothing
pub lines_below_blank : (line : ℕ → List ℕ) (n more : ℕ) → ((i : ℕ) → i < more → line (n + i) ≡ []) → lines_below line (n + more) ≡ lines_below line n
unfolding lines_below
lines_below_blank line n zero none = let same : n + zero ≡ n = omega arith in ap (lines_below line) same
lines_below_blank line n (suc more) none =
    let next : n + suc more ≡ suc (n + more) = omega arith in
    ap (lines_below line) next ∙ ap (λ last. lines_below line (n + more) ++ last) (none more (omega arith)) ∙ append-nil (lines_below line (n + more))
    ∙ lines_below_blank line n more (λ i less. none i (omega (arith, less)))

pub lines_below_none : (line : ℕ → List ℕ) (front : List ℕ) → front ≡ front ++ lines_below line 0
unfolding lines_below
lines_below_none line front = sym (append-nil front)

pub lines_below_more : (line : ℕ → List ℕ) (number : ℕ) (front text next : List ℕ) → text ≡ front ++ lines_below line number
    → next ≡ text ++ line number → next ≡ front ++ lines_below line (number + 1)
unfolding lines_below
lines_below_more line number front text next so_far more =
    rw add-one (more ∙ ap (λ t. t ++ line number) so_far ∙ append_assoc front (lines_below line number) (line number))
