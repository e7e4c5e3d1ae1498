-- What the parts of a line say.
use Rattle.std.proofs.Common.{◌≡◌, ℕ, ◌<◌, ◌≤◌, Bool, true, false, ◌&&◌, List, [], ◌∷◌, length, map, get_or, Some, None, refl, sym, ap, ◌∙◌, arith, if◌then◌else◌}
use Rattle.std.specs.Prelude.{codes, nat_le, nat_lt}
use Rattle.std.specs.List.{list_all}
use Rattle.std.specs.Str.{bytes_eq}
use Rattle.std.proofs.lemmas.Bool.Decides.{nat_tests}
use Rattle.std.proofs.lemmas.List.Sums.{AllPass-from_list_all}
use Rattle.std.proofs.lemmas.List.Folds.{list_all-map}
use Rattle.lvdc_service.specs.declared.parts.Part.{Part}
use Rattle.lvdc_service.specs.Frames.{is_word, are_words, with_words, input_count, frame_line_of_parts}

pub parts_yes : (first digits : List ℕ) (words : List (List ℕ)) → bytes_eq first (codes "REQUEST") ≡ true → are_words words ≡ true
    → frame_line_of_parts (first ∷ digits ∷ words) ≡ with_words words (input_count digits)
unfolding frame_line_of_parts
parts_yes first digits words named h = rw (named, h) refl

pub parts_unnamed : (first digits : List ℕ) (words : List (List ℕ)) → bytes_eq first (codes "REQUEST") ≡ false
    → frame_line_of_parts (first ∷ digits ∷ words) ≡ None
unfolding frame_line_of_parts
parts_unnamed first digits words unnamed = rw unnamed refl

both_false : (a : Bool) → (a && false) ≡ false
both_false true = refl
both_false false = refl

pub parts_no_words : (first digits : List ℕ) (words : List (List ℕ)) → are_words words ≡ false
    → frame_line_of_parts (first ∷ digits ∷ words) ≡ None
unfolding frame_line_of_parts
parts_no_words first digits words h =
    ap (λ a. if bytes_eq first (codes "REQUEST") && a then with_words words (input_count digits) else None) h
    ∙ ap (λ a. if a then with_words words (input_count digits) else None) (both_false (bytes_eq first (codes "REQUEST")))

too_many_words : (words : List (List ℕ)) → 8 < length words → are_words words ≡ false
too_many_words words l =
    let many : nat_le (length words) 8 ≡ false = grind (arith, nat_tests) in
    let some : nat_lt 0 (length words) ≡ true = grind (arith, nat_tests) in
    rw (many, some) refl

-- too many parts
pub parts_many : (parts : List (List ℕ)) → 10 < length parts → frame_line_of_parts parts ≡ None
parts_many [] l = absurd (omega arith)
parts_many (first ∷ []) l = absurd (omega arith)
parts_many (first ∷ digits ∷ words) l = parts_no_words first digits words (too_many_words words (omega arith))

-- too few
pub parts_none : frame_line_of_parts [] ≡ None
unfolding frame_line_of_parts
parts_none = refl

pub parts_one : (first : List ℕ) → frame_line_of_parts (first ∷ []) ≡ None
unfolding frame_line_of_parts
parts_one first = refl

pub few_words : (words : List (List ℕ)) → are_words words ≡ true → (length words ≤ 8) × (list_all is_word words ≡ true)
few_words words h =
    let few : length words ≤ 8 = grind (arith, nat_tests) in
    (few, grind (arith, nat_tests))

pub said : (first digits : List ℕ) (words kept : List (List ℕ)) (count : ℕ) → bytes_eq first (codes "REQUEST") ≡ true → are_words words ≡ true
    → input_count digits ≡ Some count → words ≡ kept → frame_line_of_parts (first ∷ digits ∷ words) ≡ Some (record { count = count; words = kept })
said first digits words kept count named h counted same =
    parts_yes first digits words named h ∙ ap (with_words words) counted ∙ ap (λ (ws : List (List ℕ)). with_words ws (Some count)) same

pub uncounted : (first digits : List ℕ) (words : List (List ℕ)) → bytes_eq first (codes "REQUEST") ≡ true → are_words words ≡ true
    → input_count digits ≡ None → frame_line_of_parts (first ∷ digits ∷ words) ≡ None
uncounted first digits words named h counted = parts_yes first digits words named h ∙ ap (with_words words) counted

-- one of the words
pub word_at : (f : Part → List ℕ) (parts : List Part) (i : ℕ) (d : Part) → list_all is_word (map f parts) ≡ true → i < length parts → is_word (f (get_or parts i d)) ≡ true
word_at f parts i d h l = AllPass-from_list_all (λ p. is_word (f p)) parts (sym (list_all-map is_word f parts) ∙ h) i d l
