-- A list that is appended item by item.
use Rattle.std.proofs.Common.{◌≡◌, ℕ, ◌+◌, List, [], ◌∷◌, ◌++◌, drop, sym, ap, ◌∙◌, append_assoc, slice_get}
use Rattle.std.proofs.lemmas.List.{drop_more}
use Rattle.std.proofs.lemmas.Option.{slice_get_within, get_or_from_slice_get}
use Rattle.std.specs.declared.option.Option.TheVariants.{Some}

-- the items so far and those that are left are all
pub again-more : {A : Type 0} (whole so_far next : List A) (at : ℕ) (item : A) → slice_get whole at ≡ Some item → next ≡ so_far ++ item ∷ []
    → so_far ++ drop at whole ≡ whole → next ++ drop (at + 1) whole ≡ whole
again-more whole so_far next at item is made e =
    let front : drop at whole ≡ item ∷ drop (at + 1) whole =
    drop_more whole at item (slice_get_within whole at item is) ∙ ap (λ x. x ∷ drop (at + 1) whole) (get_or_from_slice_get whole at item item is) in
    ap (λ t. t ++ drop (at + 1) whole) made ∙ append_assoc so_far (item ∷ []) (drop (at + 1) whole) ∙ ap (λ t. so_far ++ t) (sym front) ∙ e
