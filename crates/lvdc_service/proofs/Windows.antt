-- The bytes of an array between two places, of which the first ones are used.
use Rattle.std.proofs.Common.{◌≡◌, ℕ, ◌+◌, ◌-◌, ◌<◌, ◌≤◌, min, List, length, take, drop, sym, ap, ◌∙◌, ⊎_elim, arith, length-take, length-drop}
use Rattle.std.proofs.lemmas.Bool.{cases_lt}
use Rattle.std.specs.List.{slice_range}
use Rattle.std.proofs.lemmas.List.{drop-take, drop-drop, drop_all}

-- those behind the first n
pub range_behind : (bytes : List ℕ) (at end n : ℕ) → at + n ≤ end → slice_range bytes (at + n) end ≡ drop n (slice_range bytes at end)
range_behind bytes at end n l =
    let size : n + (end - (at + n)) ≡ end - at = omega arith in
    let front : drop n (take (n + (end - (at + n))) (drop at bytes)) ≡ take (end - (at + n)) (drop n (drop at bytes)) = drop-take n (end - (at + n)) (drop at bytes) in
    let behind : drop n (drop at bytes) ≡ drop (at + n) bytes = drop-drop n at bytes in
    sym (ap (λ m. drop n (take m (drop at bytes))) (sym size) ∙ front ∙ ap (take (end - (at + n))) behind)

pub range_length : (bytes : List ℕ) (at end : ℕ) → at ≤ end → end ≤ length bytes → length (slice_range bytes at end) ≡ end - at
range_length bytes at end o l = omega (arith, length-take (end - at) (drop at bytes), length-drop at bytes)

-- what is passed of them is no more than there is
pub dropped_min : (held : List ℕ) (most count : ℕ) → count ≡ min most (length held) → drop count held ≡ drop most held
dropped_min held most count e = ⊎_elim
    (λ (l : most < length held). ap (λ n. drop n held) (e ∙ omega arith))
    (λ (l : length held ≤ most). drop_all count held (omega arith) ∙ sym (drop_all most held l))
    (cases_lt most (length held))
