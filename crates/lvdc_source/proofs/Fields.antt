-- Reading the octal numbers between commas one by one.
use Rattle.std.proofs.Common.{◌≡◌, ℕ, ◌<◌, ◌≤◌, List, ◌∷◌, [], ◌++◌, length, refl, sym, ap, ◌∙◌, subst, Some, arith, append_assoc, append-nil, length-append}
use Rattle.std.specs.Prelude.{IfSome}
use Rattle.std.specs.declared.option.Option.{Option}
use Rattle.std.specs.declared.option.Option.TheVariants.{None}
use Rattle.std.specs.List.{before_first, slice_split}
use Rattle.lvdc_text.specs.Numbers.{number_of}
use Rattle.lvdc_source.specs.Numbers.{is_comma, after_any, with_number, octals_in, octals_of}
use Rattle.lvdc_source.proofs.Cuts.{fields_left, fields_first}

-- these numbers stand before the others, where all were found
abbrev pub with_numbers : List ℕ → Option (List ℕ) → Option (List ℕ)
with_numbers ns (Some more) = Some (ns ++ more)
with_numbers ns None = None

with_numbers-number : (ns : List ℕ) (n : ℕ) (later : Option (List ℕ)) → with_numbers ns (with_number (Some n) later) ≡ with_numbers (ns ++ n ∷ []) later
with_numbers-number ns n (Some more) = ap (λ (all : List ℕ). Some all) (sym (append_assoc ns (n ∷ []) more))
with_numbers-number ns n None = refl

long : (ns : List ℕ) (n : ℕ) (later total : Option (List ℕ)) → 4 ≤ length ns → with_numbers ns (with_number (Some n) later) ≡ total → IfSome total (λ all. 4 < length all)
long ns n (Some more) total l e = subst (λ (t : Option (List ℕ)). IfSome t (λ all. 4 < length all)) e (omega (arith, length-append ns (n ∷ more)))
long ns n None total l e = subst (λ (t : Option (List ℕ)). IfSome t (λ all. 4 < length all)) e tt

pub octals_of-split : (text : List ℕ) → with_numbers [] (octals_in (slice_split is_comma text)) ≡ octals_of text
unfolding octals_of
octals_of-split text = nothing (octals_in (slice_split is_comma text))
  where
    nothing : (later : Option (List ℕ)) → with_numbers [] later ≡ later
    nothing (Some more) = refl
    nothing None = refl

module _ (ns fields : List ℕ) (total : Option (List ℕ)) (so_far : with_numbers ns (octals_in (slice_split is_comma fields)) ≡ total) where
  by_first : (found : Option ℕ) → found ≡ number_of 8 9 (before_first is_comma fields) → with_numbers ns (with_number found (octals_in (fields_left is_comma (after_any is_comma fields)))) ≡ total
  by_first found e =
      ap (λ (o : Option ℕ). with_numbers ns (with_number o (octals_in (fields_left is_comma (after_any is_comma fields))))) e
      ∙ ap (λ (pieces : List (List ℕ)). with_numbers ns (octals_in pieces)) (sym (fields_first is_comma fields)) ∙ so_far

  pub at_number : (n : ℕ) → Some n ≡ number_of 8 9 (before_first is_comma fields) → with_numbers (ns ++ n ∷ []) (octals_in (fields_left is_comma (after_any is_comma fields))) ≡ total
  at_number n e = sym (with_numbers-number ns n (octals_in (fields_left is_comma (after_any is_comma fields)))) ∙ by_first (Some n) e

  pub at_other : None ≡ number_of 8 9 (before_first is_comma fields) → total ≡ None
  at_other e = sym (by_first None e)

  pub at_full : (n : ℕ) → 4 ≤ length ns → Some n ≡ number_of 8 9 (before_first is_comma fields) → IfSome total (λ all. 4 < length all)
  at_full n l e = long ns n (octals_in (fields_left is_comma (after_any is_comma fields))) total l (by_first (Some n) e)

pub at_last : (ns : List ℕ) (total : Option (List ℕ)) → with_numbers ns (octals_in []) ≡ total → total ≡ Some ns
at_last ns total e = sym e ∙ ap (λ (all : List ℕ). Some all) (append-nil ns)
