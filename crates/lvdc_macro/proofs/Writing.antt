-- A line is written.
use Rattle.std.proofs.Common.{◌≡◌, ℕ, ◌+◌, ◌≤◌, nat_lt, Bool, true, false, true≢false, subst, List, [], ◌∷◌, ◌++◌, length, Ok, Err, cond, refl, sym, ap, ◌∙◌, append_assoc, length-append, arith}
use Rattle.std.proofs.lemmas.Bool.Decides.{nat_tests}
use Rattle.lvdc_macro.specs.declared.fault.MacroFault.TheVariants.{ExpansionTooLong}
use Rattle.lvdc_macro.specs.Expansion.{write, bytes_of}
use Rattle.lvdc_macro.specs.Making.{Out, progress_of, Writes}

pub bytes_of-line : (text : List ℕ) (origin : ℕ) → bytes_of (record { text = text; origin = origin } ∷ []) ≡ text ++ 10 ∷ []
unfolding bytes_of
bytes_of-line text origin = refl

pub written : (origin : ℕ) (old new : Out) (text : List ℕ) → length old.bytes + length text + 1 ≤ 1048576 → new.bytes ≡ (old.bytes ++ text) ++ 10 ∷ [] → new.origins ≡ old.origins ++ origin ∷ []
    → new.calls ≡ old.calls → Writes (write origin (progress_of old) text) old new
written origin old new text fits bytes origins calls = by (nat_lt 1048576 (length old.bytes + length text + 1)) (grind (arith, nat_tests))
  where
    size : length new.bytes ≡ length old.bytes + length text + 1
    size = omega (arith, ap length bytes, length-append (old.bytes ++ text) (10 ∷ []), length-append old.bytes text)

    by : (b : Bool) → b ≡ false →
        Writes (cond b (Err (ExpansionTooLong origin)) (Ok (record { lines = record { text = text; origin = origin } ∷ []; after = record { calls = old.calls; size = length old.bytes + length text + 1 } }))) old new
    by true h = absurd (true≢false h)
    by false h = record {
      bytes = bytes ∙ append_assoc old.bytes text (10 ∷ []) ∙ ap (λ (w : List ℕ). old.bytes ++ w) (sym (bytes_of-line text origin));
      origins = origins;
      after = λ i. record { calls = calls i; size = size i };
    }

pub Writes-same : (origin : ℕ) (inside old new : Out) (text : List ℕ) → inside ≡ old → Writes (write origin (progress_of inside) text) inside new → Writes (write origin (progress_of old) text) old new
Writes-same origin inside old new text same h = subst (λ (o : Out). Writes (write origin (progress_of o) text) o new) same h
