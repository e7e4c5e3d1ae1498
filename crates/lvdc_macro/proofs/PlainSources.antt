-- A source without macros is its own expansion.
use Rattle.std.proofs.Common.{◌≡◌, ℕ, suc, ◌+◌, ◌≤◌, nat_lt, Bool, false, cond, List, [], ◌∷◌, length, All, None, Result, Ok, Err, refl, ap, ◌∙◌, length-append, arith}
use Rattle.std.proofs.lemmas.Bool.Decides.{nat_tests}
use Rattle.lvdc_text.specs.Lines.{NumberedLine}
use Rattle.lvdc_macro.specs.declared.fault.MacroFault.{MacroFault}
use Rattle.lvdc_macro.specs.declared.fault.MacroFault.TheVariants.{ExpansionTooLong}
use Rattle.lvdc_macro.specs.Expansion.{Written, Progress, State, Step, piece_of, step_of, with_piece, outside_by, after_line, and_on, in_front, expanded_from, bytes_of}
use Rattle.lvdc_macro.specs.Plain.{IsPlain, itself, themselves}

-- no macro is defined, and so much is written
abbrev plain_state : Progress → State
plain_state p = record { macros = []; pending = None; progress = p }

bytes_of-more : (line : Written) (lines : List Written) → length (bytes_of (line ∷ lines)) ≡ length line.text + 1 + length (bytes_of lines)
unfolding bytes_of
bytes_of-more line lines = omega (arith, length-append line.text (10 ∷ bytes_of lines))

plain_line : (p : Progress) (line : NumberedLine) → IsPlain line → p.size + length line.text + 1 ≤ 1048576
    → after_line (plain_state p) line ≡ Ok (step_of (itself line ∷ []) (plain_state (record p { size = p.size + length line.text + 1 })))
plain_line p line plain fits =
    ap (outside_by (plain_state p) line) plain
    ∙ ap (λ (b : Bool). with_piece (plain_state p) (cond b (Err (ExpansionTooLong line.number)) (Ok (piece_of (itself line ∷ []) (record p { size = p.size + length line.text + 1 }))))) short
  where
    short : nat_lt 1048576 (p.size + length line.text + 1) ≡ false
    short = grind (arith, nat_tests)

own_from : (next : ℕ) (p : Progress) (lines : List NumberedLine) → All IsPlain lines → p.size + length (bytes_of (themselves lines)) ≤ 1048576 → expanded_from next (plain_state p) lines ≡ Ok (themselves lines)
unfolding expanded_from
own_from next p [] plain fits = refl
own_from next p (line ∷ lines) plain fits =
    let more = bytes_of-more (itself line) (themselves lines) in
    let q : Progress = record p { size = p.size + length line.text + 1 } in
    ap (λ (r : Result Step MacroFault). and_on r (λ t. expanded_from (line.number + 1) t lines)) (plain_line p line (plain 0 line (omega arith)) (omega (arith, more, fits)))
    ∙ ap (in_front (itself line ∷ [])) (own_from (line.number + 1) q lines (λ k d l. plain (suc k) d (omega arith)) (omega (arith, more, fits)))

pub plain_is_its_own : (lines : List NumberedLine) → All IsPlain lines → length (bytes_of (themselves lines)) ≤ 1048576 → expanded_from 1 (plain_state (record { calls = 0; size = 0 })) lines ≡ Ok (themselves lines)
plain_is_its_own lines plain fits = own_from 1 (record { calls = 0; size = 0 }) lines plain (omega arith)
