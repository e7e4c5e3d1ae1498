-- A text in which `&` and digits are replaced, from a place on.
use Rattle.std.proofs.Common.{inl, inr, ◌⊎◌, ◌≡◌, ℕ, ◌+◌, ◌<◌, ◌≤◌, ◌==◌, Bool, true, false, true≢false, cond, ◌&&◌, List, [], ◌∷◌, ◌++◌, length, get_or, drop, refl, sym, ap, ◌∙◌, append_assoc, append-nil, arith}
use Rattle.std.proofs.lemmas.List.{drop_more, drop_all, length-append}
use Rattle.std.proofs.lemmas.Bool.{cases_lt}
use Rattle.lvdc_text.specs.Numbers.{is_digit}
use Rattle.lvdc_macro.specs.Substitution.{stands_for, substituted}

-- a text of one byte stays
one_left : (call : ℕ) (arguments : List (List ℕ)) (b : ℕ) → substituted call arguments (b ∷ []) ≡ b ∷ substituted call arguments []
unfolding substituted
one_left call arguments b = refl

replaced : (call : ℕ) (arguments : List (List ℕ)) (d : ℕ) (rest : List ℕ) → is_digit 10 d ≡ true → substituted call arguments (38 ∷ d ∷ rest) ≡ stands_for call arguments d ++ substituted call arguments rest
unfolding substituted
replaced call arguments d rest e = ap (λ (b : Bool). cond b (stands_for call arguments d ++ substituted call arguments rest) (38 ∷ substituted call arguments (d ∷ rest))) e

kept : (call : ℕ) (arguments : List (List ℕ)) (b d : ℕ) (rest : List ℕ) → (b == 38 && is_digit 10 d) ≡ false → substituted call arguments (b ∷ d ∷ rest) ≡ b ∷ substituted call arguments (d ∷ rest)
unfolding substituted
kept call arguments b d rest e = ap (λ (t : Bool). cond t (stands_for call arguments d ++ substituted call arguments rest) (b ∷ substituted call arguments (d ∷ rest))) e

pub nothing_left : (call : ℕ) (arguments : List (List ℕ)) (at : ℕ) (text out : List ℕ) → length text ≤ at → out ++ substituted call arguments (drop at text) ≡ substituted call arguments text → out ≡ substituted call arguments text
unfolding substituted
nothing_left call arguments at text out l e = sym (append-nil out) ∙ ap (λ (rest : List ℕ). out ++ substituted call arguments rest) (sym (drop_all at text l)) ∙ e

pub digit_replaced : (call : ℕ) (arguments : List (List ℕ)) (at d : ℕ) (text out after whole : List ℕ) → is_digit 10 d ≡ true → drop at text ≡ 38 ∷ d ∷ drop (at + 2) text
    → after ≡ out ++ stands_for call arguments d → out ++ substituted call arguments (drop at text) ≡ whole → after ++ substituted call arguments (drop (at + 2) text) ≡ whole
digit_replaced call arguments at d text out after whole digit here put e =
    ap (λ (w : List ℕ). w ++ substituted call arguments (drop (at + 2) text)) put ∙ append_assoc out (stands_for call arguments d) (substituted call arguments (drop (at + 2) text))
    ∙ ap (λ (w : List ℕ). out ++ w) (sym (replaced call arguments d (drop (at + 2) text) digit)) ∙ ap (λ (w : List ℕ). out ++ substituted call arguments w) (sym here) ∙ e

pub byte_kept : (call : ℕ) (arguments : List (List ℕ)) (at b : ℕ) (text out after whole : List ℕ) → substituted call arguments (drop at text) ≡ b ∷ substituted call arguments (drop (at + 1) text)
    → after ≡ out ++ b ∷ [] → out ++ substituted call arguments (drop at text) ≡ whole → after ++ substituted call arguments (drop (at + 1) text) ≡ whole
byte_kept call arguments at b text out after whole here put e =
    ap (λ (w : List ℕ). w ++ substituted call arguments (drop (at + 1) text)) put ∙ append_assoc out (b ∷ []) (substituted call arguments (drop (at + 1) text))
    ∙ ap (λ (w : List ℕ). out ++ w) (sym here) ∙ e

pub stays : (call : ℕ) (arguments : List (List ℕ)) (at : ℕ) (text : List ℕ) → at < length text → (at + 1 < length text → (get_or text at 0 == 38 && is_digit 10 (get_or text (at + 1) 0)) ≡ false)
    → substituted call arguments (drop at text) ≡ get_or text at 0 ∷ substituted call arguments (drop (at + 1) text)
stays call arguments at text l other = ap (substituted call arguments) (drop_more text at 0 l) ∙ by (cases_lt (at + 1) (length text))
  where
    by : (at + 1 < length text) ⊎ (length text ≤ at + 1) → substituted call arguments (get_or text at 0 ∷ drop (at + 1) text) ≡ get_or text at 0 ∷ substituted call arguments (drop (at + 1) text)
    by (inl more) =
        ap (λ (rest : List ℕ). substituted call arguments (get_or text at 0 ∷ rest)) (drop_more text (at + 1) 0 more)
        ∙ kept call arguments (get_or text at 0) (get_or text (at + 1) 0) (drop ((at + 1) + 1) text) (other more)
        ∙ ap (λ (rest : List ℕ). get_or text at 0 ∷ substituted call arguments rest) (sym (drop_more text (at + 1) 0 more))
    by (inr last) =
        ap (λ (rest : List ℕ). substituted call arguments (get_or text at 0 ∷ rest)) (drop_all (at + 1) text last)
        ∙ one_left call arguments (get_or text at 0)
        ∙ ap (λ (rest : List ℕ). get_or text at 0 ∷ substituted call arguments rest) (sym (drop_all (at + 1) text last))

pub first_false : (a b : Bool) → a ≡ false → (a && b) ≡ false
first_false true b h = absurd (true≢false h)
first_false false b h = refl

pub second_false : (a b : Bool) → b ≡ false → (a && b) ≡ false
second_false true b h = h
second_false false b h = refl

-- a front is no longer than the whole
pub front_is_short : (n : ℕ) (front rest whole : List ℕ) → front ++ rest ≡ whole → n ≤ length front → n ≤ length whole
front_is_short n front rest whole e l = let parts = length-append front rest in let whole_is = ap length e in omega (arith, parts, whole_is, l)
