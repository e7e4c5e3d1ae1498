-- Lines joined to one text, some after others.
use Rattle.std.proofs.Common.{◌≡◌, ℕ, List, [], ◌∷◌, ◌++◌, refl, sym, ap, ◌∙◌, append_assoc}
use Rattle.lvdc_text.specs.Joined.{text_of}

pub text_of-append : (front back : List (List ℕ)) → text_of (front ++ back) ≡ text_of front ++ text_of back
text_of-append [] back = refl
text_of-append (line ∷ lines) back =
    ap (λ (rest : List ℕ). line ++ 10 ∷ rest) (text_of-append lines back) ∙ sym (append_assoc line (10 ∷ text_of lines) (text_of back))
