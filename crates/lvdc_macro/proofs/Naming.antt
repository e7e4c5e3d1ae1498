-- Macros looked up by their names.
use Rattle.std.proofs.Common.{suc, All, subst, arith, ◌≡◌, true≢false, ℕ, Bool, true, false, cond, not, ◌&&◌, nat_eq, length, List, [], ◌∷◌, ◌++◌, map, Option, None, Some, is_some, option_map, codes, refl, sym, ap, ◌∙◌}
use Rattle.std.proofs.lemmas.List.{map-append}
use Rattle.std.specs.Map.{lookup}
use Rattle.std.specs.Str.{bytes_eq}
use Rattle.lvdc_text.specs.declared.cutting.Line.{Line}
use Rattle.lvdc_text.specs.Lines.{IsWithin, part_of, has_bytes, is_comment}
use Rattle.lvdc_source.specs.Lines.{parts_of}
use Rattle.lvdc_source.specs.Names.{is_name}
use Rattle.lvdc_macro.specs.Macros.{Text, Begin, End, Call, body_of, is_reserved, may_be_named, meaning_of, meaning_in, meaning_by}
use Rattle.lvdc_macro.specs.Making.{lines_named, macros_of}

-- a choice seen by g
chosen_view : {X Y : Type 0} (g : X → Y) (b : Bool) (x : X) (o : Option X) (seen : Option Y) → seen ≡ option_map g o → cond b (Some (g x)) seen ≡ option_map g (cond b (Some x) o)
chosen_view g true x o seen e = refl
chosen_view g false x o seen e = e

-- a look-up among entries whose keys and values are seen by f and g
pub lookup-view : {K X Y : Type 0} (f : K → List ℕ) (g : X → Y) (test : List ℕ → Bool) (es : List (K × X)) → lookup test (map {B = List ℕ × Y} (λ e. (f e.0, g e.1)) es) ≡ option_map g (lookup (λ k. test (f k)) es)
lookup-view f g test [] = refl
lookup-view f g test (e ∷ es) = chosen_view g (test (f e.0)) e.1 _ _ (lookup-view f g test es)

pub none_from : {X Y : Type 0} (g : X → Y) (o : Option X) → option_map g o ≡ None → o ≡ None
none_from g None h = refl
none_from g (Some x) h = cc

-- an entry more
pub entries-more : {K X Y : Type 0} (f : K → List ℕ) (g : X → Y) (es after : List (K × X)) (key : K) (x : X) (name : List ℕ) → after ≡ es ++ (key, x) ∷ [] → f key ≡ name
    → map {B = List ℕ × Y} (λ e. (f e.0, g e.1)) after ≡ map {B = List ℕ × Y} (λ e. (f e.0, g e.1)) es ++ (name, g x) ∷ []
entries-more {K} {X} {Y} f g es after key x name is same =
    let seen : K × X → List ℕ × Y = λ e. (f e.0, g e.1) in
    ap (map seen) is ∙ map-append seen es ((key, x) ∷ []) ∙ ap (λ (k : List ℕ). map seen es ++ (k, g x) ∷ []) same

-- the body that a name has
pub body_of-macros : (bytes : List ℕ) (entries : List (List ℕ × List Line)) (name : List ℕ) → body_of (macros_of bytes entries) name ≡ option_map (map (part_of bytes)) (lines_named entries name)
unfolding body_of
body_of-macros bytes [] name = refl
body_of-macros bytes (e ∷ es) name = chosen_view (map (part_of bytes)) (bytes_eq name e.0) e.1 _ _ (body_of-macros bytes es name)

pub is_some-map : {X Y : Type 0} (g : X → Y) (o : Option X) → is_some (option_map g o) ≡ is_some o
is_some-map g None = refl
is_some-map g (Some x) = refl

pub may_be_named-is : (bytes : List ℕ) (entries : List (List ℕ × List Line)) (name : List ℕ)
    → may_be_named (macros_of bytes entries) name ≡ (is_name name && not (is_reserved name) && not (is_some (lines_named entries name)))
may_be_named-is bytes entries name =
    ap (λ (o : Bool). is_name name && not (is_reserved name) && not o)
    (ap is_some (body_of-macros bytes entries name) ∙ is_some-map (map (part_of bytes)) (lines_named entries name))

module _ (bytes text : List ℕ) (entries : List (List ℕ × List Line)) (no_comment : is_comment text ≡ false) (no_begin : bytes_eq (parts_of text).operation (codes "MACRO") ≡ false)
    (no_end : bytes_eq (parts_of text).operation (codes "MEND") ≡ false) (o : Option (List Line)) (is : lines_named entries (parts_of text).operation ≡ o) where
  pub looked_up : meaning_of (macros_of bytes entries) text ≡ meaning_by (parts_of text) (option_map (map (part_of bytes)) o)
  looked_up =
      ap (λ (b : Bool). cond b Text (meaning_in (macros_of bytes entries) (parts_of text))) no_comment
      ∙ ap (λ (b : Bool). cond b (Begin (parts_of text).label)
      (cond (bytes_eq (parts_of text).operation (codes "MEND")) (End (has_bytes (parts_of text).label)) (meaning_by (parts_of text) (body_of (macros_of bytes entries) (parts_of text).operation)))) no_begin
      ∙ ap (λ (b : Bool). cond b (End (has_bytes (parts_of text).label)) (meaning_by (parts_of text) (body_of (macros_of bytes entries) (parts_of text).operation))) no_end
      ∙ ap (meaning_by (parts_of text)) (body_of-macros bytes entries (parts_of text).operation ∙ ap (option_map (map (part_of bytes))) is)

some_same : (x y : List Line) → Some x ≡ Some y → x ≡ y
some_same x y e = cc

pub both : (r name reserved known : Bool) → name ≡ true → not reserved ≡ true → known ≡ not r → r ≡ (name && not reserved && not known)
both true true false false n k e = refl
both false true false true n k e = refl
both r false reserved known n k e = absurd (true≢false (sym n))
both r true true known n k e = absurd (true≢false (sym k))
both true true false true n k e = absurd (true≢false e)
both false true false false n k e = absurd (true≢false (sym e))

module _ (bytes text : List ℕ) (entries : List (List ℕ × List Line)) where
  module _ (operation : List ℕ) (its_operation : operation ≡ (parts_of text).operation) (no_comment : is_comment text ≡ false) (begins : List ℕ) (begin_is : begins ≡ codes "MACRO") (no_begin : bytes_eq operation begins ≡ false)
      (ends : List ℕ) (end_is : ends ≡ codes "MEND") (no_end : bytes_eq operation ends ≡ false) where
    pub looked_by : (o : Option (List Line)) → lines_named entries operation ≡ o → meaning_of (macros_of bytes entries) text ≡ meaning_by (parts_of text) (option_map (map (part_of bytes)) o)
    looked_by o is =
        looked_up bytes text entries no_comment
        (ap (λ (w : List ℕ). bytes_eq w (codes "MACRO")) (sym its_operation) ∙ ap (bytes_eq operation) (sym begin_is) ∙ no_begin)
        (ap (λ (w : List ℕ). bytes_eq w (codes "MEND")) (sym its_operation) ∙ ap (bytes_eq operation) (sym end_is) ∙ no_end)
        o (ap (lines_named entries) (sym its_operation) ∙ is)

    pub text_is : lines_named entries operation ≡ None → meaning_of (macros_of bytes entries) text ≡ Text
    text_is is = looked_by None is

  pub called_is : (label operation operand : List ℕ) → label ≡ (parts_of text).label → operation ≡ (parts_of text).operation → operand ≡ (parts_of text).operand → is_comment text ≡ false
      → (begins : List ℕ) → begins ≡ codes "MACRO" → bytes_eq operation begins ≡ false → (ends : List ℕ) → ends ≡ codes "MEND" → bytes_eq operation ends ≡ false
      → (empty : Bool) → empty ≡ nat_eq (length label) 0 → (body : List Line) → lines_named entries operation ≡ Some body
      → meaning_of (macros_of bytes entries) text ≡ Call (not empty) operand (map (part_of bytes) body)
  called_is label operation operand its_label its_operation its_operand no_comment begins begin_is no_begin ends end_is no_end empty empty_is body is =
      looked_by operation its_operation no_comment begins begin_is no_begin ends end_is no_end (Some body) is
      ∙ ap (λ (l : List ℕ). Call (not (nat_eq (length l) 0)) (parts_of text).operand (map (part_of bytes) body)) (sym its_label)
      ∙ ap (λ (b : Bool). Call (not b) (parts_of text).operand (map (part_of bytes) body)) (sym empty_is)
      ∙ ap (λ (o : List ℕ). Call (not empty) o (map (part_of bytes) body)) (sym its_operand)

-- a body that a name has is one of the bodies
pub named-within : (bytes : List ℕ) (entries : List (List ℕ × List Line)) (name : List ℕ) (body : List Line) → All (λ entry. All (IsWithin bytes) entry.1) entries → lines_named entries name ≡ Some body → All (IsWithin bytes) body
named-within bytes [] name body all is = cc
named-within bytes (e ∷ es) name body all is =
    found_within bytes (bytes_eq name e.0) e.1 (lines_named es name) body (all 0 e (omega arith)) (λ later. named-within bytes es name body (λ k d l. all (suc k) d (omega arith)) later) is
  where
    found_within : (bytes : List ℕ) (b : Bool) (first : List Line) (o : Option (List Line)) (body : List Line) → All (IsWithin bytes) first → (o ≡ Some body → All (IsWithin bytes) body)
        → cond b (Some first) o ≡ Some body → All (IsWithin bytes) body
    found_within bytes true first o body here later is = subst (All (IsWithin bytes)) (some_same first body is) here
    found_within bytes false first o body here later is = later is
