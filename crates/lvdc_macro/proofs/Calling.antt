-- The lines of a call's body, one after another.
use Rattle.std.proofs.Common.{◌≡◌, ℕ, zero, suc, ◌+◌, ◌-◌, ◌<◌, ◌≤◌, nat_lt, Bool, true, false, ◌||◌, cond, List, [], ◌∷◌, ◌++◌, length, get_or, drop, map, Result, Ok, Err, refl, sym, ap, ◌∙◌, subst, append_assoc, arith}
use Rattle.std.proofs.lemmas.List.{append-nil, drop_more, drop_all, map-append}
use Rattle.std.proofs.lemmas.Bool.Decides.{nat_tests}
use Rattle.lvdc_text.specs.declared.cutting.Line.{Line}
use Rattle.lvdc_text.specs.Joined.{text_of}
use Rattle.lvdc_text.specs.Lines.{part_of}
use Rattle.lvdc_text.proofs.Joining.{text_of-append}
use Rattle.lvdc_macro.specs.declared.fault.MacroFault.{MacroFault}
use Rattle.lvdc_macro.specs.declared.fault.MacroFault.TheVariants.{BadMacro, TooDeep, TooManyCalls, ExpansionTooLong}
use Rattle.lvdc_macro.specs.Macros.{Macro, Meaning, meaning_of}
use Rattle.lvdc_macro.specs.Substitution.{arguments_of, substituted}
use Rattle.lvdc_macro.specs.Expansion.{Written, Progress, Piece, before, and_then, pieces, unless_longer, inner_by, called, is_wrong_call, bytes_of, origins_of}
use Rattle.lvdc_macro.specs.Making.{Out, progress_of, IsWritten, Writes, Meets}

-- a line of a body, where so many levels are left for the call itself
abbrev pub inner : ℕ → List Macro → ℕ → Progress → List ℕ → Result Piece MacroFault
inner left macros origin p text = unless_longer origin text (inner_by (called (left - 1) macros origin) origin p text (meaning_of macros text))

-- the lines of a body
abbrev pub body_from : ℕ → List Macro → ℕ → Progress → List (List ℕ) → Result Piece MacroFault
body_from left macros origin p texts = pieces (inner left macros origin) p texts

pub bytes_of-append : (xs ys : List Written) → bytes_of (xs ++ ys) ≡ bytes_of xs ++ bytes_of ys
unfolding bytes_of
bytes_of-append xs ys =
    ap text_of (map-append (λ (line : Written). line.text) xs ys) ∙ text_of-append (map (λ line. line.text) xs) (map (λ line. line.text) ys)

pub bytes_of-none : bytes_of [] ≡ []
unfolding bytes_of
bytes_of-none = refl

pieces-none : (f : Progress → List ℕ → Result Piece MacroFault) (p : Progress) → pieces f p [] ≡ Ok (record { lines = []; after = p })
unfolding pieces
pieces-none f p = refl

pieces-more : (f : Progress → List ℕ → Result Piece MacroFault) (p : Progress) (text : List ℕ) (texts : List (List ℕ)) → pieces f p (text ∷ texts) ≡ and_then (f p text) (λ q. pieces f q texts)
unfolding pieces
pieces-more f p text texts = refl

module _ (f : Progress → List ℕ → Result Piece MacroFault) where
  -- no line is left
  pub all_written : (out : Out) → Meets {T = Unit {0}} (Ok tt) (pieces f (progress_of out) []) out out
  all_written out = rw (pieces-none f (progress_of out)) (record {
    bytes = sym (append-nil out.bytes) ∙ ap (λ (w : List ℕ). out.bytes ++ w) (sym bytes_of-none);
    origins = sym (append-nil out.origins);
    after = refl;
  })

  -- a piece that was written, and what follows it
  join : (first : Piece) (later : Result Piece MacroFault) (old mid new : Out) (r : Result (Unit {0}) MacroFault) → IsWritten first old mid → Meets r later mid new
      → Meets r (before first.lines later) old new
  join first (Ok piece) old mid new (Ok done) a b = record {
    bytes = b.bytes ∙ ap (λ (w : List ℕ). w ++ bytes_of piece.lines) a.bytes ∙ append_assoc old.bytes (bytes_of first.lines) (bytes_of piece.lines)
        ∙ ap (λ (w : List ℕ). old.bytes ++ w) (sym (bytes_of-append first.lines piece.lines));
    origins = b.origins ∙ ap (λ (w : List ℕ). w ++ origins_of piece.lines) a.origins ∙ append_assoc old.origins (origins_of first.lines) (origins_of piece.lines)
        ∙ ap (λ (w : List ℕ). old.origins ++ w) (sym (map-append (λ (line : Written). line.origin) first.lines piece.lines));
    after = b.after;
  }
  join first (Err fault) old mid new (Ok done) a b = b
  join first later old mid new (Err fault) a b = λ h. ap (before first.lines) (b h)

  -- a line is written, and the others follow
  pub line_written : (text : List ℕ) (texts : List (List ℕ)) (old mid new : Out) (r : Result (Unit {0}) MacroFault) → Writes (f (progress_of old) text) old mid → Meets r (pieces f (progress_of mid) texts) mid new
      → Meets r (pieces f (progress_of old) (text ∷ texts)) old new
  line_written text texts old mid new r a b = rw (pieces-more f (progress_of old) text texts) (by (f (progress_of old) text) a)
    where
      by : (first : Result Piece MacroFault) → Writes first old mid → Meets r (and_then first (λ q. pieces f q texts)) old new
      by (Err fault) a = absurd a
      by (Ok first) a = join first (pieces f first.after texts) old mid new r a (subst (λ (p : Progress). Meets r (pieces f p texts) mid new) a.after b)

-- ---- the call itself

wrong : (left : ℕ) (macros : List Macro) (origin : ℕ) (p : Progress) (labelled : Bool) (operand : List ℕ) (body : List (List ℕ)) → is_wrong_call labelled operand ≡ true → called left macros origin p labelled operand body ≡ Err (BadMacro origin)
unfolding called
wrong zero macros origin p labelled operand body e = ap (λ (b : Bool). cond b (Err (BadMacro origin)) (Err (TooDeep origin))) e
wrong (suc left) macros origin p labelled operand body e = ap (λ (b : Bool). cond b (Err (BadMacro origin))
    (cond (nat_lt 999 (p.calls + 1)) (Err (TooManyCalls origin))
    (pieces (λ q text. unless_longer origin text (inner_by (called left macros origin) origin q text (meaning_of macros text))) (record p { calls = p.calls + 1 }) (map (substituted (p.calls + 1) (arguments_of operand)) body)))) e

pub too_many_arguments : (left : ℕ) (macros : List Macro) (origin : ℕ) (p : Progress) (labelled : Bool) (operand : List ℕ) (body : List (List ℕ)) → 9 < length (arguments_of operand)
    → called left macros origin p labelled operand body ≡ Err (BadMacro origin)
too_many_arguments left macros origin p labelled operand body l = wrong left macros origin p labelled operand body (second_true labelled (nat_lt 9 (length (arguments_of operand))) (grind (arith, nat_tests)))
  where
    second_true : (a b : Bool) → b ≡ true → (a || b) ≡ true
    second_true true b e = refl
    second_true false b e = e

pub labelled_call : (left : ℕ) (macros : List Macro) (origin : ℕ) (p : Progress) (labelled : Bool) (operand : List ℕ) (body : List (List ℕ)) → labelled ≡ true → called left macros origin p labelled operand body ≡ Err (BadMacro origin)
labelled_call left macros origin p labelled operand body e = wrong left macros origin p labelled operand body (ap (λ (b : Bool). b || nat_lt 9 (length (arguments_of operand))) e)

right : (labelled : Bool) (operand : List ℕ) → labelled ≡ false → length (arguments_of operand) ≤ 9 → is_wrong_call labelled operand ≡ false
right labelled operand e l = ap (λ (b : Bool). b || nat_lt 9 (length (arguments_of operand))) e ∙ few
  where
    few : nat_lt 9 (length (arguments_of operand)) ≡ false
    few = grind (arith, nat_tests)

pub too_deep : (left : ℕ) (macros : List Macro) (origin : ℕ) (p : Progress) (labelled : Bool) (operand : List ℕ) (body : List (List ℕ)) → labelled ≡ false → length (arguments_of operand) ≤ 9 → left ≡ 0
    → called left macros origin p labelled operand body ≡ Err (TooDeep origin)
unfolding called
too_deep left macros origin p labelled operand body e l is =
    ap (λ (n : ℕ). called n macros origin p labelled operand body) is ∙ ap (λ (b : Bool). cond b (Err (BadMacro origin)) (Err (TooDeep origin))) (right labelled operand e l)

module _ (macros : List Macro) (origin : ℕ) (p : Progress) (labelled : Bool) (operand : List ℕ) (body : List (List ℕ)) (unlabelled : labelled ≡ false) (few : length (arguments_of operand) ≤ 9) where
  entered : (left : ℕ) (b : Bool) → 0 < left → nat_lt 999 (p.calls + 1) ≡ b → called left macros origin p labelled operand body
      ≡ cond b (Err (TooManyCalls origin)) (body_from left macros origin (record p { calls = p.calls + 1 }) (map (substituted (p.calls + 1) (arguments_of operand)) body))
  unfolding called
  entered zero b some e = absurd (omega arith)
  entered (suc left) b some e =
      ap (λ (w : Bool). cond w (Err (BadMacro origin)) (cond (nat_lt 999 (p.calls + 1)) (Err (TooManyCalls origin))
      (pieces (λ q text. unless_longer origin text (inner_by (called left macros origin) origin q text (meaning_of macros text))) (record p { calls = p.calls + 1 }) (map (substituted (p.calls + 1) (arguments_of operand)) body)))) (right labelled operand unlabelled few)
      ∙ ap (λ (w : Bool). cond w (Err (TooManyCalls origin))
      (pieces (λ q text. unless_longer origin text (inner_by (called left macros origin) origin q text (meaning_of macros text))) (record p { calls = p.calls + 1 }) (map (substituted (p.calls + 1) (arguments_of operand)) body))) e
      ∙ ap (λ (n : ℕ). cond b (Err (TooManyCalls origin))
      (pieces (λ q text. unless_longer origin text (inner_by (called n macros origin) origin q text (meaning_of macros text))) (record p { calls = p.calls + 1 }) (map (substituted (p.calls + 1) (arguments_of operand)) body))) one_less
    where
      one_less : left ≡ suc left - 1
      one_less = omega arith

  pub too_many_calls : (left : ℕ) → 0 < left → 999 ≤ p.calls → called left macros origin p labelled operand body ≡ Err (TooManyCalls origin)
  too_many_calls left some l = entered left true some (grind (arith, nat_tests))

  pub begun : (left : ℕ) → 0 < left → p.calls + 1 ≤ 999 → called left macros origin p labelled operand body
      ≡ body_from left macros origin (record p { calls = p.calls + 1 }) (map (substituted (p.calls + 1) (arguments_of operand)) body)
  begun left some l = entered left false some (grind (arith, nat_tests))

-- the lines that are left of a body
pub lines_left : (bytes : List ℕ) (f : List ℕ → List ℕ) (body : List Line) (i : ℕ) (d : Line) → i < length body
    → map f (map (part_of bytes) (drop i body)) ≡ f (part_of bytes (get_or body i d)) ∷ map f (map (part_of bytes) (drop (i + 1) body))
lines_left bytes f body i d l = ap (λ (lines : List Line). map f (map (part_of bytes) lines)) (drop_more body i d l)

pub no_lines_left : (bytes : List ℕ) (f : List ℕ → List ℕ) (body : List Line) (i : ℕ) → length body ≤ i → map f (map (part_of bytes) (drop i body)) ≡ []
no_lines_left bytes f body i l = ap (λ (lines : List Line). map f (map (part_of bytes) lines)) (drop_all i body l)

same_front : (r : Result (Unit {0}) MacroFault) (due : Result Piece MacroFault) (old mid new : Out) → mid.bytes ≡ old.bytes → mid.origins ≡ old.origins → Meets r due mid new → Meets r due old new
same_front (Ok done) (Ok piece) old mid new b o h = record {
  bytes = h.bytes ∙ ap (λ (w : List ℕ). w ++ bytes_of piece.lines) b;
  origins = h.origins ∙ ap (λ (w : List ℕ). w ++ origins_of piece.lines) o;
  after = h.after;
}
same_front (Ok done) (Err fault) old mid new b o h = h
same_front (Err fault) due old mid new b o h = h

-- a call has begun
pub entered_with : (macros : List Macro) (origin : ℕ) (labelled : Bool) (operand : List ℕ) (body : List (List ℕ)) → labelled ≡ false → length (arguments_of operand) ≤ 9 → (left : ℕ) (old mid new : Out) (number : ℕ) (arguments : List (List ℕ))
    (r : Result (Unit {0}) MacroFault) → 0 < left → number ≤ 999 → number ≡ old.calls + 1 → mid ≡ record old { calls = number } → arguments ≡ arguments_of operand
    → Meets r (body_from left macros origin (progress_of mid) (map (substituted number arguments) body)) mid new → Meets r (called left macros origin (progress_of old) labelled operand body) old new
entered_with macros origin labelled operand body unlabelled few left old mid new number arguments r some most is mid_is arguments_are h =
    same_front r (called left macros origin (progress_of old) labelled operand body) old mid new (ap (λ (o : Out). o.bytes) mid_is) (ap (λ (o : Out). o.origins) mid_is)
    (subst (λ (due : Result Piece MacroFault). Meets r due mid new) same h)
  where
    progress : progress_of mid ≡ record { calls = old.calls + 1; size = length old.bytes }
    progress = ap progress_of mid_is ∙ ap (λ (n : ℕ). record { calls = n; size = length old.bytes }) is

    same : body_from left macros origin (progress_of mid) (map (substituted number arguments) body) ≡ called left macros origin (progress_of old) labelled operand body
    same =
        ap (λ (p : Progress). body_from left macros origin p (map (substituted number arguments) body)) progress
        ∙ ap (λ (n : ℕ). body_from left macros origin (record { calls = old.calls + 1; size = length old.bytes }) (map (substituted n arguments) body)) is
        ∙ ap (λ (w : List (List ℕ)). body_from left macros origin (record { calls = old.calls + 1; size = length old.bytes }) (map (substituted (old.calls + 1) w) body)) arguments_are
        ∙ sym (begun macros origin (progress_of old) labelled operand body unlabelled few left some (omega arith))

-- ---- a line of the body

-- the lines that are left, from an index on
abbrev pub rest_from : ℕ → List Macro → ℕ → Progress → ℕ → List (List ℕ) → List ℕ → List Line → ℕ → Result Piece MacroFault
rest_from left macros origin p number arguments bytes body i = body_from left macros origin p (map (substituted number arguments) (map (part_of bytes) (drop i body)))

module _ (left origin number : ℕ) (macros : List Macro) (arguments : List (List ℕ)) (bytes : List ℕ) (body : List Line) (i : ℕ) (d : Line) (within : i < length body) (out : Out) (line text : List ℕ)
    (line_is : line ≡ part_of bytes (get_or body i d)) (text_is : text ≡ substituted number arguments line) where
  here : rest_from left macros origin (progress_of out) number arguments bytes body i ≡ body_from left macros origin (progress_of out) (text ∷ map (substituted number arguments) (map (part_of bytes) (drop (i + 1) body)))
  here =
      ap (body_from left macros origin (progress_of out)) (lines_left bytes (substituted number arguments) body i d within)
      ∙ ap (λ (w : List ℕ). body_from left macros origin (progress_of out) (w ∷ map (substituted number arguments) (map (part_of bytes) (drop (i + 1) body))))
      (ap (substituted number arguments) (sym line_is) ∙ sym text_is)

  refused_by : (fault : MacroFault) → inner left macros origin (progress_of out) text ≡ Err fault
      → rest_from left macros origin (progress_of out) number arguments bytes body i ≡ Err fault
  refused_by fault e =
      here ∙ pieces-more (inner left macros origin) (progress_of out) text (map (substituted number arguments) (map (part_of bytes) (drop (i + 1) body)))
      ∙ ap (λ (r : Result Piece MacroFault). and_then r (λ q. pieces (inner left macros origin) q (map (substituted number arguments) (map (part_of bytes) (drop (i + 1) body))))) e

  -- longer than an expansion may be
  pub too_long_here : 1048576 ≤ length text → rest_from left macros origin (progress_of out) number arguments bytes body i ≡ Err (ExpansionTooLong origin)
  too_long_here long = refused_by (ExpansionTooLong origin) (ap (λ (b : Bool). cond b (Err (ExpansionTooLong origin))
      (inner_by (called (left - 1) macros origin) origin (progress_of out) text (meaning_of macros text))) is_longer)
    where
      is_longer : nat_lt 1048576 (length text + 1) ≡ true
      is_longer = grind (arith, nat_tests)

  due : length text < 1048576 → (meaning : Meaning) → meaning_of macros text ≡ meaning
      → inner left macros origin (progress_of out) text ≡ inner_by (called (left - 1) macros origin) origin (progress_of out) text meaning
  due short meaning means = ap (λ (b : Bool). cond b (Err (ExpansionTooLong origin))
      (inner_by (called (left - 1) macros origin) origin (progress_of out) text (meaning_of macros text))) is_shorter
      ∙ ap (inner_by (called (left - 1) macros origin) origin (progress_of out) text) means
    where
      is_shorter : nat_lt 1048576 (length text + 1) ≡ false
      is_shorter = grind (arith, nat_tests)

  pub refused_here : length text < 1048576 → (meaning : Meaning) → meaning_of macros text ≡ meaning
      → (fault : MacroFault) → inner_by (called (left - 1) macros origin) origin (progress_of out) text meaning ≡ Err fault
      → rest_from left macros origin (progress_of out) number arguments bytes body i ≡ Err fault
  refused_here short meaning means fault e = refused_by fault (due short meaning means ∙ e)

  pub goes_on : length text < 1048576 → (meaning : Meaning) → meaning_of macros text ≡ meaning → (mid new : Out) (r : Result (Unit {0}) MacroFault) → Writes (inner_by (called (left - 1) macros origin) origin (progress_of out) text meaning) out mid
      → Meets r (rest_from left macros origin (progress_of mid) number arguments bytes body (i + 1)) mid new → Meets r (rest_from left macros origin (progress_of out) number arguments bytes body i) out new
  goes_on short meaning means mid new r a b =
      subst (λ (w : Result Piece MacroFault). Meets r w out new) (sym here)
      (line_written (inner left macros origin) text (map (substituted number arguments) (map (part_of bytes) (drop (i + 1) body))) out mid new r
      (subst (λ (w : Result Piece MacroFault). Writes w out mid) (sym (due short meaning means)) a) b)

pub ended_here : (left origin number : ℕ) (macros : List Macro) (arguments : List (List ℕ)) (bytes : List ℕ) (body : List Line) (i : ℕ) → length body ≤ i → (out : Out)
    → Meets {T = Unit {0}} (Ok tt) (rest_from left macros origin (progress_of out) number arguments bytes body i) out out
ended_here left origin number macros arguments bytes body i l out =
    subst (λ (texts : List (List ℕ)). Meets {T = Unit {0}} (Ok tt) (body_from left macros origin (progress_of out) texts) out out) (sym (no_lines_left bytes (substituted number arguments) body i l))
    (all_written (inner left macros origin) out)
