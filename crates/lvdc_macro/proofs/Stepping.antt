-- A line of the source, inside of a definition or outside of any.
use Rattle.std.proofs.Common.{◌≡◌, ℕ, zero, suc, ◌+◌, ◌-◌, ◌<◌, ◌≤◌, Bool, true, false, true≢false, not, ◌&&◌, cond, List, [], ◌∷◌, ◌++◌, length, get_or, take, drop, map, All, Option, None, Some, is_some, Result, Ok, Err, refl, sym, ap, ◌∙◌, subst, append_assoc, arith}
use Rattle.std.specs.List.{slice_range}
use Rattle.std.proofs.lemmas.List.{append-nil, drop_more, drop_all, map-append, take_more, get_or-drop, length-drop}
use Rattle.std.proofs.lemmas.List.Elements.{All-push, All-take, All-drop}
use Rattle.lvdc_text.specs.declared.cutting.Line.{Line}
use Rattle.lvdc_text.specs.Lines.{IsWithin, part_of, NumberedLine, numbered_line, numbered}
use Rattle.lvdc_source.specs.Names.{is_name}
use Rattle.lvdc_macro.specs.declared.fault.MacroFault.{MacroFault}
use Rattle.lvdc_macro.specs.declared.fault.MacroFault.TheVariants.{BadMacro}
use Rattle.lvdc_macro.specs.declared.expansion.Expansion.{Expansion}
use Rattle.lvdc_macro.specs.declared.source.Open.{Open}
use Rattle.lvdc_macro.specs.Macros.{Macro, Meaning, Text, Begin, End, Call, is_reserved, may_be_named, meaning_of}
use Rattle.lvdc_macro.specs.Expansion.{Written, State, Step, step_of, with_line, inside_by, outside_by, after_line, and_on, closed, expanded_from, bytes_of, origins_of, in_front}
use Rattle.lvdc_macro.specs.Making.{Out, progress_of, macros_of, macro_of, lines_named, pending_of, state_of, ends_by, IsBrought, Brings, Gives, Expands}
use Rattle.lvdc_macro.proofs.Naming.{may_be_named-is}
use Rattle.lvdc_macro.proofs.Calling.{bytes_of-append, bytes_of-none}

nothing_brought : (out : Out) (state : State) → IsBrought (step_of [] state) out out state
nothing_brought out state = record {
  bytes = sym (append-nil out.bytes) ∙ ap (λ (w : List ℕ). out.bytes ++ w) (sym bytes_of-none);
  origins = sym (append-nil out.origins);
  state = refl;
}

brought_by : (due : Result Step MacroFault) (out : Out) (from to : State) → due ≡ Ok (step_of [] from) → from ≡ to → Brings due out out to
brought_by due out from to e same = subst (λ (r : Result Step MacroFault). Brings r out out to) (sym (e ∙ ap (λ (s : State). Ok (step_of [] s)) same)) (nothing_brought out to)

pub any_default : {X : Type 0} (xs : List X) (i : ℕ) (d e : X) → i < length xs → get_or xs i d ≡ get_or xs i e
any_default [] i d e l = absurd (omega arith)
any_default (x ∷ xs) zero d e l = refl
any_default (x ∷ xs) (suc i) d e l = any_default xs i d e (omega arith)

-- ---- a definition begins

pub none_between : (lines : List Line) (i : ℕ) → slice_range lines i i ≡ []
none_between lines i = ap (λ (n : ℕ). take n (drop i lines)) nothing ∙ take_none (drop i lines)
  where
    nothing : i - i ≡ 0
    nothing = omega arith

    take_none : (xs : List Line) → take 0 xs ≡ []
    take_none [] = refl
    take_none (x ∷ xs) = refl

third_false : (a b c : Bool) → (a && b && not c) ≡ true → c ≡ false
third_false true true true e = absurd (true≢false (sym e))
third_false true true false e = refl
third_false true false c e = absurd (true≢false (sym e))
third_false false b c e = absurd (true≢false (sym e))

none_of : {X : Type 0} (o : Option X) → is_some o ≡ false → o ≡ None
none_of None h = refl
none_of (Some x) h = absurd (true≢false h)

pub is_new : (bytes : List ℕ) (entries : List (List ℕ × List Line)) (name : List ℕ) → may_be_named (macros_of bytes entries) name ≡ true → lines_named entries name ≡ None
is_new bytes entries name e =
    none_of (lines_named entries name) (third_false (is_name name) (not (is_reserved name)) (is_some (lines_named entries name)) (sym (may_be_named-is bytes entries name) ∙ e))

pub definition_begins : (bytes : List ℕ) (entries : List (List ℕ × List Line)) (out : Out) (line : Line) (name : List ℕ) (lines : List Line) (next : ℕ) → meaning_of (macros_of bytes entries) (part_of bytes line) ≡ Begin name
    → may_be_named (macros_of bytes entries) name ≡ true
    → Brings (after_line (state_of bytes entries None out) (numbered_line bytes line)) out out (state_of bytes entries (Some (record { name = name; body = map (part_of bytes) (slice_range lines next next) })) out)
definition_begins bytes entries out line name lines next means named =
    brought_by (after_line (state_of bytes entries None out) (numbered_line bytes line)) out (state_of bytes entries (Some (record { name = name; body = [] })) out)
    (state_of bytes entries (Some (record { name = name; body = map (part_of bytes) (slice_range lines next next) })) out)
    (ap (outside_by (state_of bytes entries None out) (numbered_line bytes line)) means
    ∙ ap (λ (b : Bool). cond b (Ok (step_of [] (state_of bytes entries (Some (record { name = name; body = [] })) out))) (Err (BadMacro line.number))) named)
    (ap (λ (body : List Line). state_of bytes entries (Some (record { name = name; body = map (part_of bytes) body })) out) (sym (none_between lines next)))

-- ---- inside of a definition

inside_ends : (s : State) (m : Macro) (line : NumberedLine) (meaning : Meaning) → ends_by line.number meaning ≡ Ok true → inside_by s m line meaning ≡ Ok (step_of [] (record s { macros = s.macros ++ m ∷ []; pending = None }))
inside_ends s m line Text e = cc
inside_ends s m line (Begin name) e = cc
inside_ends s m line (End true) e = cc
inside_ends s m line (End false) e = refl
inside_ends s m line (Call labelled operand body) e = cc

inside_goes_on : (s : State) (m : Macro) (line : NumberedLine) (meaning : Meaning) → ends_by line.number meaning ≡ Ok false → inside_by s m line meaning ≡ Ok (step_of [] (record s { pending = Some (with_line m line.text) }))
inside_goes_on s m line Text e = refl
inside_goes_on s m line (Begin name) e = cc
inside_goes_on s m line (End true) e = cc
inside_goes_on s m line (End false) e = cc
inside_goes_on s m line (Call labelled operand body) e = refl

pub one_line_more : (lines : List Line) (first i : ℕ) (d : Line) → first ≤ i → i < length lines → slice_range lines first (i + 1) ≡ slice_range lines first i ++ get_or lines i d ∷ []
one_line_more lines first i d l within =
    ap (λ (n : ℕ). take n (drop first lines)) count ∙ take_more (drop first lines) (i - first) d inside
    ∙ ap (λ (x : Line). slice_range lines first i ++ x ∷ []) (get_or-drop first lines (i - first) d ∙ ap (λ (n : ℕ). get_or lines n d) place)
  where
    count : i + 1 - first ≡ (i - first) + 1
    count = omega arith

    inside : i - first < length (drop first lines)
    inside = omega (arith, length-drop first lines)

    place : first + (i - first) ≡ i
    place = omega arith

module _ (bytes : List ℕ) (entries : List (List ℕ × List Line)) (out : Out) (lines : List Line) (index : ℕ) (pending : Option Open) (begun : Open) (line : Line) (is : pending ≡ Some begun) where
  abbrev so_far : Macro
  so_far = record { name = begun.name.now; body = map (part_of bytes) (slice_range lines begun.first index) }

  inside : after_line (state_of bytes entries (pending_of bytes lines index pending) out) (numbered_line bytes line)
      ≡ inside_by (state_of bytes entries (Some so_far) out) so_far (numbered_line bytes line) (meaning_of (macros_of bytes entries) (part_of bytes line))
  inside = ap (λ (o : Option Open). after_line (state_of bytes entries (pending_of bytes lines index o) out) (numbered_line bytes line)) is

  pub definition_ends : (after : List (List ℕ × List Line)) → ends_by line.number (meaning_of (macros_of bytes entries) (part_of bytes line)) ≡ Ok true
      → after ≡ entries ++ (begun.name.now, slice_range lines begun.first index) ∷ []
      → Brings (after_line (state_of bytes entries (pending_of bytes lines index pending) out) (numbered_line bytes line)) out out (state_of bytes after None out)
  definition_ends after ends added =
      brought_by (after_line (state_of bytes entries (pending_of bytes lines index pending) out) (numbered_line bytes line)) out
      (record { macros = macros_of bytes entries ++ so_far ∷ []; pending = None; progress = progress_of out }) (state_of bytes after None out)
      (inside ∙ inside_ends (state_of bytes entries (Some so_far) out) so_far (numbered_line bytes line) (meaning_of (macros_of bytes entries) (part_of bytes line)) ends)
      (ap (λ (macros : List Macro). record { macros = macros; pending = None; progress = progress_of out })
      (sym (ap (macros_of bytes) added ∙ map-append (macro_of bytes) entries ((begun.name.now, slice_range lines begun.first index) ∷ []))))

  pub definition_goes_on : begun.first ≤ index → index < length lines → get_or lines index line ≡ line → ends_by line.number (meaning_of (macros_of bytes entries) (part_of bytes line)) ≡ Ok false
      → Brings (after_line (state_of bytes entries (pending_of bytes lines index pending) out) (numbered_line bytes line)) out out
      (state_of bytes entries (Some (record { name = begun.name.now; body = map (part_of bytes) (slice_range lines begun.first (index + 1)) })) out)
  definition_goes_on front within here goes_on =
      brought_by (after_line (state_of bytes entries (pending_of bytes lines index pending) out) (numbered_line bytes line)) out
      (state_of bytes entries (Some (with_line so_far (part_of bytes line))) out)
      (state_of bytes entries (Some (record { name = begun.name.now; body = map (part_of bytes) (slice_range lines begun.first (index + 1)) })) out)
      (inside ∙ inside_goes_on (state_of bytes entries (Some so_far) out) so_far (numbered_line bytes line) (meaning_of (macros_of bytes entries) (part_of bytes line)) goes_on)
      (ap (λ (body : List (List ℕ)). state_of bytes entries (Some (record { name = begun.name.now; body = body })) out)
      (sym (ap (map (part_of bytes)) (one_line_more lines begun.first index line front within)
      ∙ map-append (part_of bytes) (slice_range lines begun.first index) (get_or lines index line ∷ [])
      ∙ ap (λ (x : Line). map (part_of bytes) (slice_range lines begun.first index) ++ part_of bytes x ∷ []) here)))

pub bodies-more : (bytes : List ℕ) (entries after : List (List ℕ × List Line)) (name : List ℕ) (lines : List Line) (first index : ℕ) → All (λ entry. All (IsWithin bytes) entry.1) entries → All (IsWithin bytes) lines
    → after ≡ entries ++ (name, slice_range lines first index) ∷ [] → All (λ entry. All (IsWithin bytes) entry.1) after
bodies-more bytes entries after name lines first index bodies within added =
    subst (All (λ entry. All (IsWithin bytes) entry.1)) (sym added)
    (All-push (λ entry. All (IsWithin bytes) entry.1) entries (name, slice_range lines first index) bodies
    (All-take (IsWithin bytes) (index - first) (drop first lines) (All-drop (IsWithin bytes) first lines within)))

-- ---- the whole source

expanded-none : (next : ℕ) (s : State) → expanded_from next s [] ≡ closed next s.pending
unfolding expanded_from
expanded-none next s = refl

expanded-more : (next : ℕ) (s : State) (line : NumberedLine) (lines : List NumberedLine) → expanded_from next s (line ∷ lines) ≡ and_on (after_line s line) (λ t. expanded_from (line.number + 1) t lines)
unfolding expanded_from
expanded-more next s line lines = refl

-- the lines that are left, from an index on
abbrev pub left_from : ℕ → State → List ℕ → List Line → ℕ → Result (List Written) MacroFault
left_from next s bytes lines i = expanded_from next s (numbered bytes (drop i lines))

follow : (first : Step) (later : Result (List Written) MacroFault) (old mid : Out) (left : State) (r : Result Expansion MacroFault) → IsBrought first old mid left → Gives r later mid → Gives r (in_front first.lines later) old
follow first (Ok lines) old mid left (Ok e) a b = (
  b.0 ∙ ap (λ (w : List ℕ). w ++ bytes_of lines) a.bytes ∙ append_assoc old.bytes (bytes_of first.lines) (bytes_of lines) ∙ ap (λ (w : List ℕ). old.bytes ++ w) (sym (bytes_of-append first.lines lines)),
  b.1 ∙ ap (λ (w : List ℕ). w ++ origins_of lines) a.origins ∙ append_assoc old.origins (origins_of first.lines) (origins_of lines)
      ∙ ap (λ (w : List ℕ). old.origins ++ w) (sym (map-append (λ (line : Written). line.origin) first.lines lines)),
)
follow first (Err fault) old mid left (Ok e) a b = b
follow first later old mid left (Err fault) a b = λ h. ap (in_front first.lines) (b h)

module _ (bytes : List ℕ) (lines : List Line) (i : ℕ) (d : Line) (within : i < length lines) (next : ℕ) (s : State) where
  here : left_from next s bytes lines i ≡ and_on (after_line s (numbered_line bytes (get_or lines i d))) (λ t. left_from ((get_or lines i d).number + 1) t bytes lines (i + 1))
  here = ap (λ (w : List Line). expanded_from next s (numbered bytes w)) (drop_more lines i d within) ∙ expanded-more next s (numbered_line bytes (get_or lines i d)) (numbered bytes (drop (i + 1) lines))

  pub line_brings : (old mid : Out) (left : State) (r : Result Expansion MacroFault) → Brings (after_line s (numbered_line bytes (get_or lines i d))) old mid left
      → Gives r (left_from ((get_or lines i d).number + 1) left bytes lines (i + 1)) mid → Gives r (left_from next s bytes lines i) old
  line_brings old mid left r a b = subst (λ (w : Result (List Written) MacroFault). Gives r w old) (sym here) (by (after_line s (numbered_line bytes (get_or lines i d))) a)
    where
      by : (step : Result Step MacroFault) → Brings step old mid left → Gives r (and_on step (λ t. left_from ((get_or lines i d).number + 1) t bytes lines (i + 1))) old
      by (Err fault) a = absurd a
      by (Ok step) a = follow step (left_from ((get_or lines i d).number + 1) step.state bytes lines (i + 1)) old mid left r a
          (subst (λ (t : State). Gives r (left_from ((get_or lines i d).number + 1) t bytes lines (i + 1)) mid) (sym a.state) b)

  pub line_stops : (fault : MacroFault) → after_line s (numbered_line bytes (get_or lines i d)) ≡ Err fault → left_from next s bytes lines i ≡ Err fault
  line_stops fault e = here ∙ ap (λ (r : Result Step MacroFault). and_on r (λ t. left_from ((get_or lines i d).number + 1) t bytes lines (i + 1))) e

pub none_left : (bytes : List ℕ) (lines : List Line) (i : ℕ) → length lines ≤ i → (next : ℕ) (s : State) → left_from next s bytes lines i ≡ closed next s.pending
none_left bytes lines i l next s = ap (λ (w : List Line). expanded_from next s (numbered bytes w)) (drop_all i lines l) ∙ expanded-none next s

pub closes : (out : Out) (e : Expansion) → e.bytes ≡ out.bytes → e.origins ≡ out.origins → Gives (Ok e) (Ok []) out
closes out e b o = (b ∙ sym (append-nil out.bytes) ∙ ap (λ (w : List ℕ). out.bytes ++ w) (sym bytes_of-none), o ∙ sym (append-nil out.origins))

pub expands_from : (due : Result (List Written) MacroFault) (e : Expansion) (out : Out) → out ≡ record { bytes = []; origins = []; calls = 0 } → Gives (Ok e) due out → Expands due e
expands_from (Ok lines) e out is h = (h.0 ∙ ap (λ (o : Out). o.bytes ++ bytes_of lines) is, h.1 ∙ ap (λ (o : Out). o.origins ++ origins_of lines) is)
expands_from (Err fault) e out is h = h
