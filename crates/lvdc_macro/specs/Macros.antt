-- Macros, and what a line is to the expansion.
use Rattle.std.specs.Prelude.{ℕ, Bool, not, ◌&&◌, ◌||◌, List, [], ◌∷◌, codes, if◌then◌else◌, is_some}
use Rattle.std.specs.Str.{bytes_eq}
use Rattle.std.specs.declared.option.Option.{Option}
use Rattle.std.specs.declared.option.Option.TheVariants.{None, Some}
use Rattle.lvdc_text.specs.Lines.{has_bytes, is_comment}
use Rattle.lvdc_source.specs.Lines.{Parts, parts_of}
use Rattle.lvdc_source.specs.Names.{is_name}
use Rattle.lvdc_source.specs.Operations.{operation_of}

-- a macro: its name, and the lines of its body
pub record Macro : Type 0 where
  pub name : List ℕ
  pub body : List (List ℕ)

-- the body of the macro of this name, where there is one
unfoldable pub body_of : List Macro → List ℕ → Option (List (List ℕ))
body_of [] name = None
body_of (m ∷ ms) name = if bytes_eq name m.name then Some m.body else body_of ms name

-- a word that is no macro's name: an operation of the assembler, MACRO or MEND
abbrev pub is_reserved : List ℕ → Bool
is_reserved word = is_some (operation_of word) || bytes_eq word (codes "MACRO") || bytes_eq word (codes "MEND")

-- a new macro may have this name
abbrev pub may_be_named : List Macro → List ℕ → Bool
may_be_named macros word = is_name word && not (is_reserved word) && not (is_some (body_of macros word))

-- What a line is: text, which is written as it is; the beginning of a macro of this name; the end of one, with a label or without;
-- or a call with this operand of the macro with this body, with a label or without.
pub data Meaning : Type 0 where
  Text : Meaning
  Begin : List ℕ → Meaning
  End : Bool → Meaning
  Call : Bool → List ℕ → List (List ℕ) → Meaning

-- by whether the operation is a macro's name
abbrev pub meaning_by : Parts → Option (List (List ℕ)) → Meaning
meaning_by parts None = Text
meaning_by parts (Some body) = Call (has_bytes parts.label) parts.operand body

-- by the parts of a line that is no comment
abbrev pub meaning_in : List Macro → Parts → Meaning
meaning_in macros parts =
    if bytes_eq parts.operation (codes "MACRO") then Begin parts.label
    else (if bytes_eq parts.operation (codes "MEND") then End (has_bytes parts.label) else meaning_by parts (body_of macros parts.operation))

-- what a line is, where these macros are defined; a comment is text
abbrev pub meaning_of : List Macro → List ℕ → Meaning
meaning_of macros text = if is_comment text then Text else meaning_in macros (parts_of text)
