-- What the code has written, and what a call leaves of it.
use Rattle.std.specs.Prelude.{◌≡◌, ◌≢◌, ℕ, Bool, true, false, List, ◌++◌, map, length, slice_range, All, Option, None, Some, Result, Ok, Err}
use Rattle.std.specs.Map.{lookup}
use Rattle.std.specs.Str.{bytes_eq}
use Rattle.lvdc_text.specs.declared.cutting.Line.{Line}
use Rattle.lvdc_text.specs.Lines.{IsWithin, part_of}
use Rattle.lvdc_macro.specs.declared.fault.MacroFault.{MacroFault}
use Rattle.lvdc_macro.specs.declared.fault.MacroFault.TheVariants.{NoMemory as WantsMemory, BadMacro}
use Rattle.lvdc_macro.specs.declared.meaning.Meaning as code
use Rattle.lvdc_macro.specs.declared.meaning.Meaning.TheVariants as kinds
use Rattle.lvdc_macro.specs.Macros.{Macro, Meaning, Text, Begin, End, Call}
use Rattle.lvdc_macro.specs.declared.expansion.Expansion.{Expansion}
use Rattle.lvdc_macro.specs.declared.source.Open.{Open}
use Rattle.lvdc_macro.specs.Expansion.{Written, Progress, Piece, State, Step, bytes_of, origins_of}

-- the bytes written, for each line the source line that it came from, and how many calls have begun
pub record Out : Type 0 where
  pub bytes : List ℕ
  pub origins : List ℕ
  pub calls : ℕ

-- how far the expansion has come: the calls that began, and the bytes that were written
abbrev pub progress_of : Out → Progress
progress_of out = record { calls = out.calls; size = length out.bytes }

-- the piece was written behind what was there
pub record IsWritten (piece : Piece) (old new : Out) : Type 0 where
  pub bytes : new.bytes ≡ old.bytes ++ bytes_of piece.lines
  pub origins : new.origins ≡ old.origins ++ origins_of piece.lines
  pub after : progress_of new ≡ piece.after

-- a piece that the definition has was written; where it refuses, nothing is said
abbrev pub Writes : Result Piece MacroFault → Out → Out → Type 0
Writes (Ok piece) old new = IsWritten piece old new
Writes (Err fault) old new = ⊥

-- what was due was written, or refused, unless memory ran out
abbrev pub Meets : {T : Type 0} → Result T MacroFault → Result Piece MacroFault → Out → Out → Type 0
Meets (Ok done) due old new = Writes due old new
Meets (Err fault) due old new = fault ≢ WantsMemory → due ≡ Err fault

-- the macros of names and of the lines of their bodies
abbrev pub macro_of : List ℕ → List ℕ × List Line → Macro
macro_of bytes entry = record { name = entry.0; body = map (part_of bytes) entry.1 }

-- the macros of a table
abbrev pub macros_of : List ℕ → List (List ℕ × List Line) → List Macro
macros_of bytes entries = map (macro_of bytes) entries

-- the lines of the body of the macro of this name, where there is one
abbrev pub lines_named : List (List ℕ × List Line) → List ℕ → Option (List Line)
lines_named entries name = lookup (bytes_eq name) entries

-- a line is what it means; the body of a call is told by its lines
abbrev pub Means : List ℕ → code.Meaning → Meaning → Type 0
Means bytes kinds.Text meaning = meaning ≡ Text
Means bytes (kinds.Begin name) meaning = meaning ≡ Begin name.now
Means bytes (kinds.End labelled) meaning = meaning ≡ End labelled
Means bytes (kinds.Call labelled operand body) meaning = meaning ≡ Call labelled operand.now (map (part_of bytes) body.now)

-- the body of a call has lines of these bytes
abbrev pub HasLinesOf : List ℕ → code.Meaning → Type 0
HasLinesOf bytes (kinds.Call labelled operand body) = All (IsWithin bytes) body.now
HasLinesOf bytes other = Unit {0}

-- whether a line inside of a definition ends it, or what it is refused for
abbrev pub ends_by : ℕ → Meaning → Result Bool MacroFault
ends_by line (Begin name) = Err (BadMacro line)
ends_by line (End true) = Err (BadMacro line)
ends_by line (End false) = Ok true
ends_by line other = Ok false

-- the macro whose definition is open where these lines follow its first one
abbrev pub pending_of : List ℕ → List Line → ℕ → Option (Open) → Option Macro
pending_of bytes lines index None = None
pending_of bytes lines index (Some begun) = Some (record { name = begun.name.now; body = map (part_of bytes) (slice_range lines begun.first index) })

-- the state between two lines
abbrev pub state_of : List ℕ → List (List ℕ × List Line) → Option Macro → Out → State
state_of bytes entries pending out = record { macros = macros_of bytes entries; pending = pending; progress = progress_of out }

-- what a line brings was written, and it leaves this state
pub record IsBrought (step : Step) (old new : Out) (left : State) : Type 0 where
  pub bytes : new.bytes ≡ old.bytes ++ bytes_of step.lines
  pub origins : new.origins ≡ old.origins ++ origins_of step.lines
  pub state : step.state ≡ left

-- what the definition says of a line was done; where it refuses, nothing is said
abbrev pub Brings : Result Step MacroFault → Out → Out → State → Type 0
Brings (Ok step) old new left = IsBrought step old new left
Brings (Err fault) old new left = ⊥

-- the expansion has the bytes and the origins of these lines behind those that were written
abbrev pub Follows : Result (List Written) MacroFault → Out → Expansion → Type 0
Follows (Ok lines) out expansion = (expansion.bytes ≡ out.bytes ++ bytes_of lines) × (expansion.origins ≡ out.origins ++ origins_of lines)
Follows (Err fault) out expansion = ⊥

-- what was due was given, or refused, unless memory ran out
abbrev pub Gives : Result Expansion MacroFault → Result (List Written) MacroFault → Out → Type 0
Gives (Ok expansion) due out = Follows due out expansion
Gives (Err fault) due out = fault ≢ WantsMemory → due ≡ Err fault

-- the bytes and the origins of these lines
abbrev pub Expands : Result (List Written) MacroFault → Expansion → Type 0
Expands (Ok lines) expansion = (expansion.bytes ≡ bytes_of lines) × (expansion.origins ≡ origins_of lines)
Expands (Err fault) expansion = ⊥
