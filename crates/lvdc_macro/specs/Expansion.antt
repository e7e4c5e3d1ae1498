-- The expansion of a source with macros, by levels of calls; or its first refusal.
use Rattle.std.specs.Prelude.{ℕ, zero, suc, ◌+◌, nat_lt, Bool, true, false, ◌||◌, List, [], ◌∷◌, ◌++◌, map, length, if◌then◌else◌, Result, Ok, Err}
use Rattle.std.specs.declared.option.Option.{Option}
use Rattle.std.specs.declared.option.Option.TheVariants.{None, Some}
use Rattle.lvdc_text.specs.Joined.{text_of}
use Rattle.lvdc_text.specs.Lines.{NumberedLine}
use Rattle.lvdc_macro.specs.Limits.{most_levels, most_calls, most_arguments, longest_expansion}
use Rattle.lvdc_macro.specs.declared.fault.MacroFault.{MacroFault}
use Rattle.lvdc_macro.specs.declared.fault.MacroFault.TheVariants.{BadMacro, TooDeep, TooManyCalls, ExpansionTooLong}
use Rattle.lvdc_macro.specs.Macros.{Macro, Meaning, Text, Begin, End, Call, meaning_of, may_be_named}
use Rattle.lvdc_macro.specs.Substitution.{arguments_of, substituted}

-- ---- what is written

-- a line of the expansion, and the number of the source line that it came from: of the outermost call for a body's line
pub record Written : Type 0 where
  pub text : List ℕ
  pub origin : ℕ

-- how many calls have begun, and how many bytes are written, each line with its LF
pub record Progress : Type 0 where
  pub calls : ℕ
  pub size : ℕ

-- lines that follow, and how far they bring the expansion
pub record Piece : Type 0 where
  pub lines : List Written
  pub after : Progress

-- a piece of these lines, after which the expansion has come so far
abbrev pub piece_of : List Written → Progress → Piece
piece_of lines after = record { lines = lines; after = after }

-- a line is written as it is, unless the expansion becomes too long by it
abbrev pub write : ℕ → Progress → List ℕ → Result Piece MacroFault
write origin p text =
    if nat_lt longest_expansion (p.size + length text + 1) then Err (ExpansionTooLong origin)
    else Ok (piece_of (record { text = text; origin = origin } ∷ []) (record p { size = p.size + length text + 1 }))

-- lines before those of a later piece
abbrev pub before : List Written → Result Piece MacroFault → Result Piece MacroFault
before lines (Ok piece) = Ok (piece_of (lines ++ piece.lines) piece.after)
before lines (Err fault) = Err fault

-- a piece, and what follows from where it ends
abbrev pub and_then : Result Piece MacroFault → (Progress → Result Piece MacroFault) → Result Piece MacroFault
and_then (Ok piece) later = before piece.lines (later piece.after)
and_then (Err fault) later = Err fault

-- the pieces of texts, one after another
unfoldable pub pieces : (Progress → List ℕ → Result Piece MacroFault) → Progress → List (List ℕ) → Result Piece MacroFault
pieces piece p [] = Ok (piece_of [] p)
pieces piece p (text ∷ texts) = and_then (piece p text) (λ q. pieces piece q texts)

-- ---- calls

-- is a call wrong? One that is right has no label and at most nine arguments
abbrev pub is_wrong_call : Bool → List ℕ → Bool
is_wrong_call labelled operand = labelled || nat_lt most_arguments (length (arguments_of operand))

-- a line of a body, unless it alone is longer than an expansion may be
abbrev pub unless_longer : ℕ → List ℕ → Result Piece MacroFault → Result Piece MacroFault
unless_longer origin text piece = if nat_lt longest_expansion (length text + 1) then Err (ExpansionTooLong origin) else piece

-- a line of a body, by what it is; no macro begins or ends there
abbrev pub inner_by : (Progress → Bool → List ℕ → List (List ℕ) → Result Piece MacroFault) → ℕ → Progress → List ℕ → Meaning → Result Piece MacroFault
inner_by call origin p text Text = write origin p text
inner_by call origin p text (Begin name) = Err (BadMacro origin)
inner_by call origin p text (End labelled) = Err (BadMacro origin)
inner_by call origin p text (Call labelled operand body) = call p labelled operand body

-- a call, where so many levels of calls are left: in each line of the body the arguments are put in, and then it is expanded, unless it is too long
unfoldable pub called : ℕ → List Macro → ℕ → Progress → Bool → List ℕ → List (List ℕ) → Result Piece MacroFault
called zero macros origin p labelled operand body = if is_wrong_call labelled operand then Err (BadMacro origin) else Err (TooDeep origin)
called (suc left) macros origin p labelled operand body =
    if is_wrong_call labelled operand then Err (BadMacro origin)
    else (if nat_lt most_calls (p.calls + 1) then Err (TooManyCalls origin)
    else pieces (λ q text. unless_longer origin text (inner_by (called left macros origin) origin q text (meaning_of macros text))) (record p { calls = p.calls + 1 })
    (map (substituted (p.calls + 1) (arguments_of operand)) body))

-- ---- the source

-- the macros that were ended, the one that is open, if any, and how far the expansion is
pub record State : Type 0 where
  pub macros : List Macro
  pub pending : Option Macro
  pub progress : Progress

-- before the first line nothing is defined and nothing is written
abbrev pub start : State
start = record { macros = []; pending = None; progress = record { calls = 0; size = 0 } }

-- what a line brings
pub record Step : Type 0 where
  pub lines : List Written
  pub state : State

-- what these lines bring, and the state after them
abbrev pub step_of : List Written → State → Step
step_of lines state = record { lines = lines; state = state }

-- a line with one more at its end
abbrev pub with_line : Macro → List ℕ → Macro
with_line m text = record m { body = m.body ++ text ∷ [] }

-- a line inside of a definition, by what it is: it belongs to the body, or it ends the macro
abbrev pub inside_by : State → Macro → NumberedLine → Meaning → Result Step MacroFault
inside_by s m line (Begin name) = Err (BadMacro line.number)
inside_by s m line (End true) = Err (BadMacro line.number)
inside_by s m line (End false) = Ok (step_of [] (record s { macros = s.macros ++ m ∷ []; pending = None }))
inside_by s m line other = Ok (step_of [] (record s { pending = Some (with_line m line.text) }))

-- what a piece brings
abbrev pub with_piece : State → Result Piece MacroFault → Result Step MacroFault
with_piece s (Ok piece) = Ok (step_of piece.lines (record s { progress = piece.after }))
with_piece s (Err fault) = Err fault

-- a line outside of any definition, by what it is
abbrev pub outside_by : State → NumberedLine → Meaning → Result Step MacroFault
outside_by s line Text = with_piece s (write line.number s.progress line.text)
outside_by s line (Begin name) =
    if may_be_named s.macros name then Ok (step_of [] (record s { pending = Some (record { name = name; body = [] }) }))
    else Err (BadMacro line.number)
outside_by s line (End labelled) = Err (BadMacro line.number)
outside_by s line (Call labelled operand body) = with_piece s (called most_levels s.macros line.number s.progress labelled operand body)

-- by whether a definition is open
abbrev pub by_pending : State → NumberedLine → Option Macro → Result Step MacroFault
by_pending s line None = outside_by s line (meaning_of s.macros line.text)
by_pending s line (Some m) = inside_by s m line (meaning_of s.macros line.text)

-- a line of the source
abbrev pub after_line : State → NumberedLine → Result Step MacroFault
after_line s line = by_pending s line s.pending

-- lines before those of later ones
abbrev pub in_front : List Written → Result (List Written) MacroFault → Result (List Written) MacroFault
in_front lines (Ok later) = Ok (lines ++ later)
in_front lines (Err fault) = Err fault

-- what a line brings, and what later lines bring
abbrev pub and_on : Result Step MacroFault → (State → Result (List Written) MacroFault) → Result (List Written) MacroFault
and_on (Ok step) later = in_front step.lines (later step.state)
and_on (Err fault) later = Err fault

-- at the end no definition may be open
abbrev pub closed : ℕ → Option Macro → Result (List Written) MacroFault
closed next None = Ok []
closed next (Some m) = Err (BadMacro next)

-- the expansion of the lines from a state on; next is one more than the number of the line before them
unfoldable pub expanded_from : ℕ → State → List NumberedLine → Result (List Written) MacroFault
expanded_from next s [] = closed next s.pending
expanded_from next s (line ∷ lines) = and_on (after_line s line) (λ t. expanded_from (line.number + 1) t lines)

-- the expansion of a source, line by line, or its first refusal
abbrev pub expansion_of : List NumberedLine → Result (List Written) MacroFault
expansion_of lines = expanded_from 1 start lines

-- ---- as bytes

-- each line ended by LF
unfoldable pub bytes_of : List Written → List ℕ
bytes_of lines = text_of (map (λ line. line.text) lines)

-- for each line the source line that it came from
abbrev pub origins_of : List Written → List ℕ
origins_of lines = map (λ line. line.origin) lines
