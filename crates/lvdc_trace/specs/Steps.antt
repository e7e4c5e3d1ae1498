-- The lines of a step: what it exchanged, which copies were wrong, what the votes became, and which copies differ from them. Each
-- line ends with LF.
use Rattle.std.specs.Prelude.{ℕ, zero, suc, ◌+◌, ◌==◌, ◌||◌, Bool, true, false, not, List, [], ◌++◌, codes, decimal, if◌then◌else◌}
use Rattle.std.specs.declared.option.Option.{Option}
use Rattle.std.specs.declared.option.Option.TheVariants.{None, Some}
use Rattle.lvdc_map.specs.Address.{Spot}
use Rattle.lvdc_vote.specs.Copies.{Copies}
use Rattle.lvdc_vote.specs.Numbers.{latches_of}
use Rattle.lvdc_text.specs.Numbers.{octal_text}
use Rattle.lvdc_image.specs.Image.{spot_text}
use Rattle.lvdc_modules.specs.declared.wanted.Wanted.{Wanted}
use Rattle.lvdc_modules.specs.declared.wanted.Wanted.TheVariants.{Nothing, Fetch, Operand, Store, PortRead, PortWrite}
use Rattle.lvdc_fault.specs.Script.{is_wrong}
use Rattle.lvdc_fault.specs.declared.event.Event.{Event}
use Rattle.lvdc_model.specs.declared.repair.Repair.{Repair}
use Rattle.lvdc_logic.specs.Logic.{vote_at, is_outvoted}
use Rattle.lvdc_machine.specs.declared.made.Made.{Made}
use Rattle.lvdc_lines.specs.Noted.{lines_below, direction, switch_text}
use Rattle.lvdc_debug.specs.Session.{latch_text, copy_line}

-- ---- the exchange

-- an exchange with memory: its name, the address and the word in octal
abbrev pub access_line : List ℕ → Spot → ℕ → List ℕ
access_line name at word = name ++ codes " " ++ spot_text at ++ codes " " ++ octal_text 9 word ++ codes "\n"

-- an exchange with a port: whether a word was read or written, the port and the word in octal
abbrev pub port_line : Bool → ℕ → ℕ → List ℕ
port_line reading port word = direction reading ++ octal_text 3 port ++ codes " " ++ octal_text 9 word ++ codes "\n"

-- the exchange that the votes wished for, with the word that a read brought; where there was none, no line
abbrev pub exchange_text : Wanted → ℕ → List ℕ
exchange_text Nothing word = []
exchange_text (Fetch at) word = access_line (codes "FETCH") at word
exchange_text (Operand at) word = access_line (codes "OPERAND") at word
exchange_text (Store at stored) word = access_line (codes "STORE") at stored
exchange_text (PortRead port) word = port_line true port word
exchange_text (PortWrite port sent) word = port_line false port sent

-- the repair that the read noted, if it noted one
abbrev pub repair_text : Option Repair → List ℕ
repair_text None = []
repair_text (Some r) = codes "REPAIR " ++ spot_text r.at ++ codes " " ++ decimal r.twin ++ switch_text r.switched ++ codes "\n"

-- ---- the copies that are wrong by the script

-- the line of a copy, where it is wrong
abbrev pub fault_line : List Event → ℕ → ℕ → ℕ → List ℕ
fault_line script step number copy =
    if is_wrong script step number copy then codes "FAULT " ++ decimal number ++ codes " " ++ decimal copy ++ codes "\n" else []

-- those of the three copies of a module
abbrev pub fault_lines : List Event → ℕ → ℕ → List ℕ
fault_lines script step number = fault_line script step number 1 ++ fault_line script step number 2 ++ fault_line script step number 3

-- those of all seven modules
abbrev pub faults_text : List Event → ℕ → List ℕ
faults_text script step = lines_below (λ before. fault_lines script step (before + 1)) 7

-- ---- the votes

-- is one of the first so many numbers so?
abbrev pub any_below : (ℕ → Bool) → ℕ → Bool
any_below so zero = false
any_below so (suc number) = any_below so number || so number

-- is the vote of a module after a step another than before it?
abbrev pub has_changed : List Copies → List Copies → ℕ → Bool
has_changed before after number = any_below (λ index. not (vote_at after number index == vote_at before number index)) (latches_of number)

-- the line of a module: the votes of all its latches, by rising index
abbrev pub vote_line : List Copies → ℕ → List ℕ
vote_line copies number =
    codes "VOTE " ++ decimal number ++ lines_below (λ index. latch_text (vote_at copies number index)) (latches_of number) ++ codes "\n"

-- the same where the vote has changed; of the first step that is told, always
abbrev pub told_vote : Bool → List Copies → List Copies → ℕ → List ℕ
told_vote first before after number = if first || has_changed before after number then vote_line after number else []

-- those of all seven modules
abbrev pub votes_text : Bool → List Copies → List Copies → List ℕ
votes_text first before after = lines_below (λ modules. told_vote first before after (modules + 1)) 7

-- ---- the copies that differ

-- the line of a copy, where it differs
abbrev pub told_copy : List Copies → ℕ → ℕ → List ℕ
told_copy copies number copy = if is_outvoted copies number copy then copy_line copies number copy else []

-- those of the three copies of a module
abbrev pub told_copies : List Copies → ℕ → List ℕ
told_copies copies number = told_copy copies number 1 ++ told_copy copies number 2 ++ told_copy copies number 3

-- those of all seven modules
abbrev pub copies_text : List Copies → List ℕ
copies_text copies = lines_below (λ modules. told_copies copies (modules + 1)) 7

-- ---- the whole

-- a step that was made, with the copies before and after it
abbrev pub step_text : Bool → List Event → ℕ → Made → List Copies → List Copies → List ℕ
step_text first script step made before after =
    codes "STEP " ++ decimal step ++ codes "\n" ++ exchange_text made.wanted made.word ++ repair_text made.repair
    ++ faults_text script step ++ votes_text first before after ++ copies_text after
