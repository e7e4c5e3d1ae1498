-- The commands of the debugger, by their tokens.
use Rattle.std.specs.Prelude.{ℕ, ◌+◌, ◌<◌, ◌≤◌, nat_le, List, [], ◌∷◌, codes, if◌then◌else◌, Option, None, Some, option_map, drop, take, length, ◌-◌}
use Rattle.std.specs.List.{prefix_len, suffix_len}
use Rattle.std.specs.Str.{bytes_eq}
use Rattle.lvdc_map.specs.Address.{Spot}
use Rattle.lvdc_text.specs.Lines.{is_blank}
use Rattle.lvdc_map.specs.Banks.{IsPlace}
use Rattle.lvdc_lines.specs.Fields.{decimal_in, octal_in, place_in}
use Rattle.lvdc_debug.specs.declared.command.Command.{Command}
use Rattle.lvdc_debug.specs.declared.command.Command.TheVariants.{Step, Go, Break, Regs, Mem, Dis, Copies}

-- ---- numbers

-- a syllable: 0 or 1
unfoldable pub syllable_in : List ℕ → Option ℕ
syllable_in text = octal_in 2 1 text

-- how many words: 1 to 256
unfoldable pub count_in : List ℕ → Option ℕ
count_in text = decimal_in 1 257 text

-- ---- each command

-- STEP n
abbrev pub step_in : List (List ℕ) → Option Command
step_in (n ∷ []) = option_map Step (decimal_in 1 1000001 n)
step_in _ = None

-- a command that stands alone
abbrev pub alone_in : Command → List (List ℕ) → Option Command
alone_in command [] = Some command
alone_in command _ = None

-- BREAK, where the place and the syllable have their form
abbrev pub break_of : Option Spot → Option ℕ → Option Command
break_of (Some at) (Some syl) = Some (Break (record { at = at; syl = syl }))
break_of _ _ = None

-- BREAK p ss s lll
abbrev pub break_in : List (List ℕ) → Option Command
break_in (pair ∷ sector ∷ syl ∷ loc ∷ []) = break_of (place_in pair sector loc) (syllable_in syl)
break_in _ = None

-- so many words from this place on, where they stay within its sector
abbrev pub mem_of : Option Spot → Option ℕ → Option Command
mem_of (Some at) (Some count) = if nat_le (at.loc + count) 256 then Some (Mem at count) else None
mem_of _ _ = None

-- MEM p ss lll n
abbrev pub mem_in : List (List ℕ) → Option Command
mem_in (pair ∷ sector ∷ loc ∷ n ∷ []) = mem_of (place_in pair sector loc) (count_in n)
mem_in _ = None

-- DIS, where all is in its form and the instructions end within the sector
abbrev pub dis_of : Option Spot → Option ℕ → Option ℕ → Option Command
dis_of (Some at) (Some syl) (Some count) = if nat_le (at.loc + count) 256 then Some (Dis at syl count) else None
dis_of _ _ _ = None

-- DIS p ss s lll n
abbrev pub dis_in : List (List ℕ) → Option Command
dis_in (pair ∷ sector ∷ syl ∷ loc ∷ n ∷ []) = dis_of (place_in pair sector loc) (syllable_in syl) (count_in n)
dis_in _ = None

-- COPIES m, a module from 1 to 7
abbrev pub copies_in : List (List ℕ) → Option Command
copies_in (m ∷ []) = option_map Copies (decimal_in 1 8 m)
copies_in _ = None

-- ---- lines

-- the command of these tokens, where they are one
abbrev pub command_in : List (List ℕ) → Option Command
command_in [] = None
command_in (word ∷ fields) =
    if bytes_eq word (codes "STEP") then step_in fields
    else (if bytes_eq word (codes "GO") then alone_in Go fields
    else (if bytes_eq word (codes "BREAK") then break_in fields
    else (if bytes_eq word (codes "REGS") then alone_in Regs fields
    else (if bytes_eq word (codes "MEM") then mem_in fields
    else (if bytes_eq word (codes "DIS") then dis_in fields
    else (if bytes_eq word (codes "COPIES") then copies_in fields else None))))))

-- the text without blanks in front
abbrev pub after_blanks : List ℕ → List ℕ
after_blanks text = drop (prefix_len is_blank text) text

-- the text without blanks at its end
abbrev pub before_blanks : List ℕ → List ℕ
before_blanks text = take (length text - suffix_len is_blank text) text

-- the text without outer blanks
abbrev pub without_outer_blanks : List ℕ → List ℕ
without_outer_blanks text = before_blanks (after_blanks text)

-- ---- ranges

-- so many words from a place of the twins on, at least one, within its sector
pub record IsStretch (at : Spot) (count : ℕ) : Type 0 where
  pub physical : IsPlace at
  pub some : 1 ≤ count
  pub within : at.loc + count ≤ 256

-- all numbers of a command are in their ranges
abbrev pub IsCommand : Command → Type 0
IsCommand (Step n) = (1 ≤ n) × (n ≤ 1000000)
IsCommand Go = Unit {0}
IsCommand (Break spot) = IsPlace spot.at × (spot.syl < 2)
IsCommand Regs = Unit {0}
IsCommand (Mem at count) = IsStretch at count
IsCommand (Dis at syl count) = IsStretch at count × (syl < 2)
IsCommand (Copies number) = (1 ≤ number) × (number ≤ 7)
