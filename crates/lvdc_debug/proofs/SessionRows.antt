-- Worked sessions: each command, each ending, breakpoints in each pair and in both syllables.
use Rattle.std.proofs.Common.{◌≡◌, ℕ, ◌+◌, List, [], ◌∷◌, ◌++◌, None, Some, refl}
use Rattle.std.specs.Prelude.{codes}
use Rattle.std.specs.Fmt.{digits}
use Rattle.lvdc_word.specs.Cell.{with_stuck}
use Rattle.lvdc_map.specs.Hop.{hop_of}
use Rattle.lvdc_map.specs.declared.placed.Placed.{Placed}
use Rattle.lvdc_vote.specs.Bits.{majority, flipped}
use Rattle.lvdc_text.specs.Numbers.{octal_text}
use Rattle.lvdc_port.specs.declared.device.Kind.TheVariants.{Tape}
use Rattle.lvdc_lines.specs.Fields.{place_in, pair_in}
use Rattle.lvdc_fault.specs.declared.event.Event.{Event}
use Rattle.lvdc_fault.specs.declared.event.Event.TheVariants.{Flip, Damage, Dead}
use Rattle.lvdc_model.specs.Trial.{Trial}
use Rattle.lvdc_lines.specs.Noted.{lines_below}
use Rattle.lvdc_debug.specs.Commands.{syllable_in, count_in}
use Rattle.lvdc_debug.specs.Session.{Subject, state_after, entries, session_text, times_asked}

-- words at the locations of a sector, from one location on
placed : ℕ → ℕ → ℕ → List ℕ → List Placed
placed pair sector loc [] = []
placed pair sector loc (w ∷ ws) = record { at = record { pair = pair; sector = sector; loc = loc }; word = w } ∷ placed pair sector (loc + 1) ws

-- a program with no devices, which starts by this constant, under a script
trial : List Placed → ℕ → List Event → Trial
trial image start script = record { opening = record { image = image; banks = 0; start = hop_of start; unplugs = []; devices = [] }; script = script }

-- its run, for so many times at most
subject : Trial → ℕ → Subject
subject o limit = record { trial = o; state = state_after None o; limit = limit }

-- every command, in the middle of a run: a copy that differs, and a word that has changed
every_command : session_text (subject (trial (placed 0 0 0 (0o17000 ∷ 0o7001 ∷ 0o13000 ∷ 0o10000 ∷ []) ++ placed 0 1 0 (5 ∷ 1 ∷ [])) 0o16 (Flip 5 2 5 5 0 1 ∷ [])) 9)
    (codes "STEP 2" ∷ codes "COPIES 5" ∷ codes "BREAK 0 00 0 003" ∷ codes "GO" ∷ codes "MEM 0 01 000 3" ∷ codes "DIS 0 00 0 002 2" ∷ codes "DIS 0 01 1 000 2" ∷ codes "REGS" ∷ codes "GO" ∷ codes "STEP 1" ∷ [])
    ≡ codes "LVDC DEBUG\n> STEP 2\nAT 2 0 00 0 002\n> COPIES 5\nCOPY 5 1 000000006 000000001\nCOPY 5 2 000000007 000000001\nCOPY 5 3 000000006 000000001\n> BREAK 0 00 0 003\nBREAKS 1\n> GO\nAT 3 0 00 0 003\n> MEM 0 01 000 3\nMEM 0 01 000 000000006\nMEM 0 01 001 000000001\nMEM 0 01 002 000000000\n> DIS 0 00 0 002 2\n0 00 0 002 13000 STO 000\n0 00 0 003 10000 TRA 000\n> DIS 0 01 1 000 2\n0 01 1 000 00000 HOP 000\n0 01 1 001 00000 HOP 000\n> REGS\nTIMES 3\nPLACE 0 00 0 003\nDATA 0 01\nDUP 1 1\nA 000000006\nPQ 000000000\nSAVER 000000000\n> GO\nAT 7 0 00 0 003\n> STEP 1\nAT 8 0 00 0 000\n"
unfolding placed trial subject digits with_stuck majority flipped octal_text place_in pair_in lines_below syllable_in count_in entries
every_command = refl

-- so many times as are left are all that was asked; one more is not
the_limit : session_text (subject (trial (placed 0 0 0 (0o17000 ∷ 0o7001 ∷ 0o13002 ∷ 0o10003 ∷ []) ++ placed 0 1 0 (0o177777777 ∷ 1 ∷ [])) 0o16 ([])) 3)
    (codes "STEP 3" ∷ codes "STEP 1" ∷ codes "GO" ∷ codes "REGS" ∷ [])
    ≡ codes "LVDC DEBUG\n> STEP 3\nAT 3 0 00 0 003\n> STEP 1\nLIMIT 3\n> GO\nLIMIT 3\n> REGS\nTIMES 3\nPLACE 0 00 0 003\nDATA 0 01\nDUP 1 1\nA 200000000\nPQ 000000000\nSAVER 000000000\n"
unfolding placed trial subject digits with_stuck majority flipped octal_text place_in pair_in lines_below syllable_in count_in entries
the_limit = refl

-- what is left is made
past_the_limit : session_text (subject (trial (placed 0 0 0 (0o17000 ∷ 0o7001 ∷ 0o13002 ∷ 0o10003 ∷ []) ++ placed 0 1 0 (0o177777777 ∷ 1 ∷ [])) 0o16 ([])) 3)
    (codes "STEP 2" ∷ codes "STEP 2" ∷ [])
    ≡ codes "LVDC DEBUG\n> STEP 2\nAT 2 0 00 0 002\n> STEP 2\nLIMIT 3\n"
unfolding placed trial subject digits with_stuck majority flipped octal_text place_in pair_in lines_below syllable_in count_in entries
past_the_limit = refl

-- GO without a breakpoint
go_to_the_limit : session_text (subject (trial (placed 0 0 0 (0o17000 ∷ 0o7001 ∷ 0o13002 ∷ 0o10003 ∷ []) ++ placed 0 1 0 (0o177777777 ∷ 1 ∷ [])) 0o16 ([])) 3)
    (codes "GO" ∷ [])
    ≡ codes "LVDC DEBUG\n> GO\nLIMIT 3\n"
unfolding placed trial subject digits with_stuck majority flipped octal_text place_in pair_in lines_below syllable_in count_in entries
go_to_the_limit = refl

-- while MPH holds the machine no place is looked at
a_hold : session_text (subject (trial (placed 0 0 0 (0o17000 ∷ 0o5000 ∷ 0o10002 ∷ []) ++ placed 0 1 0 (0o100000000 ∷ [])) 0o16 ([])) 9)
    (codes "BREAK 0 00 0 002" ∷ codes "GO" ∷ codes "GO" ∷ [])
    ≡ codes "LVDC DEBUG\n> BREAK 0 00 0 002\nBREAKS 1\n> GO\nAT 6 0 00 0 002\n> GO\nAT 7 0 00 0 002\n"
unfolding placed trial subject digits with_stuck majority flipped octal_text place_in pair_in lines_below syllable_in count_in entries
a_hold = refl

-- where GO begins no place is looked at
where_go_begins : session_text (subject (trial (placed 0 0 0 (0o10000 ∷ [])) 0o16 ([])) 4)
    (codes "BREAK 0 00 0 000" ∷ codes "GO" ∷ codes "GO" ∷ codes "STEP 1" ∷ [])
    ≡ codes "LVDC DEBUG\n> BREAK 0 00 0 000\nBREAKS 1\n> GO\nAT 1 0 00 0 000\n> GO\nAT 2 0 00 0 000\n> STEP 1\nAT 3 0 00 0 000\n"
unfolding placed trial subject digits with_stuck majority flipped octal_text place_in pair_in lines_below syllable_in count_in entries
where_go_begins = refl

-- breakpoints of pairs 0, 1 and 3 at the place of a program in pair 2, and then its own
other_pairs : session_text (subject (trial (placed 2 0 0 (0o10001 ∷ 0o10002 ∷ 0o10000 ∷ [])) 0o200000016 ([])) 7)
    (codes "BREAK 0 00 0 001" ∷ codes "BREAK 1 00 0 001" ∷ codes "BREAK 3 00 0 001" ∷ codes "BREAK 2 00 0 002" ∷ codes "GO" ∷ codes "GO" ∷ [])
    ≡ codes "LVDC DEBUG\n> BREAK 0 00 0 001\nBREAKS 1\n> BREAK 1 00 0 001\nBREAKS 2\n> BREAK 3 00 0 001\nBREAKS 3\n> BREAK 2 00 0 002\nBREAKS 4\n> GO\nAT 2 4 00 0 002\n> GO\nAT 5 4 00 0 002\n"
unfolding placed trial subject digits with_stuck majority flipped octal_text place_in pair_in lines_below syllable_in count_in entries
other_pairs = refl

-- the last location of pair 3, and of pair 1
in_pair_3 : session_text (subject (trial (placed 3 15 0o377 (0o10777 ∷ [])) 0o336776016 ([])) 2)
    (codes "BREAK 3 17 0 377" ∷ codes "BREAK 3 17 1 377" ∷ codes "GO" ∷ codes "DIS 3 17 1 377 1" ∷ [])
    ≡ codes "LVDC DEBUG\n> BREAK 3 17 0 377\nBREAKS 1\n> BREAK 3 17 1 377\nBREAKS 2\n> GO\nAT 1 6 17 1 377\n> DIS 3 17 1 377 1\n3 17 1 377 00000 HOP 000\n"
unfolding placed trial subject digits with_stuck majority flipped octal_text place_in pair_in lines_below syllable_in count_in entries
in_pair_3 = refl

-- a program in pair 1, with a breakpoint in another sector
in_pair_1 : session_text (subject (trial (placed 1 2 0 (0o10001 ∷ 0o10000 ∷ [])) 0o104000016 ([])) 3)
    (codes "BREAK 1 02 0 001" ∷ codes "BREAK 1 03 0 000" ∷ codes "GO" ∷ codes "GO" ∷ [])
    ≡ codes "LVDC DEBUG\n> BREAK 1 02 0 001\nBREAKS 1\n> BREAK 1 03 0 000\nBREAKS 2\n> GO\nAT 1 2 02 0 001\n> GO\nAT 3 2 02 0 001\n"
unfolding placed trial subject digits with_stuck majority flipped octal_text place_in pair_in lines_below syllable_in count_in entries
in_pair_1 = refl

-- both syllables of one place, each with its own breakpoint and its own instruction
both_syllables : session_text (subject (trial (placed 0 0 0 (0o200010400 ∷ [])) 0o16 ([])) 4)
    (codes "BREAK 0 00 1 000" ∷ codes "GO" ∷ codes "BREAK 0 00 0 000" ∷ codes "GO" ∷ codes "GO" ∷ codes "DIS 0 00 0 000 1" ∷ codes "DIS 0 00 1 000 1" ∷ [])
    ≡ codes "LVDC DEBUG\n> BREAK 0 00 1 000\nBREAKS 1\n> GO\nAT 1 0 00 1 000\n> BREAK 0 00 0 000\nBREAKS 2\n> GO\nAT 2 0 00 0 000\n> GO\nAT 3 0 00 1 000\n> DIS 0 00 0 000 1\n0 00 0 000 10400 TRA 400\n> DIS 0 00 1 000 1\n0 00 1 000 10000 TRA 000\n"
unfolding placed trial subject digits with_stuck majority flipped octal_text place_in pair_in lines_below syllable_in count_in entries
both_syllables = refl

-- the breakpoint is in the other syllable
the_other_syllable : session_text (subject (trial (placed 0 0 0 (0o17000 ∷ 0o7001 ∷ 0o13002 ∷ 0o10003 ∷ []) ++ placed 0 1 0 (0o177777777 ∷ 1 ∷ [])) 0o16 ([])) 3)
    (codes "BREAK 0 00 1 001" ∷ codes "GO" ∷ [])
    ≡ codes "LVDC DEBUG\n> BREAK 0 00 1 001\nBREAKS 1\n> GO\nLIMIT 3\n"
unfolding placed trial subject digits with_stuck majority flipped octal_text place_in pair_in lines_below syllable_in count_in entries
the_other_syllable = refl

-- a breakpoint that is there already changes nothing, and a seventeenth other one is refused
sixteen_breakpoints : session_text (subject (trial (placed 0 0 0 (0o17000 ∷ 0o7001 ∷ 0o13002 ∷ 0o10003 ∷ []) ++ placed 0 1 0 (0o177777777 ∷ 1 ∷ [])) 0o16 ([])) 3)
    (codes "BREAK 0 00 0 000" ∷ codes "BREAK 0 00 0 001" ∷ codes "BREAK 0 00 0 002" ∷ codes "BREAK 0 00 0 003" ∷ codes "BREAK 0 00 0 004" ∷ codes "BREAK 0 00 0 005" ∷ codes "BREAK 0 00 0 006" ∷ codes "BREAK 0 00 0 007" ∷ codes "BREAK 0 00 0 010" ∷ codes "BREAK 0 00 0 011" ∷ codes "BREAK 0 00 0 012" ∷ codes "BREAK 0 00 0 013" ∷ codes "BREAK 0 00 0 014" ∷ codes "BREAK 0 00 0 015" ∷ codes "BREAK 0 00 0 016" ∷ codes "BREAK 0 00 0 017" ∷ codes "BREAK 0 00 0 000" ∷ codes "BREAK 0 00 0 020" ∷ codes "BREAK 0 00 0 017" ∷ codes "GO" ∷ [])
    ≡ codes "LVDC DEBUG\n> BREAK 0 00 0 000\nBREAKS 1\n> BREAK 0 00 0 001\nBREAKS 2\n> BREAK 0 00 0 002\nBREAKS 3\n> BREAK 0 00 0 003\nBREAKS 4\n> BREAK 0 00 0 004\nBREAKS 5\n> BREAK 0 00 0 005\nBREAKS 6\n> BREAK 0 00 0 006\nBREAKS 7\n> BREAK 0 00 0 007\nBREAKS 8\n> BREAK 0 00 0 010\nBREAKS 9\n> BREAK 0 00 0 011\nBREAKS 10\n> BREAK 0 00 0 012\nBREAKS 11\n> BREAK 0 00 0 013\nBREAKS 12\n> BREAK 0 00 0 014\nBREAKS 13\n> BREAK 0 00 0 015\nBREAKS 14\n> BREAK 0 00 0 016\nBREAKS 15\n> BREAK 0 00 0 017\nBREAKS 16\n> BREAK 0 00 0 000\nBREAKS 16\n> BREAK 0 00 0 020\nBREAKS FULL\n> BREAK 0 00 0 017\nBREAKS 16\n> GO\nAT 1 0 00 0 001\n"
unfolding placed trial subject digits with_stuck majority flipped octal_text place_in pair_in lines_below syllable_in count_in entries
sixteen_breakpoints = refl

-- a step that is not admissible, by two copies
two_copies : session_text (subject (trial (placed 0 0 0 (0o17000 ∷ 0o7001 ∷ 0o13002 ∷ 0o10003 ∷ []) ++ placed 0 1 0 (0o177777777 ∷ 1 ∷ [])) 0o16 (Flip 3 1 4 4 0 0o1000 ∷ Flip 3 2 4 4 0 0o1000 ∷ [])) 3)
    (codes "STEP 1" ∷ codes "STEP 1" ∷ codes "STEP 1" ∷ codes "GO" ∷ codes "REGS" ∷ [])
    ≡ codes "LVDC DEBUG\n> STEP 1\nAT 1 0 00 0 001\n> STEP 1\nEND INADMISSIBLE 4 LOGIC 3\n> STEP 1\nEND INADMISSIBLE 4 LOGIC 3\n> GO\nEND INADMISSIBLE 4 LOGIC 3\n> REGS\nTIMES 1\nPLACE 0 00 0 001\nDATA 0 01\nDUP 1 1\nA 177777777\nPQ 000000000\nSAVER 000000000\n"
unfolding placed trial subject digits with_stuck majority flipped octal_text place_in pair_in lines_below syllable_in count_in entries
two_copies = refl

-- and by a word
lost_word : session_text (subject (trial (placed 0 0 0 (0o17000 ∷ 0o7001 ∷ 0o13002 ∷ 0o10003 ∷ []) ++ placed 0 1 0 (0o177777777 ∷ 1 ∷ [])) 0o16 (Damage 0 (record { pair = 0; sector = 1; loc = 1 }) 2 1 ∷ Damage 1 (record { pair = 0; sector = 1; loc = 1 }) 4 1 ∷ [])) 3)
    (codes "GO" ∷ codes "MEM 0 01 000 2" ∷ [])
    ≡ codes "LVDC DEBUG\n> GO\nEND INADMISSIBLE 4 MEMORY 0 01 001\n> MEM 0 01 000 2\nMEM 0 01 000 177777777\nMEM 0 01 001 ?\n"
unfolding placed trial subject digits with_stuck majority flipped octal_text place_in pair_in lines_below syllable_in count_in entries
lost_word = refl

-- the two stops
wrong_shift : session_text (subject (trial (placed 0 0 0 (0o16203 ∷ [])) 0o16 ([])) 5)
    (codes "GO" ∷ codes "STEP 1" ∷ [])
    ≡ codes "LVDC DEBUG\n> GO\nEND STOPPED 2 SHIFT\n> STEP 1\nEND STOPPED 2 SHIFT\n"
unfolding placed trial subject digits with_stuck majority flipped octal_text place_in pair_in lines_below syllable_in count_in entries
wrong_shift = refl

modified : session_text (subject (trial (placed 0 0 0 (0o16600 ∷ [])) 0o16 ([])) 5)
    (codes "STEP 2" ∷ codes "GO" ∷ [])
    ≡ codes "LVDC DEBUG\n> STEP 2\nEND STOPPED 2 EXM\n> GO\nEND STOPPED 2 EXM\n"
unfolding placed trial subject digits with_stuck majority flipped octal_text place_in pair_in lines_below syllable_in count_in entries
modified = refl

-- a word that can no longer be recovered, as a word and as an instruction
unknown_words : session_text (subject (trial (placed 0 0 0 (0o17000 ∷ 0o7001 ∷ 0o13002 ∷ 0o10003 ∷ []) ++ placed 0 1 0 (0o177777777 ∷ 1 ∷ [])) 0o16 (Damage 0 (record { pair = 0; sector = 1; loc = 3 }) 0 3 ∷ Damage 1 (record { pair = 0; sector = 0; loc = 3 }) 0 3 ∷ [])) 3)
    (codes "MEM 0 01 000 4" ∷ codes "STEP 1" ∷ codes "MEM 0 01 003 1" ∷ codes "DIS 0 00 0 003 1" ∷ codes "MEM 0 01 377 1" ∷ [])
    ≡ codes "LVDC DEBUG\n> MEM 0 01 000 4\nMEM 0 01 000 177777777\nMEM 0 01 001 000000001\nMEM 0 01 002 000000000\nMEM 0 01 003 000000000\n> STEP 1\nAT 1 0 00 0 001\n> MEM 0 01 003 1\nMEM 0 01 003 ?\n> DIS 0 00 0 003 1\n0 00 0 003 ?\n> MEM 0 01 377 1\nMEM 0 01 377 000000000\n"
unfolding placed trial subject digits with_stuck majority flipped octal_text place_in pair_in lines_below syllable_in count_in entries
unknown_words = refl

-- each code as an instruction
code_fourteen : session_text (subject (trial (placed 0 0 0 (0o16175 ∷ 0o16240 ∷ 0o16303 ∷ 0o16601 ∷ [])) 0o16 ([])) 1)
    (codes "DIS 0 00 0 000 4" ∷ [])
    ≡ codes "LVDC DEBUG\n> DIS 0 00 0 000 4\n0 00 0 000 16175 CDS 175\n0 00 0 001 16240 SHF 240\n0 00 0 002 16303 SHF 303\n0 00 0 003 16601 EXM 601\n"
unfolding placed trial subject digits with_stuck majority flipped octal_text place_in pair_in lines_below syllable_in count_in entries
code_fourteen = refl

-- no commands: they have other numbers, other fields, other letters, or none
no_commands : session_text (subject (trial (placed 0 0 0 (0o17000 ∷ 0o7001 ∷ 0o13002 ∷ 0o10003 ∷ []) ++ placed 0 1 0 (0o177777777 ∷ 1 ∷ [])) 0o16 ([])) 3)
    (codes "FLY" ∷ codes "STEP" ∷ codes "STEP 0" ∷ codes "STEP 01" ∷ codes "STEP 1000001" ∷ codes "MEM 0 01 377 2" ∷ codes "MEM 4 00 000 1" ∷ codes "MEM 0 01 000 257" ∷ codes "DIS 0 00 2 000 1" ∷ codes "COPIES 0" ∷ codes "COPIES 8" ∷ codes "BREAK 0 00 0" ∷ codes "GO 1" ∷ codes "REGS 1" ∷ codes "step 1" ∷ [])
    ≡ codes "LVDC DEBUG\n> FLY\nBAD COMMAND\n> STEP\nBAD COMMAND\n> STEP 0\nBAD COMMAND\n> STEP 01\nBAD COMMAND\n> STEP 1000001\nBAD COMMAND\n> MEM 0 01 377 2\nBAD COMMAND\n> MEM 4 00 000 1\nBAD COMMAND\n> MEM 0 01 000 257\nBAD COMMAND\n> DIS 0 00 2 000 1\nBAD COMMAND\n> COPIES 0\nBAD COMMAND\n> COPIES 8\nBAD COMMAND\n> BREAK 0 00 0\nBAD COMMAND\n> GO 1\nBAD COMMAND\n> REGS 1\nBAD COMMAND\n> step 1\nBAD COMMAND\n"
unfolding placed trial subject digits with_stuck majority flipped octal_text place_in pair_in lines_below syllable_in count_in entries
no_commands = refl

-- blanks around a command are not written again, those inside are; the last numbers that are allowed
blanks : session_text (subject (trial (placed 0 0 0 (0o17000 ∷ 0o7001 ∷ 0o13002 ∷ 0o10003 ∷ []) ++ placed 0 1 0 (0o177777777 ∷ 1 ∷ [])) 0o16 ([])) 3)
    (codes "  STEP   1\t" ∷ codes "STEP 1000000" ∷ codes "MEM 0 01 377 1" ∷ codes "REGS " ∷ [])
    ≡ codes "LVDC DEBUG\n> STEP   1\nAT 1 0 00 0 001\n> STEP 1000000\nLIMIT 3\n> MEM 0 01 377 1\nMEM 0 01 377 000000000\n> REGS\nTIMES 3\nPLACE 0 00 0 003\nDATA 0 01\nDUP 1 1\nA 200000000\nPQ 000000000\nSAVER 000000000\n"
unfolding placed trial subject digits with_stuck majority flipped octal_text place_in pair_in lines_below syllable_in count_in entries
blanks = refl

-- a twin that is dead
a_dead_twin : session_text (subject (trial (placed 0 0 0 (0o17000 ∷ 0o7001 ∷ 0o13002 ∷ 0o10003 ∷ []) ++ placed 0 1 0 (0o177777777 ∷ 1 ∷ [])) 0o16 (Dead 1 0 0 8 ∷ [])) 3)
    (codes "MEM 0 01 000 1" ∷ codes "STEP 2" ∷ codes "MEM 0 01 000 1" ∷ codes "REGS" ∷ [])
    ≡ codes "LVDC DEBUG\n> MEM 0 01 000 1\nMEM 0 01 000 177777777\n> STEP 2\nAT 2 0 00 0 002\n> MEM 0 01 000 1\nMEM 0 01 000 177777777\n> REGS\nTIMES 2\nPLACE 0 00 0 002\nDATA 0 01\nDUP 1 1\nA 200000000\nPQ 000000000\nSAVER 000000000\n"
unfolding placed trial subject digits with_stuck majority flipped octal_text place_in pair_in lines_below syllable_in count_in entries
a_dead_twin = refl

-- a tape at port 0 that fails where its word is asked for: the time is begun and not made
failed : session_text (record {
  trial = record { opening = record { image = placed 0 0 0 (0o12400 ∷ 0o10000 ∷ []); banks = 0; start = hop_of 0o16; unplugs = []; devices = record { port = 0; kind = Tape; state = 5 ∷ [] } ∷ [] }; script = [] };
  state = state_after (Some (record { step = 2; port = 0 })) (record { opening = record { image = placed 0 0 0 (0o12400 ∷ 0o10000 ∷ []); banks = 0; start = hop_of 0o16; unplugs = []; devices = record { port = 0; kind = Tape; state = 5 ∷ [] } ∷ [] }; script = [] });
  limit = 4;
}) (codes "GO" ∷ codes "STEP 1" ∷ codes "MEM 0 00 000 1" ∷ [])
    ≡ codes "LVDC DEBUG\n> GO\nEND DEVICE 2 000\n> STEP 1\nEND DEVICE 2 000\n> MEM 0 00 000 1\nMEM 0 00 000 000012400\n"
unfolding placed trial subject digits with_stuck majority flipped octal_text place_in pair_in lines_below syllable_in count_in entries
failed = refl

-- for how many times commands ask: GO up to the breakpoint or the limit, STEP no further than the limit, and every other line for none
asked : times_asked (subject (trial (placed 0 0 0 (0o10001 ∷ 0o10000 ∷ [])) 0o16 []) 9) (codes "STEP 2" ∷ codes "BREAK 0 00 0 001" ∷ codes "GO" ∷ codes "REGS" ∷ codes "NONE" ∷ []) ≡ 3
unfolding placed trial subject digits with_stuck majority flipped octal_text place_in pair_in lines_below syllable_in count_in entries
asked = refl

asked_all : times_asked (subject (trial (placed 0 0 0 (0o10001 ∷ 0o10000 ∷ [])) 0o16 []) 9) (codes "STEP 20" ∷ codes "GO" ∷ []) ≡ 9
unfolding placed trial subject digits with_stuck majority flipped octal_text place_in pair_in lines_below syllable_in count_in entries
asked_all = refl
