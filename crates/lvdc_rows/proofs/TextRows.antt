-- Worked texts: what `run` tells beside what `run --plain` tells.
use Rattle.std.proofs.Common.{◌≡◌, [], ◌∷◌, true, false, refl}
use Rattle.std.specs.Prelude.{codes}
use Rattle.std.specs.Fmt.{digits}
use Rattle.lvdc_text.specs.Numbers.{octal_text}
use Rattle.lvdc_map.specs.Hop.{hop_of}
use Rattle.lvdc_lines.specs.Noted.{lines_of, lines_below}
use Rattle.lvdc_model.specs.Voted.{Voted, voted_start}
use Rattle.lvdc_reply.specs.Answer.{answer_with}
use Rattle.lvdc_command_form.specs.Plainly.{has_question_mark}
use Rattle.lvdc_command_form.specs.Texts.{TellsPlain}

-- copy 1 of module 5 differed twice and copy 3 of module 7 once, and two reads repaired twins
machine : Voted
machine =
    record (voted_start (record { opening = record { image = []; banks = 0; start = hop_of 0o16; unplugs = []; devices = [] }; script = [] })) {
      counts = (0 ∷ 0 ∷ 0 ∷ []) ∷ (0 ∷ 0 ∷ 0 ∷ []) ∷ (0 ∷ 0 ∷ 0 ∷ []) ∷ (0 ∷ 0 ∷ 0 ∷ []) ∷ (2 ∷ 0 ∷ 0 ∷ []) ∷ (0 ∷ 0 ∷ 0 ∷ []) ∷ (0 ∷ 0 ∷ 1 ∷ []) ∷ [];
      repairs =
          record { step = 1; at = record { pair = 0; sector = 1; loc = 0 }; twin = 0; switched = true }
          ∷ record { step = 3; at = record { pair = 0; sector = 0; loc = 1 }; twin = 1; switched = false } ∷ [];
    }

-- the WRONG lines by module and copy, and behind them the REPAIR lines in their order
the_lines_behind : TellsPlain machine
    (answer_with 0 (codes "LVDC RUN\nEND DONE\nTIMES 2\nWRONG 5 1 2\nWRONG 7 3 1\nREPAIR 1 0 01 000 0 SWITCH\nREPAIR 3 0 00 001 1\n") [])
    (answer_with 0 (codes "LVDC PLAIN\nEND DONE\nTIMES 2\n") [])
unfolding machine digits octal_text lines_of lines_below
the_lines_behind = record { lines = codes "END DONE\nTIMES 2\n"; text = refl; plain_text = refl; status = refl; devices = refl }

-- a word that can't be told is a question mark
a_word_that_is_told : has_question_mark (codes "MEM 0 01 000 000000005\n") ≡ false
a_word_that_is_told = refl

a_word_that_is_not_told : has_question_mark (codes "MEM 0 01 000 ?\nMEM 0 01 001 000000005\n") ≡ true
a_word_that_is_not_told = refl
