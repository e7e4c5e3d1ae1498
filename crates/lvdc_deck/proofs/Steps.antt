-- Lines one after the other: what they tell, the commands among them, and the deck from a line on.
use Rattle.std.proofs.Common.{◌≡◌, ℕ, ◌+◌, ◌<◌, ◌≤◌, Bool, true, false, Option, Some, List, [], ◌∷◌, ◌++◌, map, length, get_or, take, drop, Result, Ok, Err, refl, sym, ap, ◌∙◌, append_assoc, append-nil, arith}
use Rattle.std.specs.Bool.{if◌then◌else◌}
use Rattle.std.proofs.lemmas.List.{drop_more, drop_all}
use Rattle.lvdc_text.specs.declared.cutting.Line.{Line}
use Rattle.lvdc_text.specs.declared.cutting.Token.{Token}
use Rattle.lvdc_text.specs.Lines.{part_of, is_long, is_comment}
use Rattle.lvdc_port.specs.Device.{Device}
use Rattle.lvdc_deck.specs.declared.deck.Deck.{Deck}
use Rattle.lvdc_deck.specs.declared.fault.DeckFault.{DeckFault}
use Rattle.lvdc_deck.specs.declared.fault.DeckFault.TheVariants.{BadLine, NoProgram}
use Rattle.lvdc_deck.specs.declared.section.Section.{Section}
use Rattle.lvdc_deck.specs.declared.section.Opening.{Opening}
use Rattle.lvdc_deck.specs.declared.section.Opening.TheVariants as opening
use Rattle.lvdc_deck.specs.declared.section.ProgramKind.{ProgramKind}
use Rattle.lvdc_deck.specs.Sections.{Sections, nothing_said, section_of, is_debug, in_order, by_word, by_tokens, after_line}
use Rattle.lvdc_deck.specs.Deck.{and_then, Told, with_command, commands_from, with_commands, by_debug, told_from, end_of, with_program, by_end, opening_of, by_opening, deck_from}

-- what an index past the end reads
abbrev pub no_line : Line
no_line = record { number = 0; start = 0; end = 0 }

-- a section word opens its section in its order
pub in_order-word : (devices : List Device) (s : Sections) (number : ℕ) (text_of : Token → List ℕ) (tokens : List Token) (section : Section) (d : Token) →
    1 ≤ length tokens → Some section ≡ section_of (text_of (get_or tokens 0 d)) → (rest : List Token) → rest ≡ drop 1 tokens →
    in_order section s number (map text_of rest) ≡ by_tokens devices s number (map text_of tokens)
in_order-word devices s number text_of [] section d some is rest are = absurd (omega arith)
in_order-word devices s number text_of (token ∷ tokens) section d some is rest are =
    sym (
    ap (λ (o : Option Section). by_word devices o s number (text_of token) (map text_of tokens)) (sym is)
    ∙ ap (λ (ts : List Token). by_word devices (Some section) s number (text_of token) (map text_of ts)) (sym are))

-- ---- commands

-- these commands before the later ones
abbrev pub and_commands : List Line → Result (List Line) DeckFault → Result (List Line) DeckFault
and_commands commands (Ok later) = Ok (commands ++ later)
and_commands commands (Err fault) = Err fault

pub and_commands-none : (later : Result (List Line) DeckFault) → and_commands [] later ≡ later
and_commands-none (Ok later) = refl
and_commands-none (Err fault) = refl

and_commands-with : (commands : List Line) (line : Line) (later : Result (List Line) DeckFault) →
    and_commands commands (with_command line later) ≡ and_commands (commands ++ line ∷ []) later
and_commands-with commands line (Ok later) = ap (λ (ls : List Line). Ok ls) (sym (append_assoc commands (line ∷ []) later))
and_commands-with commands line (Err fault) = refl

module _ (bytes : List ℕ) (commands lines : List Line) (i : ℕ) (d : Line) (total : Result (List Line) DeckFault)
    (so_far : and_commands commands (commands_from bytes (drop i lines)) ≡ total) where
  by_tests : i < length lines → (long skipped : Bool) → is_long (part_of bytes (get_or lines i d)) ≡ long →
      is_comment (part_of bytes (get_or lines i d)) ≡ skipped →
      and_commands commands (if long then Err (BadLine (get_or lines i d).number)
      else (if skipped then commands_from bytes (drop (i + 1) lines) else with_command (get_or lines i d) (commands_from bytes (drop (i + 1) lines)))) ≡ total
  unfolding commands_from
  by_tests within long skipped is_1 is_2 =
      ap (λ (t : Bool). and_commands commands (if t then Err (BadLine (get_or lines i d).number)
      else (if skipped then commands_from bytes (drop (i + 1) lines) else with_command (get_or lines i d) (commands_from bytes (drop (i + 1) lines))))) (sym is_1)
      ∙ ap (λ (t : Bool). and_commands commands (if is_long (part_of bytes (get_or lines i d)) then Err (BadLine (get_or lines i d).number)
      else (if t then commands_from bytes (drop (i + 1) lines) else with_command (get_or lines i d) (commands_from bytes (drop (i + 1) lines))))) (sym is_2)
      ∙ ap (λ (ls : List Line). and_commands commands (commands_from bytes ls)) (sym (drop_more lines i d within)) ∙ so_far

  pub commands-long : i < length lines → is_long (part_of bytes (get_or lines i d)) ≡ true → total ≡ Err (BadLine (get_or lines i d).number)
  commands-long within long = sym (by_tests within true (is_comment (part_of bytes (get_or lines i d))) long refl)

  pub commands-skipped : i < length lines → is_long (part_of bytes (get_or lines i d)) ≡ false → is_comment (part_of bytes (get_or lines i d)) ≡ true →
      and_commands commands (commands_from bytes (drop (i + 1) lines)) ≡ total
  commands-skipped within short skipped = by_tests within false true short skipped

  pub commands-more : i < length lines → is_long (part_of bytes (get_or lines i d)) ≡ false → is_comment (part_of bytes (get_or lines i d)) ≡ false →
      (now : List Line) → now ≡ commands ++ get_or lines i d ∷ [] → and_commands now (commands_from bytes (drop (i + 1) lines)) ≡ total
  commands-more within short other now made =
      ap (λ (cs : List Line). and_commands cs (commands_from bytes (drop (i + 1) lines))) made
      ∙ sym (and_commands-with commands (get_or lines i d) (commands_from bytes (drop (i + 1) lines))) ∙ by_tests within false false short other

  pub commands-done : length lines ≤ i → total ≡ Ok commands
  unfolding commands_from
  commands-done all =
      sym so_far ∙ ap (λ (ls : List Line). and_commands commands (commands_from bytes ls)) (drop_all i lines all)
      ∙ ap (λ (cs : List Line). Ok cs) (append-nil commands)

-- ---- all lines after the program

module _ (devices : List Device) (bytes : List ℕ) (s : Sections) (lines : List Line) (i : ℕ) (d : Line) (total : Result Told DeckFault)
    (so_far : told_from devices bytes s (drop i lines) ≡ total) where
  by_after : i < length lines → (after : Result Sections DeckFault) →
      after_line devices s (get_or lines i d).number (part_of bytes (get_or lines i d)) ≡ after →
      and_then after (λ t. by_debug t (commands_from bytes (drop (i + 1) lines)) (told_from devices bytes t (drop (i + 1) lines))) ≡ total
  unfolding told_from
  by_after within after is =
      ap (λ (r : Result Sections DeckFault). and_then r (λ t. by_debug t (commands_from bytes (drop (i + 1) lines)) (told_from devices bytes t (drop (i + 1) lines)))) (sym is)
      ∙ ap (told_from devices bytes s) (sym (drop_more lines i d within)) ∙ so_far

  by_section : i < length lines → (t : Sections) → after_line devices s (get_or lines i d).number (part_of bytes (get_or lines i d)) ≡ Ok t →
      (debug : Bool) → debug ≡ is_debug t.section →
      (if debug then with_commands t (commands_from bytes (drop (i + 1) lines)) else told_from devices bytes t (drop (i + 1) lines)) ≡ total
  by_section within t is debug opens =
      ap (λ (b : Bool). if b then with_commands t (commands_from bytes (drop (i + 1) lines)) else told_from devices bytes t (drop (i + 1) lines)) opens
      ∙ by_after within (Ok t) is

  pub told-more : i < length lines → (t : Sections) → after_line devices s (get_or lines i d).number (part_of bytes (get_or lines i d)) ≡ Ok t →
      false ≡ is_debug t.section → told_from devices bytes t (drop (i + 1) lines) ≡ total
  told-more within t is other = by_section within t is false other

  -- the lines after DEBUG are its commands
  pub told-commands : i < length lines → (t : Sections) → after_line devices s (get_or lines i d).number (part_of bytes (get_or lines i d)) ≡ Ok t →
      true ≡ is_debug t.section → (rest : List Line) → rest ≡ drop (i + 1) lines → (commands : Result (List Line) DeckFault) → commands_from bytes rest ≡ commands →
      total ≡ with_commands t commands
  told-commands within t is debug rest are commands come =
      sym (ap (with_commands t) (sym come ∙ ap (commands_from bytes) are) ∙ by_section within t is true debug)

  pub told-bad : i < length lines → (fault : DeckFault) →
      after_line devices s (get_or lines i d).number (part_of bytes (get_or lines i d)) ≡ Err fault → total ≡ Err fault
  told-bad within fault is = sym (by_after within (Err fault) is)

  pub told-done : length lines ≤ i → (none : List Line) → none ≡ [] → total ≡ Ok (record { sections = s; commands = none })
  unfolding told_from
  told-done all none is =
      sym so_far ∙ ap (told_from devices bytes s) (drop_all i lines all) ∙ ap (λ (cs : List Line). Ok (record { sections = s; commands = cs })) (sym is)

-- ---- the deck

-- a program that ends, and lines after it that tell something
pub end-told : (kind : ProgramKind) (devices : List Device) (debugging : Bool) (bytes : List ℕ) (next number : ℕ) (lines : List Line) (at : ℕ) →
    end_of bytes lines ≡ Some at → (text rest : List Line) → text ≡ take (at + 1) lines → rest ≡ drop (at + 1) lines → (s : Sections) → s ≡ nothing_said kind →
    (told : Told) → told_from devices bytes s rest ≡ Ok told →
    by_end kind devices debugging bytes next number lines (end_of bytes lines) ≡ with_program kind bytes text debugging next told
end-told kind devices debugging bytes next number lines at ends text rest front back s begins told is =
    ap (by_end kind devices debugging bytes next number lines) ends
    ∙ ap (λ (ls : List Line). and_then (told_from devices bytes (nothing_said kind) ls) (with_program kind bytes (take (at + 1) lines) debugging next)) (sym back)
    ∙ ap (λ (t : Sections). and_then (told_from devices bytes t rest) (with_program kind bytes (take (at + 1) lines) debugging next)) (sym begins)
    ∙ ap (λ (r : Result Told DeckFault). and_then r (with_program kind bytes (take (at + 1) lines) debugging next)) is
    ∙ ap (λ (ls : List Line). with_program kind bytes ls debugging next told) (sym front)

module _ (devices : List Device) (debugging : Bool) (bytes : List ℕ) (next : ℕ) (lines : List Line) (i : ℕ) (d : Line) (total : Result Deck DeckFault)
    (so_far : deck_from devices debugging bytes next (drop i lines) ≡ total) where
  pub deck-by : i < length lines → (what : Opening) → what ≡ opening_of (part_of bytes (get_or lines i d)) →
      by_opening devices debugging bytes next (get_or lines i d).number (drop (i + 1) lines) what (deck_from devices debugging bytes next (drop (i + 1) lines)) ≡ total
  unfolding deck_from
  deck-by within what is =
      ap (λ (o : Opening). by_opening devices debugging bytes next (get_or lines i d).number (drop (i + 1) lines) o (deck_from devices debugging bytes next (drop (i + 1) lines))) is
      ∙ ap (deck_from devices debugging bytes next) (sym (drop_more lines i d within)) ∙ so_far

  -- from the line IMAGE or SOURCE on
  pub deck-program : i < length lines → (kind : ProgramKind) → opening.Program kind ≡ opening_of (part_of bytes (get_or lines i d)) → (rest : List Line) → rest ≡ drop (i + 1) lines →
      by_end kind devices debugging bytes next (get_or lines i d).number rest (end_of bytes rest) ≡ total
  deck-program within kind is rest are =
      ap (λ (ls : List Line). by_end kind devices debugging bytes next (get_or lines i d).number ls (end_of bytes ls)) are ∙ deck-by within (opening.Program kind) is

  pub deck-none : length lines ≤ i → total ≡ Err (NoProgram next)
  unfolding deck_from
  deck-none all = sym so_far ∙ ap (deck_from devices debugging bytes next) (drop_all i lines all)
