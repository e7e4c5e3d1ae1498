-- Worked expansions, each refusal where it is the first, and each limit with what is one beyond it.
use Rattle.std.proofs.Common.{◌≡◌, ℕ, ◌+◌, true, false, List, [], ◌∷◌, Result, Ok, Err, refl, codes}
use Rattle.std.specs.Prelude.{◌++◌}
use Rattle.lvdc_text.specs.Lines.{NumberedLine}
use Rattle.lvdc_source.specs.Lines.{parts_of}
use Rattle.lvdc_source.specs.Names.{is_name}
use Rattle.lvdc_source.specs.Operations.{operation_of}
use Rattle.lvdc_macro.specs.declared.fault.MacroFault.{MacroFault}
use Rattle.lvdc_macro.specs.declared.fault.MacroFault.TheVariants.{NoMemory, BadMacro, TooDeep, TooManyCalls, ExpansionTooLong}
use Rattle.lvdc_macro.specs.Expansion.{Written, Progress, write, pieces, called, expanded_from, expansion_of, bytes_of}
use Rattle.lvdc_macro.specs.Faults.{name_of, line_of}
use Rattle.lvdc_macro.specs.Macros.{body_of, is_reserved}
use Rattle.lvdc_macro.specs.Substitution.{arguments_of, three_digits, stands_for, substituted}

-- lines numbered from this one on
from : ℕ → List (List ℕ) → List NumberedLine
from number [] = []
from number (text ∷ texts) = record { number = number; text = text } ∷ from (number + 1) texts

-- what a source of these lines is written out to
written_out : List (List ℕ) → Result (List Written) MacroFault
written_out texts = expansion_of (from 1 texts)

-- a line of an expansion, and the source line that it came from
line : ℕ → List ℕ → Written
line origin text = record { text = text; origin = origin }

-- how far an expansion has come
far : ℕ → ℕ → Progress
far calls size = record { calls = calls; size = size }

-- ---- whole sources

-- a macro with two arguments, of which one is put in twice
doubled : written_out
    (codes "DOUBLE  MACRO" ∷ codes "        CLA   &1" ∷ codes "        ADD   &1" ∷ codes "        STO   &2" ∷ codes "        MEND"
    ∷ codes "        ORG   0,00,0,000" ∷ codes "        DOUBLE X,X+1" ∷ codes "        WORDS 0,01,000" ∷ codes "X       OCT   5" ∷ codes "        BSS   1"
    ∷ codes "        END" ∷ [])
    ≡ Ok
    (line 6 (codes "        ORG   0,00,0,000") ∷ line 7 (codes "        CLA   X") ∷ line 7 (codes "        ADD   X") ∷ line 7 (codes "        STO   X+1")
    ∷ line 8 (codes "        WORDS 0,01,000") ∷ line 9 (codes "X       OCT   5") ∷ line 10 (codes "        BSS   1") ∷ line 11 (codes "        END") ∷ [])
unfolding written_out from line expanded_from called pieces parts_of body_of is_name operation_of substituted
doubled = refl

-- calls have their numbers in the order in which they begin, and all lines of a call that of its source line
numbered_calls : written_out
    (codes "IN      MACRO" ∷ codes "I&0     TRA   &1&2" ∷ codes "        MEND" ∷ codes "OUT     MACRO" ∷ codes "A&0     CLA   &1" ∷ codes "        IN    &2,&1"
    ∷ codes "B&0     ADD   &9&1" ∷ codes "* OF &0" ∷ codes "        MEND" ∷ codes "        OUT   X,Y" ∷ codes "        IN    Z" ∷ [])
    ≡ Ok
    (line 10 (codes "A001     CLA   X") ∷ line 10 (codes "I002     TRA   YX") ∷ line 10 (codes "B001     ADD   X") ∷ line 10 (codes "* OF 001")
    ∷ line 11 (codes "I003     TRA   Z") ∷ [])
unfolding written_out from line expanded_from called pieces parts_of body_of is_name operation_of substituted
numbered_calls = refl

-- a name is text before its macro was ended, also inside of that macro, which then calls itself; comments are text everywhere
before_its_end : written_out
    (codes "        M     5" ∷ codes "* MACRO" ∷ codes "M       MACRO" ∷ codes "        CLA   &1" ∷ [] ∷ codes "*       MEND" ∷ codes "        MEND" ∷ codes "        M     5" ∷ [])
    ≡ Ok
    (line 1 (codes "        M     5") ∷ line 2 (codes "* MACRO") ∷ line 8 (codes "        CLA   5") ∷ line 8 [] ∷ line 8 (codes "*       MEND") ∷ [])
unfolding written_out from line expanded_from called pieces parts_of body_of is_name operation_of substituted
before_its_end = refl

-- nine arguments, of which one is missing
nine : written_out
    (codes "M       MACRO" ∷ codes "        &1    &8&9" ∷ codes "        MEND" ∷ codes "        M     CLA,2,3,4,5,6,7,8," ∷ [])
    ≡ Ok (line 4 (codes "        CLA    8") ∷ [])
unfolding written_out from line expanded_from called pieces parts_of body_of is_name operation_of substituted
nine = refl

ten : written_out
    (codes "M       MACRO" ∷ codes "        MEND" ∷ codes "        M     1,2,3,4,5,6,7,8,9," ∷ [])
    ≡ Err (BadMacro 3)
unfolding written_out from expanded_from called pieces parts_of body_of is_name operation_of substituted
ten = refl

-- as bytes each line ends with LF
ended_lines : bytes_of (line 3 (codes "A") ∷ line 3 [] ∷ line 7 (codes "BC") ∷ []) ≡ codes "A\n\nBC\n"
unfolding line bytes_of
ended_lines = refl

-- ---- definitions that are refused

without_a_name : written_out (codes "        MACRO" ∷ codes "        MEND" ∷ []) ≡ Err (BadMacro 1)
unfolding written_out from expanded_from called pieces parts_of body_of is_name operation_of substituted
without_a_name = refl

no_name : written_out (codes "m       MACRO" ∷ codes "        MEND" ∷ []) ≡ Err (BadMacro 1)
unfolding written_out from expanded_from called pieces parts_of body_of is_name operation_of substituted
no_name = refl

-- an operation, EXM, a directive and the two words of macros are no names of macros
reserved : (is_reserved (codes "CLA") ≡ true) × (is_reserved (codes "EXM") ≡ true) × (is_reserved (codes "END") ≡ true) × (is_reserved (codes "MACRO") ≡ true)
    × (is_reserved (codes "MEND") ≡ true) × (is_reserved (codes "DOUBLE") ≡ false)
unfolding operation_of
reserved = (refl, refl, refl, refl, refl, refl)

operation_as_a_name : written_out (codes "CLA     MACRO" ∷ codes "        MEND" ∷ []) ≡ Err (BadMacro 1)
unfolding written_out from expanded_from called pieces parts_of body_of is_name operation_of substituted
operation_as_a_name = refl

defined_twice : written_out (codes "M       MACRO" ∷ codes "        MEND" ∷ codes "M       MACRO" ∷ codes "        MEND" ∷ []) ≡ Err (BadMacro 3)
unfolding written_out from expanded_from called pieces parts_of body_of is_name operation_of substituted
defined_twice = refl

-- a definition inside of one
inside : written_out (codes "M       MACRO" ∷ codes "N       MACRO" ∷ codes "        MEND" ∷ []) ≡ Err (BadMacro 2)
unfolding written_out from expanded_from called pieces parts_of body_of is_name operation_of substituted
inside = refl

end_of_nothing : written_out (codes "        CODE" ∷ codes "        MEND" ∷ []) ≡ Err (BadMacro 2)
unfolding written_out from expanded_from called pieces parts_of body_of is_name operation_of substituted
end_of_nothing = refl

labelled_end : written_out (codes "M       MACRO" ∷ codes "M       MEND" ∷ []) ≡ Err (BadMacro 2)
unfolding written_out from expanded_from called pieces parts_of body_of is_name operation_of substituted
labelled_end = refl

-- an end that is missing is refused one line behind the last
missing_end : written_out (codes "M       MACRO" ∷ codes "        CODE" ∷ []) ≡ Err (BadMacro 3)
unfolding written_out from expanded_from called pieces parts_of body_of is_name operation_of substituted
missing_end = refl

nothing_at_all : written_out [] ≡ Ok []
unfolding written_out from expanded_from
nothing_at_all = refl

-- ---- calls that are refused

labelled_call : written_out (codes "M       MACRO" ∷ codes "        MEND" ∷ codes "X       M" ∷ []) ≡ Err (BadMacro 3)
unfolding written_out from expanded_from called pieces parts_of body_of is_name operation_of substituted
labelled_call = refl

-- what a call makes of a line of its body may end or begin no macro
end_put_in : written_out (codes "M       MACRO" ∷ codes "        &1" ∷ codes "        MEND" ∷ codes "        M     MEND" ∷ []) ≡ Err (BadMacro 4)
unfolding written_out from expanded_from called pieces parts_of body_of is_name operation_of substituted
end_put_in = refl

begin_put_in : written_out (codes "M       MACRO" ∷ codes "N       &1" ∷ codes "        MEND" ∷ codes "        M     MACRO" ∷ []) ≡ Err (BadMacro 4)
unfolding written_out from expanded_from called pieces parts_of body_of is_name operation_of substituted
begin_put_in = refl

-- a call that is put in is made
call_put_in : written_out (codes "N       MACRO" ∷ codes "        CLA   &1" ∷ codes "        MEND" ∷ codes "M       MACRO" ∷ codes "        &1    7" ∷ codes "        MEND" ∷ codes "        M     N" ∷ [])
    ≡ Ok (line 7 (codes "        CLA   7") ∷ [])
unfolding written_out from line expanded_from called pieces parts_of body_of is_name operation_of substituted
call_put_in = refl

-- a macro that calls itself
endless : written_out (codes "LOOP    MACRO" ∷ codes "        LOOP" ∷ codes "        MEND" ∷ codes "        LOOP" ∷ codes "        END" ∷ []) ≡ Err (TooDeep 4)
unfolding written_out from expanded_from called pieces parts_of body_of is_name operation_of substituted
endless = refl

-- ---- limits

-- seventeen macros, each of which but the last calls the next one
chain : List (List ℕ)
chain =
    codes "A MACRO" ∷ codes " B" ∷ codes " MEND" ∷ codes "B MACRO" ∷ codes " C" ∷ codes " MEND" ∷ codes "C MACRO" ∷ codes " D" ∷ codes " MEND"
    ∷ codes "D MACRO" ∷ codes " E" ∷ codes " MEND" ∷ codes "E MACRO" ∷ codes " F" ∷ codes " MEND" ∷ codes "F MACRO" ∷ codes " G" ∷ codes " MEND"
    ∷ codes "G MACRO" ∷ codes " H" ∷ codes " MEND" ∷ codes "H MACRO" ∷ codes " I" ∷ codes " MEND" ∷ codes "I MACRO" ∷ codes " J" ∷ codes " MEND"
    ∷ codes "J MACRO" ∷ codes " K" ∷ codes " MEND" ∷ codes "K MACRO" ∷ codes " L" ∷ codes " MEND" ∷ codes "L MACRO" ∷ codes " M" ∷ codes " MEND"
    ∷ codes "M MACRO" ∷ codes " N" ∷ codes " MEND" ∷ codes "N MACRO" ∷ codes " O" ∷ codes " MEND" ∷ codes "O MACRO" ∷ codes " P" ∷ codes " MEND"
    ∷ codes "P MACRO" ∷ codes " Q" ∷ codes " MEND" ∷ codes "Q MACRO" ∷ codes "X&0" ∷ codes " MEND" ∷ []

-- sixteen levels of calls
sixteen_levels : written_out (chain ++ codes " B" ∷ []) ≡ Ok (line 52 (codes "X016") ∷ [])
unfolding written_out chain from line expanded_from called pieces parts_of body_of is_name operation_of substituted
sixteen_levels = refl

seventeen_levels : written_out (chain ++ codes " A" ∷ []) ≡ Err (TooDeep 52)
unfolding written_out chain from expanded_from called pieces parts_of body_of is_name operation_of substituted
seventeen_levels = refl

-- 999 calls, and one more
last_call : called 1 [] 5 (far 998 0) false [] (codes "X&0" ∷ []) ≡ Ok (record { lines = line 5 (codes "X999") ∷ []; after = far 999 5 })
unfolding line far called pieces parts_of body_of substituted
last_call = refl

one_call_more : called 1 [] 5 (far 999 0) false [] (codes "X&0" ∷ []) ≡ Err (TooManyCalls 5)
unfolding far called pieces parts_of body_of substituted
one_call_more = refl

-- where a call is one too deep and one too many, and where its form is wrong too
too_deep_first : called 0 [] 5 (far 999 0) false [] [] ≡ Err (TooDeep 5)
unfolding far called
too_deep_first = refl

form_first : called 0 [] 5 (far 999 0) true [] [] ≡ Err (BadMacro 5)
unfolding far called
form_first = refl

-- 1,048,576 bytes, and one more; each line counts with its LF
longest : write 5 (far 0 1048570) (codes "HELLO") ≡ Ok (record { lines = line 5 (codes "HELLO") ∷ []; after = far 0 1048576 })
unfolding line far
longest = refl

one_byte_more : write 5 (far 0 1048571) (codes "HELLO") ≡ Err (ExpansionTooLong 5)
unfolding far
one_byte_more = refl

-- ---- what is put in

arguments : (arguments_of [] ≡ []) × (arguments_of (codes "A,,B") ≡ codes "A" ∷ [] ∷ codes "B" ∷ []) × (arguments_of (codes ",") ≡ [] ∷ [] ∷ [])
arguments = (refl, refl, refl)

-- a call's number has its hundreds, tens and ones
call_numbers : (three_digits 7 ≡ codes "007") × (three_digits 80 ≡ codes "080") × (three_digits 905 ≡ codes "905") × (three_digits 999 ≡ codes "999")
call_numbers = (refl, refl, refl, refl)

-- 0 is the call's number, a digit that argument, and nothing where it is missing
put_in : (stands_for 123 (codes "X" ∷ codes "Y" ∷ []) 48 ≡ codes "123") × (stands_for 1 (codes "X" ∷ codes "Y" ∷ []) 50 ≡ codes "Y") × (stands_for 1 (codes "X" ∷ []) 50 ≡ [])
put_in = (refl, refl, refl)

-- what is put in isn't looked at again; `&` before anything else, and at the end, stays
ampersands : substituted 42 (codes "&0" ∷ codes "B" ∷ []) (codes "&1&&2&A&0&") ≡ codes "&0&B&A042&"
unfolding substituted
ampersands = refl

-- ---- what is told

causes : (name_of NoMemory ≡ codes "NoMemory") × (name_of (BadMacro 1) ≡ codes "BadMacro") × (name_of (TooDeep 1) ≡ codes "TooDeep")
    × (name_of (TooManyCalls 1) ≡ codes "TooManyCalls") × (name_of (ExpansionTooLong 1) ≡ codes "ExpansionTooLong")
causes = (refl, refl, refl, refl, refl)

lines_told : (line_of NoMemory ≡ 0) × (line_of (BadMacro 7) ≡ 7) × (line_of (TooDeep 8) ≡ 8) × (line_of (TooManyCalls 9) ≡ 9) × (line_of (ExpansionTooLong 10) ≡ 10)
lines_told = (refl, refl, refl, refl, refl)
