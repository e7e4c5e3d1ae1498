-- Worked decks.
use Rattle.std.proofs.Common.{◌≡◌, ℕ, true, false, List, [], ◌∷◌, ◌++◌, replicate, reverse, length, Ok, Err, None, Some, Result, refl, codes}
use Rattle.lvdc_map.specs.Hop.{hop_of}
use Rattle.lvdc_text.specs.Lines.{lines_from, tokens_from}
use Rattle.lvdc_text.specs.Numbers.{word_in}
use Rattle.lvdc_port.specs.Device.{Device}
use Rattle.lvdc_port.specs.declared.device.Kind.TheVariants.{Tape, Latch}
use Rattle.lvdc_text.specs.Joined.{text_of}
use Rattle.lvdc_image.specs.Reading.{words_from as words_told, entry_in, banks_in, banks_named, image_of}
use Rattle.lvdc_image.specs.declared.fault.ImageFault.TheVariants.{BadImageLine}
use Rattle.lvdc_fault.specs.declared.event.Event.{Event}
use Rattle.lvdc_fault.specs.declared.event.Event.TheVariants.{Lag}
use Rattle.lvdc_lines.specs.Fields.{module_copy_in, span_in, step_in}
use Rattle.lvdc_orders.specs.Orders.{plain_order}
use Rattle.lvdc_source.specs.Lines.{parts_of}
use Rattle.lvdc_source.specs.Names.{is_name}
use Rattle.lvdc_source.specs.Operands.{body_in}
use Rattle.lvdc_source.specs.Operations.{operation_of}
use Rattle.lvdc_source.specs.Source.{meaning_of, items_from}
use Rattle.lvdc_source.specs.declared.fault.SourceFault.TheVariants.{UnknownOperation}
use Rattle.lvdc_asm.specs.declared.fault.AsmFault.TheVariants.{UndefinedName, OutOfSector, Source as OfSource}
use Rattle.lvdc_deck.specs.Sections.{Sections, port_in, time_in, words_in, with_event, entry_in as entry_point_in}
use Rattle.lvdc_deck.specs.Deck.{commands_from, told_from, constant_by, deck_from, deck_of}
use Rattle.lvdc_deck.specs.declared.deck.Deck.{Deck}
use Rattle.lvdc_deck.specs.declared.fault.DeckFault.{DeckFault}
use Rattle.lvdc_deck.specs.declared.fault.DeckFault.TheVariants.{BadSection, BadLine, NoProgram, NoDevice, TooManyEvents, CountTooLarge, Image, Asm}
use Rattle.lvdc_deck.specs.declared.entry.EntryPoint.TheVariants.{Constant, Name}
use Rattle.lvdc_deck.specs.declared.section.ProgramKind.TheVariants as kinds

-- a tape at port 000 and a latch at port 014
devices : List Device
devices = record { port = 0; kind = Tape; state = [] } ∷ record { port = 0o14; kind = Latch; state = 0 ∷ [] } ∷ []

-- the deck of these lines
meaning : List (List ℕ) → Result Deck DeckFault
meaning lines = deck_of (text_of lines) devices false

-- the same where a debugger's session is asked for
session : List (List ℕ) → Result Deck DeckFault
session lines = deck_of (text_of lines) devices true

-- the deck of an empty image with these lines after it, from line 4 on
after_image : List (List ℕ) → Result Deck DeckFault
after_image lines = meaning (codes "IMAGE" ∷ codes "LVDC 1" ∷ codes "END" ∷ lines)

no_line : meaning [] ≡ Err (NoProgram 1)
unfolding meaning lines_from deck_from
no_line = refl

no_end : meaning (codes "IMAGE" ∷ codes "LVDC 1" ∷ []) ≡ Err (BadSection 1)
unfolding meaning lines_from tokens_from deck_from
no_end = refl

word_after_image : meaning (codes "IMAGE X" ∷ []) ≡ Err (NoProgram 1)
unfolding meaning lines_from tokens_from deck_from
word_after_image = refl

comments_alone : meaning (codes "* NONE" ∷ codes " " ∷ []) ≡ Err (NoProgram 3)
unfolding meaning lines_from tokens_from deck_from
comments_alone = refl

long_comment : meaning ((codes "*" ++ replicate 120 65) ∷ codes "IMAGE" ∷ []) ≡ Err (BadLine 1)
unfolding meaning lines_from tokens_from deck_from
long_comment = refl

open_source : meaning (codes "SOURCE" ∷ codes "        CODE" ∷ []) ≡ Err (BadSection 1)
unfolding meaning lines_from tokens_from deck_from
open_source = refl

no_run : after_image [] ≡ Err (BadSection 4)
unfolding after_image meaning devices lines_from tokens_from told_from deck_from
no_run = refl

the_greatest_count : after_image (codes "RUN 1000000" ∷ []) ≡
    Ok (record { image = record { words = []; start = None; banks = 0 }; start = hop_of 0o16; banks = 0; supplies = []; unplugs = []; script = []; orders = []; count = 1000000; commands = []; run_line = 4; other_line = None })
unfolding after_image meaning devices lines_from tokens_from told_from deck_from words_told image_of
the_greatest_count = refl

one_time_too_many : after_image (codes "RUN 1000001" ∷ []) ≡ Err (CountTooLarge 4)
unfolding after_image meaning devices lines_from tokens_from told_from deck_from
one_time_too_many = refl

no_count : after_image (codes "RUN 1x" ∷ []) ≡ Err (BadLine 4)
unfolding after_image meaning devices lines_from tokens_from told_from deck_from
no_count = refl

two_counts : after_image (codes "RUN 3 4" ∷ []) ≡ Err (BadLine 4)
unfolding after_image meaning devices lines_from tokens_from told_from deck_from
two_counts = refl

start_after_run : after_image (codes "RUN 3" ∷ codes "START 16" ∷ []) ≡ Err (BadSection 5)
unfolding after_image meaning devices lines_from tokens_from told_from deck_from
start_after_run = refl

start_alone : after_image (codes "START" ∷ []) ≡ Err (BadLine 4)
unfolding after_image meaning devices lines_from tokens_from told_from deck_from
start_alone = refl

no_start_of_27_bits : after_image (codes "START 400000000" ∷ []) ≡ Err (BadLine 4)
unfolding word_in after_image meaning devices lines_from tokens_from told_from deck_from
no_start_of_27_bits = refl

falling_pairs : after_image (codes "SIMPLEX 1 0" ∷ []) ≡ Err (BadLine 4)
unfolding after_image meaning devices lines_from tokens_from told_from deck_from
falling_pairs = refl

ports_with_more : after_image (codes "PORTS X" ∷ []) ≡ Err (BadLine 4)
unfolding after_image meaning devices lines_from tokens_from told_from deck_from
ports_with_more = refl

ports_with_more_out_of_place : after_image (codes "RUN 3" ∷ codes "PORTS X" ∷ []) ≡ Err (BadSection 5)
unfolding after_image meaning devices lines_from tokens_from told_from deck_from
ports_with_more_out_of_place = refl

-- after DEBUG there is no RUN, since each line is a command
debug_before_run : after_image (codes "DEBUG" ∷ codes "RUN 3" ∷ []) ≡ Err (BadSection 6)
unfolding after_image meaning devices lines_from tokens_from commands_from told_from deck_from
debug_before_run = refl

debug_with_more : after_image (codes "RUN 3" ∷ codes "DEBUG X" ∷ []) ≡ Err (BadLine 5)
unfolding after_image meaning devices lines_from tokens_from told_from deck_from
debug_with_more = refl

debug_after_debug : after_image (codes "DEBUG" ∷ codes "DEBUG" ∷ []) ≡ Err (BadSection 6)
unfolding after_image meaning devices lines_from tokens_from commands_from told_from deck_from
debug_after_debug = refl

long_command : after_image (codes "RUN 3" ∷ codes "DEBUG" ∷ (codes "*" ++ replicate 120 65) ∷ []) ≡ Err (BadLine 6)
unfolding after_image meaning devices lines_from tokens_from commands_from told_from deck_from
long_command = refl

no_session : session (codes "IMAGE" ∷ codes "LVDC 1" ∷ codes "END" ∷ codes "RUN 3" ∷ []) ≡ Err (BadSection 5)
unfolding session devices lines_from tokens_from told_from deck_from
no_session = refl

-- section words are commands there, and so is a line that no debugger knows
a_session : session (codes "IMAGE" ∷ codes "LVDC 1" ∷ codes "END" ∷ codes "RUN 3" ∷ codes "DEBUG" ∷ codes "* NOTE" ∷ [] ∷ codes "RUN 4" ∷ codes " START" ∷ []) ≡
    Ok (record {
      image = record { words = []; start = None; banks = 0 };
      start = hop_of 0o16;
      banks = 0;
      supplies = [];
      unplugs = [];
      script = [];
      orders = [];
      count = 3;
      commands = record { number = 8; start = 37; end = 42 } ∷ record { number = 9; start = 43; end = 49 } ∷ [];
      run_line = 4;
      other_line = Some 5;
    })
unfolding session devices lines_from tokens_from commands_from told_from deck_from words_told image_of
a_session = refl

-- a refusal inside the source names the line of the whole input
no_operation : meaning (codes "* A SOURCE" ∷ codes "SOURCE" ∷ codes "        CODE" ∷ codes "X" ∷ codes "END" ∷ codes "RUN 3" ∷ []) ≡ Err (Asm (OfSource (UnknownOperation 4)))
unfolding meaning devices lines_from tokens_from told_from deck_from items_from meaning_of parts_of operation_of body_in is_name
no_operation = refl

-- the sections come before the program
no_run_first : meaning (codes "SOURCE" ∷ codes "X" ∷ codes "END" ∷ codes "START MAIN" ∷ []) ≡ Err (BadSection 5)
unfolding word_in is_name meaning devices lines_from tokens_from told_from deck_from
no_run_first = refl

-- START names a constant or, after SOURCE, a name
a_constant : entry_point_in kinds.Source 4 (codes "16") ≡ Some (Constant (hop_of 0o16))
unfolding word_in
a_constant = refl

a_name : entry_point_in kinds.Source 4 (codes "MAIN") ≡ Some (Name 4 (codes "MAIN"))
unfolding word_in is_name
a_name = refl

no_form : (entry_point_in kinds.Image 4 (codes "MAIN") ≡ None) × (entry_point_in kinds.Source 4 (codes "400000000") ≡ None) × (entry_point_in kinds.Source 4 (codes "ANAMETHAT") ≡ None)
unfolding word_in is_name
no_form = (refl, refl, refl)

-- a name that no line has, and one that isn't that of a line of code
no_constant : (constant_by 9 false None ≡ Err (Asm (UndefinedName 9))) × (constant_by 9 true None ≡ Err (Asm (OutOfSector 9)))
no_constant = (refl, refl)

faults_with_more : after_image (codes "FAULTS 1" ∷ []) ≡ Err (BadLine 4)
unfolding after_image meaning devices lines_from tokens_from told_from deck_from
faults_with_more = refl

faults_after_order : after_image (codes "ORDER" ∷ codes "FAULTS" ∷ []) ≡ Err (BadSection 5)
unfolding after_image meaning devices lines_from tokens_from told_from deck_from
faults_after_order = refl

-- a module of a fault line is 1 to 7
no_module : after_image (codes "FAULTS" ∷ codes "LAG 8 1 0 0" ∷ []) ≡ Err (BadLine 5)
unfolding after_image meaning devices lines_from tokens_from told_from deck_from module_copy_in span_in step_in
no_module = refl

-- a letter of an order line stands once
letter_twice : after_image (codes "ORDER" ∷ codes "UTSRQPONMLKJIHGFEDCBB" ∷ []) ≡ Err (BadLine 5)
unfolding after_image meaning devices lines_from tokens_from told_from deck_from
letter_twice = refl

no_words : after_image (codes "PORTS" ∷ codes "TAPE 016" ∷ []) ≡ Err (BadLine 5)
unfolding after_image meaning devices lines_from tokens_from told_from deck_from
no_words = refl

no_tape : after_image (codes "PORTS" ∷ codes "TAPE 014 1" ∷ []) ≡ Err (NoDevice 5)
unfolding word_in after_image meaning devices lines_from tokens_from told_from deck_from
no_tape = refl

tape_taken_away : after_image (codes "PORTS" ∷ codes "UNPLUG 000 5" ∷ codes "TAPE 000 1" ∷ []) ≡ Err (NoDevice 6)
unfolding word_in after_image meaning devices lines_from tokens_from told_from deck_from
tape_taken_away = refl

needless_zero : after_image (codes "PORTS" ∷ codes "UNPLUG 000 05" ∷ []) ≡ Err (BadLine 5)
unfolding after_image meaning devices lines_from tokens_from told_from deck_from
needless_zero = refl

-- the greatest time of an UNPLUG line
unplugged_last : (time_in (codes "1000000") ≡ Some 1000000) × (time_in (codes "1000001") ≡ None)
unplugged_last = (refl, refl)

unplugged_too_late : after_image (codes "PORTS" ∷ codes "UNPLUG 000 1000001" ∷ []) ≡ Err (BadLine 5)
unfolding after_image meaning devices lines_from tokens_from told_from deck_from
unplugged_too_late = refl

-- the greatest port
greatest_port : (port_in (codes "377") ≡ Some 0o377) × (port_in (codes "400") ≡ None)
greatest_port = (refl, refl)

port_past_it : after_image (codes "PORTS" ∷ codes "TAPE 400 1" ∷ []) ≡ Err (BadLine 5)
unfolding word_in after_image meaning devices lines_from tokens_from told_from deck_from
port_past_it = refl

-- a word has nine digits at most
nine_digits : (words_in (codes "377777777" ∷ []) ≡ Some (0o377777777 ∷ [])) × (words_in (codes "0000000001" ∷ []) ≡ None)
unfolding word_in
nine_digits = (refl, refl)

-- a comment begins with its `*`
blank_before_a_comment : after_image (codes " * NOTE" ∷ []) ≡ Err (BadSection 4)
unfolding after_image meaning devices lines_from tokens_from told_from deck_from
blank_before_a_comment = refl

-- the 65,536th event is the last one
last_event : (s : Sections) (number : ℕ) (event : Event) → length s.script ≡ 65535
    → with_event s number (Some event) ≡ Ok (record s { script = s.script ++ event ∷ [] })
last_event s number event few = rw few refl

one_event_too_many : (s : Sections) (number : ℕ) (event : Event) → length s.script ≡ 65536 → with_event s number (Some event) ≡ Err (TooManyEvents number)
one_event_too_many s number event few = rw few refl

-- the sections are read before the image
image_last : meaning (codes "IMAGE" ∷ codes "LVDC 3" ∷ codes "END" ∷ codes "RUN 3" ∷ []) ≡ Err (Image (BadImageLine 2))
unfolding meaning devices lines_from tokens_from told_from deck_from image_of
image_last = refl

whole : after_image (codes "START 000000216" ∷ codes "SIMPLEX 0 3" ∷ codes " PORTS" ∷ codes "* TWO WORDS" ∷ codes "TAPE 0 5 7" ∷ codes "UNPLUG 14 3" ∷ codes "FAULTS" ∷ codes "LAG 2 3 0 8" ∷ codes "ORDER" ∷ codes "UTSRQPONMLKJIHGFEDCBA" ∷ codes "RUN 4" ∷ []) ≡
    Ok (record {
      image = record { words = []; start = None; banks = 0 };
      start = hop_of 0o216;
      banks = 9;
      supplies = record { port = 0; word = 5 } ∷ record { port = 0; word = 7 } ∷ [];
      unplugs = record { port = 0o14; time = 3 } ∷ [];
      script = Lag 2 3 0 8 ∷ [];
      orders = reverse plain_order ∷ [];
      count = 4;
      commands = [];
      run_line = 14;
      other_line = Some 6;
    })
unfolding word_in after_image meaning devices lines_from tokens_from told_from deck_from words_told image_of module_copy_in span_in step_in
whole = refl

-- the start constant and the simplex pairs of the image
from_the_image : meaning (codes "IMAGE" ∷ codes "LVDC 2" ∷ codes "START 000000216" ∷ codes "SIMPLEX 1" ∷ codes "END" ∷ codes "SIMPLEX 0" ∷ codes "RUN 4" ∷ []) ≡
    Ok (record { image = record { words = []; start = Some (hop_of 0o216); banks = 2 }; start = hop_of 0o216; banks = 3; supplies = []; unplugs = []; script = []; orders = []; count = 4; commands = []; run_line = 7; other_line = None })
unfolding meaning devices lines_from tokens_from told_from deck_from words_told entry_in banks_in banks_named image_of
from_the_image = refl
