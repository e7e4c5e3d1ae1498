-- Worked lines of a deck's sections: numbers at their limits, lists in their order, and refusals. And what stands around them.
use Rattle.std.proofs.Common.{◌≡◌, ℕ, List, [], ◌∷◌, ◌++◌, false, true, Some, None, Result, Ok, Err, map, option_map, replicate, length, slice_index, nat_lt, refl}
use Rattle.std.specs.Prelude.{codes}
use Rattle.lvdc_fault.specs.declared.event.Event.TheVariants.{Lag}
use Rattle.lvdc_image.specs.Reading.{image_of, words_from as words_told}
use Rattle.lvdc_lines.specs.Fields.{module_copy_in, span_in, step_in}
use Rattle.lvdc_map.specs.Hop.{hop_of}
use Rattle.lvdc_port.specs.Device.{Device}
use Rattle.lvdc_port.specs.declared.device.Kind.TheVariants.{Tape}
use Rattle.lvdc_text.specs.Joined.{text_of}
use Rattle.lvdc_text.specs.Lines.{lines_from, tokens_from, lines_of, part_of}
use Rattle.lvdc_text.specs.Numbers.{word_in}
use Rattle.lvdc_deck.specs.Deck.{told_from, deck_from, deck_of, after_program, constant_by}
use Rattle.lvdc_deck.specs.Loading.{source_in, source_from}
use Rattle.lvdc_deck.specs.Sections.{port_in, pairs_from}
use Rattle.lvdc_deck.specs.declared.deck.Deck.{Deck}
use Rattle.lvdc_deck.specs.declared.fault.DeckFault.{DeckFault}
use Rattle.lvdc_deck.specs.declared.fault.DeckFault.TheVariants.{BadLine, NoDevice}

-- tapes at ports 001 and 002
tapes : List Device
tapes = record { port = 1; kind = Tape; state = [] } ∷ record { port = 2; kind = Tape; state = [] } ∷ []

-- the deck of an empty image with these lines after it, from line 4 on
after_image : List (List ℕ) → Result Deck DeckFault
after_image lines = deck_of (text_of (codes "IMAGE" ∷ codes "LVDC 1" ∷ codes "END" ∷ lines)) tapes false

-- what is asked of a deck, where it is one
asked : {T : Type 0} → (Deck → T) → Result Deck DeckFault → Result T DeckFault
asked of (Ok deck) = Ok (of deck)
asked of (Err fault) = Err fault

-- ---- numbers: a port has three digits, RUN nine

a_port_of_four_digits : port_in (codes "0017") ≡ None
a_port_of_four_digits = refl

nine_digits_of_run : asked (λ deck. deck.count) (after_image (codes "RUN 000000001" ∷ [])) ≡ Ok 1
unfolding asked after_image tapes lines_from tokens_from told_from deck_from image_of words_told
nine_digits_of_run = refl

ten_digits_of_run : asked (λ deck. deck.count) (after_image (codes "RUN 0000000001" ∷ [])) ≡ Err (BadLine 4)
unfolding asked after_image tapes lines_from tokens_from told_from deck_from image_of words_told
ten_digits_of_run = refl

-- ---- SIMPLEX: pairs 0 to 3, each a digit, rising

pairs : (pairs_from 0 (codes "0" ∷ codes "1" ∷ codes "3" ∷ []) ≡ Some 11) × (pairs_from 0 (codes "1" ∷ codes "1" ∷ []) ≡ None)
    × (pairs_from 0 (codes "2" ∷ codes "1" ∷ []) ≡ None) × (pairs_from 0 (codes "4" ∷ []) ≡ None) × (pairs_from 0 (codes "/" ∷ []) ≡ None)
pairs = (refl, refl, refl, refl, refl)

no_pair : asked (λ deck. deck.count) (after_image (codes "SIMPLEX" ∷ codes "RUN 1" ∷ [])) ≡ Err (BadLine 4)
unfolding asked after_image tapes lines_from tokens_from told_from deck_from image_of words_told
no_pair = refl

-- ---- PORTS: words for tapes and unplug lines in their order

two_tapes : asked (λ deck. deck.supplies) (after_image (codes "PORTS" ∷ codes "TAPE 2 5" ∷ codes "TAPE 1 6" ∷ codes "RUN 1" ∷ [])) ≡ Ok (record { port = 2; word = 5 } ∷ record { port = 1; word = 6 } ∷ [])
unfolding asked after_image tapes lines_from tokens_from told_from deck_from image_of words_told word_in
two_tapes = refl

two_unplugs : asked (λ deck. deck.unplugs) (after_image (codes "PORTS" ∷ codes "UNPLUG 2 5" ∷ codes "UNPLUG 1 3" ∷ codes "RUN 1" ∷ [])) ≡ Ok (record { port = 2; time = 5 } ∷ record { port = 1; time = 3 } ∷ [])
unfolding asked after_image tapes lines_from tokens_from told_from deck_from image_of words_told
two_unplugs = refl

no_device_at_014 : asked (λ deck. deck.unplugs) (after_image (codes "PORTS" ∷ codes "UNPLUG 14 3" ∷ codes "RUN 1" ∷ [])) ≡ Err (NoDevice 5)
unfolding asked after_image tapes lines_from tokens_from told_from deck_from image_of words_told
no_device_at_014 = refl

no_time : asked (λ deck. deck.unplugs) (after_image (codes "PORTS" ∷ codes "UNPLUG 2" ∷ codes "RUN 1" ∷ [])) ≡ Err (BadLine 5)
unfolding asked after_image tapes lines_from tokens_from told_from deck_from image_of words_told
no_time = refl

another_word : asked (λ deck. deck.unplugs) (after_image (codes "PORTS" ∷ codes "PLUG 2 3" ∷ codes "RUN 1" ∷ [])) ≡ Err (BadLine 5)
unfolding asked after_image tapes lines_from tokens_from told_from deck_from image_of words_told
another_word = refl

-- ---- FAULTS and ORDER

two_events : asked (λ deck. deck.script) (after_image (codes "FAULTS" ∷ codes "LAG 1 1 1 1" ∷ codes "LAG 2 1 1 1" ∷ codes "RUN 1" ∷ [])) ≡ Ok (Lag 1 1 1 1 ∷ Lag 2 1 1 1 ∷ [])
unfolding asked after_image tapes lines_from tokens_from told_from deck_from image_of words_told module_copy_in span_in step_in
two_events = refl

-- of each order, whether it begins with a lower number than it ends with
two_orders : asked (λ deck. map (λ order. nat_lt (slice_index order 0) (slice_index order 20)) deck.orders) (after_image (codes "ORDER" ∷ codes "ABCDEFGHIJKLMNOPQRSTU" ∷ codes "UTSRQPONMLKJIHGFEDCBA" ∷ codes "RUN 1" ∷ [])) ≡ Ok (true ∷ false ∷ [])
unfolding asked after_image tapes lines_from tokens_from told_from deck_from image_of words_told
two_orders = refl

sixteen_orders : asked (λ deck. length deck.orders) (after_image (codes "ORDER" ∷ replicate 16 (codes "ABCDEFGHIJKLMNOPQRSTU") ++ codes "RUN 1" ∷ [])) ≡ Ok 16
unfolding asked after_image tapes lines_from tokens_from told_from deck_from image_of words_told
sixteen_orders = refl

seventeen_orders : asked (λ deck. length deck.orders) (after_image (codes "ORDER" ∷ replicate 17 (codes "ABCDEFGHIJKLMNOPQRSTU") ++ codes "RUN 1" ∷ [])) ≡ Err (BadLine 21)
unfolding asked after_image tapes lines_from tokens_from told_from deck_from image_of words_told
seventeen_orders = refl

an_order_with_a_word : asked (λ deck. deck.count) (after_image (codes "ORDER A" ∷ codes "RUN 1" ∷ [])) ≡ Err (BadLine 4)
unfolding asked after_image tapes lines_from tokens_from told_from deck_from image_of words_told
an_order_with_a_word = refl

-- ---- the program: its last line is the first END, and a source is what stands from SOURCE on

behind_the_end : map (part_of (codes "A\nEND\nB\nEND\n")) (after_program (codes "A\nEND\nB\nEND\n") (lines_of (codes "A\nEND\nB\nEND\n"))) ≡ codes "B" ∷ codes "END" ∷ []
unfolding lines_from
behind_the_end = refl

behind_a_comment : option_map (map (λ line. line.text)) (source_in (codes "* A\nSOURCE\n        CODE\nEND\nRUN 1\n")) ≡ Some (codes "        CODE" ∷ codes "END" ∷ [])
unfolding lines_from source_from
behind_a_comment = refl

of_an_image : option_map (map (λ line. line.text)) (source_in (codes "IMAGE\nLVDC 1\nEND\nRUN 1\n")) ≡ None
unfolding lines_from source_from
of_an_image = refl

-- ---- where the run starts

a_line_of_code : constant_by 7 true (Some (hop_of 0o16)) ≡ Ok (hop_of 0o16)
a_line_of_code = refl
