-- Worked decks: a section stands once, and what is a comment, a long line and too many times.
use Rattle.std.proofs.Common.{◌≡◌, ℕ, Bool, true, false, List, [], ◌∷◌, ◌++◌, replicate, is_ok, Err, Result, refl, codes}
use Rattle.lvdc_text.specs.Joined.{text_of}
use Rattle.lvdc_text.specs.Lines.{lines_from, tokens_from}
use Rattle.lvdc_text.specs.Numbers.{word_in}
use Rattle.lvdc_port.specs.Device.{Device}
use Rattle.lvdc_port.specs.declared.device.Kind.TheVariants.{Latch}
use Rattle.lvdc_image.specs.Reading.{image_of, words_from as words_told}
use Rattle.lvdc_lines.specs.Fields.{module_copy_in, span_in, step_in}
use Rattle.lvdc_deck.specs.Deck.{told_from, deck_from, deck_of}
use Rattle.lvdc_deck.specs.declared.deck.Deck.{Deck}
use Rattle.lvdc_deck.specs.declared.fault.DeckFault.{DeckFault}
use Rattle.lvdc_deck.specs.declared.fault.DeckFault.TheVariants.{BadSection, BadLine, NoProgram, CountTooLarge}

-- the deck of an empty image with these lines after it, from line 4 on, where no device is
after_image : List (List ℕ) → Result Deck DeckFault
after_image lines = deck_of (text_of (codes "IMAGE" ∷ codes "LVDC 1" ∷ codes "END" ∷ lines)) [] false

run_again : after_image (codes "RUN 3" ∷ codes "RUN 3" ∷ []) ≡ Err (BadSection 5)
unfolding after_image lines_from tokens_from told_from deck_from module_copy_in span_in step_in
run_again = refl

start_again : after_image (codes "START 16" ∷ codes "START 16" ∷ codes "RUN 3" ∷ []) ≡ Err (BadSection 5)
unfolding after_image lines_from tokens_from told_from deck_from module_copy_in span_in step_in word_in
start_again = refl

simplex_again : after_image (codes "SIMPLEX 0" ∷ codes "SIMPLEX 1" ∷ codes "RUN 3" ∷ []) ≡ Err (BadSection 5)
unfolding after_image lines_from tokens_from told_from deck_from module_copy_in span_in step_in
simplex_again = refl

faults_again : after_image (codes "FAULTS" ∷ codes "LAG 1 1 0 0" ∷ codes "FAULTS" ∷ codes "RUN 3" ∷ []) ≡ Err (BadSection 6)
unfolding after_image lines_from tokens_from told_from deck_from module_copy_in span_in step_in
faults_again = refl

order_again : after_image (codes "ORDER" ∷ codes "ORDER" ∷ codes "RUN 3" ∷ []) ≡ Err (BadSection 5)
unfolding after_image lines_from tokens_from told_from deck_from module_copy_in span_in step_in
order_again = refl

ports_again : after_image (codes "PORTS" ∷ codes "PORTS" ∷ codes "RUN 3" ∷ []) ≡ Err (BadSection 5)
unfolding after_image lines_from tokens_from told_from deck_from module_copy_in span_in step_in
ports_again = refl

-- ---- comments: a line that begins with `*`, and no other

a_hash_among_the_sections : after_image (codes "# NOTE" ∷ codes "RUN 3" ∷ []) ≡ Err (BadSection 4)
unfolding after_image lines_from tokens_from told_from deck_from module_copy_in span_in step_in
a_hash_among_the_sections = refl

a_hash_among_the_faults : after_image (codes "FAULTS" ∷ codes "# NOTE" ∷ codes "RUN 3" ∷ []) ≡ Err (BadLine 5)
unfolding after_image lines_from tokens_from told_from deck_from module_copy_in span_in step_in
a_hash_among_the_faults = refl

a_hash_at_the_top : deck_of (text_of (codes "# NOTE" ∷ codes "IMAGE" ∷ codes "LVDC 1" ∷ codes "END" ∷ codes "RUN 3" ∷ [])) [] false ≡ Err (NoProgram 1)
unfolding lines_from tokens_from told_from deck_from
a_hash_at_the_top = refl

-- ---- lines of 120 bytes, and of 121

-- whether the deck with these lines is read
is_read : List (List ℕ) → Bool
is_read lines = is_ok (after_image lines)

a_line_of_120_bytes : is_read ((codes "RUN 3" ++ replicate 115 32) ∷ []) ≡ true
unfolding after_image is_read lines_from tokens_from told_from deck_from image_of words_told
a_line_of_120_bytes = refl

a_line_of_121_bytes : after_image ((codes "RUN 3" ++ replicate 116 32) ∷ []) ≡ Err (BadLine 4)
unfolding after_image lines_from tokens_from told_from deck_from module_copy_in span_in step_in
a_line_of_121_bytes = refl

a_comment_of_120_bytes : is_read ((codes "*" ++ replicate 119 65) ∷ codes "RUN 3" ∷ []) ≡ true
unfolding after_image is_read lines_from tokens_from told_from deck_from image_of words_told
a_comment_of_120_bytes = refl

a_comment_of_121_bytes : after_image ((codes "*" ++ replicate 120 65) ∷ codes "RUN 3" ∷ []) ≡ Err (BadLine 4)
unfolding after_image lines_from tokens_from told_from deck_from module_copy_in span_in step_in
a_comment_of_121_bytes = refl

a_blank_line_of_121_bytes : after_image (replicate 121 32 ∷ codes "RUN 3" ∷ []) ≡ Err (BadLine 4)
unfolding after_image lines_from tokens_from told_from deck_from module_copy_in span_in step_in
a_blank_line_of_121_bytes = refl

-- ---- a million times, and one more

a_million_times : is_read (codes "RUN 1000000" ∷ []) ≡ true
unfolding after_image is_read lines_from tokens_from told_from deck_from image_of words_told
a_million_times = refl

one_time_more : after_image (codes "RUN 1000001" ∷ []) ≡ Err (CountTooLarge 4)
unfolding after_image lines_from tokens_from told_from deck_from module_copy_in span_in step_in
one_time_more = refl

-- a device is taken away at a time of these
latch : Device
latch = record { port = 0o14; kind = Latch; state = 0 ∷ [] }

unplugged_at : List ℕ → Result Deck DeckFault
unplugged_at time = deck_of (text_of (codes "IMAGE" ∷ codes "LVDC 1" ∷ codes "END" ∷ codes "PORTS" ∷ (codes "UNPLUG 14 " ++ time) ∷ codes "RUN 3" ∷ [])) (latch ∷ []) false

unplugged_at_a_million : is_ok (unplugged_at (codes "1000000")) ≡ true
unfolding unplugged_at latch lines_from tokens_from told_from deck_from image_of words_told
unplugged_at_a_million = refl

unplugged_later : unplugged_at (codes "1000001") ≡ Err (BadLine 5)
unfolding unplugged_at latch lines_from tokens_from told_from deck_from
unplugged_later = refl
