-- Worked parts of the service: the bytes of a word, what is held and is to come, the requests that several frames are, and inquiries.
use Rattle.std.proofs.Common.{◌≡◌, ℕ, List, true, false, [], ◌∷◌, ◌++◌, Some, None, length, refl}
use Rattle.std.specs.Prelude.{codes}
use Rattle.std.specs.Fmt.{digits}
use Rattle.lvdc_text.specs.Lines.{lines_from}
use Rattle.lvdc_deck.specs.Deck.{deck_from}
use Rattle.lvdc_console.specs.declared.words.Inquiry.TheVariants.{Form}
use Rattle.lvdc_console.specs.Rack.{rack}
use Rattle.lvdc_console.specs.Replies.{inquiry_answer}
use Rattle.lvdc_service.specs.Frames.{is_graphic, is_word, with_requests, most_frames, frames_of, frames_within}
use Rattle.lvdc_service.specs.Parts.{part_of}
use Rattle.lvdc_service.specs.Reading.{to_come}
use Rattle.lvdc_service.specs.Served.{reply_with, reply_of, reply_to}

-- ---- words

the_first_graphic : is_graphic 33 ≡ true
the_first_graphic = refl

a_space : is_graphic 32 ≡ false
a_space = refl

the_second_word : part_of (codes "run --plain") (record { start = 4; end = 11 }) ≡ codes "--plain"
the_second_word = refl

a_word_with_a_byte_that_is_none : is_word (codes "A" ++ 127 ∷ codes "B") ≡ false
a_word_with_a_byte_that_is_none = refl

-- ---- frames

-- the requests of these words, without input
requests_and_a_rest : with_requests (record { words = codes "form" ∷ []; input = [] } ∷ []) (record { requests = record { words = codes "study" ∷ []; input = [] } ∷ []; whole = false })
    ≡ record { requests = record { words = codes "form" ∷ []; input = [] } ∷ record { words = codes "study" ∷ []; input = [] } ∷ []; whole = false }
requests_and_a_rest = refl

-- as many as a number of 32 bits counts
frames_at_most : most_frames ≡ 4294967295
frames_at_most = refl

so_many_frames_of_bytes : (bytes : List ℕ) → frames_of bytes ≡ frames_within 4294967295 bytes
so_many_frames_of_bytes bytes = refl

-- ---- what is held, and the source behind it

held_and_left : to_come (codes "A") (Some (codes "B")) ≡ codes "AB"
held_and_left = refl

an_untold_source : to_come (codes "A") None ≡ codes "A"
an_untold_source = refl

-- ---- inquiries

a_form_of_nothing : reply_to (record { words = codes "form" ∷ []; input = [] }) ≡ reply_with 2 (codes "REFUSED NoProgram 1\n")
unfolding lines_from deck_from digits
a_form_of_nothing = refl

a_byte_too_many : (input : List ℕ) → length input ≡ 1048577 → reply_to (record { words = codes "form" ∷ []; input = input }) ≡ reply_with 11 (codes "REFUSED TooLong\n")
a_byte_too_many input many = rw many refl

as_many_bytes_as_may_be : (input : List ℕ) → length input ≡ 1048576
    → reply_to (record { words = codes "form" ∷ []; input = input }) ≡ reply_of (inquiry_answer Form input rack)
as_many_bytes_as_may_be input many = rw many refl
