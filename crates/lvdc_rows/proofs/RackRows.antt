-- The sixteen devices of the program as they are before a run, and requests that are answered over them.
use Rattle.std.proofs.Common.{◌≡◌, ℕ, List, [], ◌∷◌, refl}
use Rattle.std.specs.Prelude.{codes}
use Rattle.std.specs.Fmt.{digits}
use Rattle.std.specs.declared.option.Option.TheVariants.{Some, None}
use Rattle.lvdc_port.specs.declared.device.Kind.TheVariants.{Tape, Latch, Ticker, Recorder}
use Rattle.lvdc_machine.specs.declared.mode.Mode.TheVariants.{Guarded, Through}
use Rattle.lvdc_text.specs.Lines.{lines_from, tokens_from}
use Rattle.lvdc_text.specs.Numbers.{word_in}
use Rattle.lvdc_image.specs.Reading.{entry_in, words_from as words_told, banks_named, banks_in, image_of}
use Rattle.lvdc_lines.specs.Noted.{lines_below}
use Rattle.lvdc_deck.specs.Deck.{told_from, deck_from}
use Rattle.lvdc_reply.specs.Answer.{answer_with}
use Rattle.lvdc_console.specs.declared.words.Inquiry.TheVariants.{Trace, Form}
use Rattle.lvdc_console.specs.Rack.{rack}
use Rattle.lvdc_console.specs.Replies.{inquiry_answer}
use Rattle.lvdc_console.specs.Words.{first_of, count_of, inquiry_of}

-- twelve tapes, two latches, a ticker and a recorder
sixteen_devices : rack
    ≡ record { port = 0; kind = Tape; state = [] } ∷ record { port = 1; kind = Tape; state = [] } ∷ record { port = 2; kind = Tape; state = [] }
    ∷ record { port = 3; kind = Tape; state = [] } ∷ record { port = 4; kind = Tape; state = [] } ∷ record { port = 5; kind = Tape; state = [] }
    ∷ record { port = 6; kind = Tape; state = [] } ∷ record { port = 7; kind = Tape; state = [] } ∷ record { port = 8; kind = Tape; state = [] }
    ∷ record { port = 9; kind = Tape; state = [] } ∷ record { port = 10; kind = Tape; state = [] } ∷ record { port = 11; kind = Tape; state = [] }
    ∷ record { port = 12; kind = Latch; state = 0 ∷ [] } ∷ record { port = 13; kind = Latch; state = 0 ∷ [] } ∷ record { port = 14; kind = Ticker; state = [] }
    ∷ record { port = 15; kind = Recorder; state = [] } ∷ []
sixteen_devices = refl

-- ---- words

-- FIRST may be 0 and has seven digits, COUNT has neither
first_0_through : inquiry_of (codes "trace" ∷ codes "--through" ∷ codes "0" ∷ codes "1" ∷ []) ≡ Some (Trace Through (record { first = 0; count = 1 }))
unfolding first_of count_of
first_0_through = refl

count_0_through : inquiry_of (codes "trace" ∷ codes "--through" ∷ codes "5" ∷ codes "0" ∷ []) ≡ None
unfolding first_of count_of
count_0_through = refl

no_trace : inquiry_of (codes "form" ∷ codes "--through" ∷ codes "5" ∷ codes "2" ∷ []) ≡ None
unfolding first_of count_of
no_trace = refl

-- ---- answers: a trace of no times, and the form of an empty script

deck : List ℕ
deck = codes "IMAGE\nLVDC 1\nEND\nRUN 0\n"

a_trace : inquiry_answer (Trace Guarded (record { first = 0; count = 1 })) deck [] ≡ answer_with 0 (codes "LVDC TRACE\nEND DONE\n") []
unfolding deck lines_from tokens_from word_in told_from deck_from entry_in words_told banks_named banks_in image_of digits lines_below
a_trace = refl

a_form : inquiry_answer Form deck [] ≡ answer_with 0 (codes "FORM YES\n") []
unfolding deck lines_from tokens_from word_in told_from deck_from entry_in words_told banks_named banks_in image_of digits
a_form = refl
