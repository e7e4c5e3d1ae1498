-- Worked command lines: the room of each command's text, its input, which command answers, and what is answered beside a reply.
use Rattle.std.proofs.Common.{◌≡◌, ℕ, List, [], ◌∷◌, map, length, refl}
use Rattle.std.specs.Prelude.{codes}
use Rattle.std.specs.Fmt.{digits}
use Rattle.std.specs.declared.option.Option.TheVariants.{None}
use Rattle.lvdc_text.specs.Lines.{lines_from, tokens_from}
use Rattle.lvdc_text.specs.Numbers.{word_in}
use Rattle.lvdc_command_run.specs.declared.job.Engine.TheVariants.{Guarded, Through, Plain}
use Rattle.lvdc_command_asm.specs.declared.reply.Product.TheVariants.{Image, Listing}
use Rattle.lvdc_command_asm.specs.declared.expand.Form.TheVariants as form
use Rattle.lvdc_source.specs.Source.{items_from}
use Rattle.lvdc_deck.specs.Deck.{told_from, deck_from}
use Rattle.lvdc_image.specs.Reading.{entry_in, words_from as words_told, banks_named, banks_in, image_of}
use Rattle.lvdc_campaign_deck.specs.Campaign.{from_campaign}
use Rattle.lvdc_campaign_deck.specs.Scripts.{scripts_from}
use Rattle.lvdc_save.specs.Reading.{told_from as told_saved}
use Rattle.lvdc_reply.specs.Answer.{answer_with}
use Rattle.lvdc_cli.specs.declared.command.Command.TheVariants.{Run, Soak, Assemble, Debug, Save, Resume, Campaign, Uplink, Expand}
use Rattle.lvdc_cli.specs.Commands.{answer, command_answer, input_of, room_of, read_fault_answer, too_long_answer, memory_answer}
use Rattle.lvdc_cli.specs.Words.{command_of, soak_number, times_of}

-- ---- how long a text is at most

room_of_each : map room_of (Run Guarded ∷ Run Plain ∷ Soak 1 ∷ Assemble Listing ∷ Assemble Image ∷ Save 3 ∷ Campaign ∷ Uplink ∷ Expand form.Source ∷ [])
    ≡ 134217728 ∷ 134217728 ∷ 134217728 ∷ 134217728 ∷ 134217728 ∷ 134217728 ∷ 134217728 ∷ 134217728 ∷ 134217728 ∷ []
room_of_each = refl

-- ---- words that are no command

another_flag_of_asm : command_of (codes "asm" ∷ codes "--listing" ∷ []) ≡ None
another_flag_of_asm = refl

another_flag_of_macro : command_of (codes "macro" ∷ codes "--source" ∷ []) ≡ None
another_flag_of_macro = refl

-- a soak run's number has ten digits at most, needless zeros and all
eleven_digits : command_of (codes "soak" ∷ codes "00000000001" ∷ []) ≡ None
unfolding soak_number
eleven_digits = refl

a_number_of_debug : command_of (codes "debug" ∷ codes "3" ∷ []) ≡ None
unfolding times_of
a_number_of_debug = refl

-- ---- what is read, and what answers

no_input_of_a_soak : input_of (Soak 1) (codes "A") ≡ []
no_input_of_a_soak = refl

the_input_of_a_run : input_of (Run Through) (codes "A") ≡ codes "A"
the_input_of_a_run = refl

-- an empty input is no source, no deck and no saved text
of_nothing : command_answer (Assemble Listing) [] [] ∷ command_answer (Assemble Image) [] [] ∷ command_answer (Save 3) [] [] ∷ command_answer Resume [] [] ∷ []
    ≡ answer_with 3 (codes "REFUSED MissingEnd 1\n") [] ∷ answer_with 3 (codes "REFUSED MissingEnd 1\n") [] ∷ answer_with 2 (codes "REFUSED NoProgram 1\n") []
    ∷ answer_with 2 (codes "REFUSED BadSave 1\n") [] ∷ []
unfolding lines_from digits items_from deck_from told_saved
of_nothing = refl

-- a campaign wants a section CAMPAIGN behind RUN
a_campaign_without_its_section : command_answer Campaign (codes "IMAGE\nLVDC 1\nEND\nRUN 1\n") [] ≡ answer_with 2 (codes "REFUSED BadSection 5\n") []
unfolding lines_from tokens_from word_in told_from deck_from entry_in words_told banks_named banks_in image_of digits from_campaign scripts_from
a_campaign_without_its_section = refl

-- ---- the most bytes of an input

a_byte_too_many : (bytes : List ℕ) → length bytes ≡ 1048577 → answer (codes "run" ∷ []) bytes [] ≡ answer_with 11 (codes "REFUSED TooLong\n") []
a_byte_too_many bytes many = rw many refl

as_many_bytes_as_may_be : (bytes : List ℕ) → length bytes ≡ 1048576 → answer (codes "run" ∷ []) bytes [] ≡ command_answer (Run Guarded) bytes []
as_many_bytes_as_may_be bytes many = rw many refl

few_bytes : answer (codes "asm" ∷ []) [] [] ≡ answer_with 3 (codes "REFUSED MissingEnd 1\n") []
unfolding lines_from digits items_from
few_bytes = refl

-- ---- what is told beside a reply

a_failed_read : read_fault_answer [] ≡ answer_with 7 (codes "REFUSED ReadFault\n") []
a_failed_read = refl

too_long : too_long_answer [] ≡ answer_with 11 (codes "REFUSED TooLong\n") []
too_long = refl

no_memory : memory_answer [] ≡ answer_with 9 [] []
no_memory = refl
