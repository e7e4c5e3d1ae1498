-- Worked replies of the worker, byte by byte, and the limits of the line of a frame.
use Rattle.std.proofs.Common.{◌≡◌, ℕ, List, [], ◌∷◌, ◌++◌, Some, None, replicate, refl}
use Rattle.std.specs.Prelude.{codes}
use Rattle.std.specs.Fmt.{digits}
use Rattle.lvdc_service.specs.Frames.{FrameLine, frame_line_of_parts, frame_line_of, cut_line, frame_at, frames_within}
use Rattle.lvdc_service.specs.Served.{reply_line, bytes_of, all_bytes, reply_with, usage_reply, bad_frame_reply, read_fault_reply, memory_reply, served}

-- ---- replies: a line with the status and how many bytes follow, and these

a_reply_without_text : bytes_of (reply_with 0 []) ≡ codes "REPLY 0 0\n"
unfolding digits
a_reply_without_text = refl

a_reply_with_a_text : bytes_of (reply_with 10 (codes "LVDC RUN\n")) ≡ codes "REPLY 10 9\nLVDC RUN\n"
unfolding digits
a_reply_with_a_text = refl

-- a text of one byte more than a mebibyte
a_long_reply : reply_line 0 1048577 ≡ codes "REPLY 0 1048577\n"
unfolding digits
a_long_reply = refl

a_usage : bytes_of usage_reply
    ≡ codes "REPLY 1 121\nusage: lvdc-worker\nrequests: the commands of lvdc\n          trace [--through] FIRST COUNT\n          form\n          study\n"
unfolding digits
a_usage = refl

the_first_bad_frame : bytes_of (bad_frame_reply 1) ≡ codes "REPLY 2 19\nREFUSED BadFrame 1\n"
unfolding digits
the_first_bad_frame = refl

the_twelfth_bad_frame : bytes_of (bad_frame_reply 12) ≡ codes "REPLY 2 20\nREFUSED BadFrame 12\n"
unfolding digits
the_twelfth_bad_frame = refl

the_last_bad_frame : bytes_of (bad_frame_reply 4294967295) ≡ codes "REPLY 2 28\nREFUSED BadFrame 4294967295\n"
unfolding digits
the_last_bad_frame = refl

a_failed_read : bytes_of read_fault_reply ≡ codes "REPLY 7 18\nREFUSED ReadFault\n"
unfolding digits
a_failed_read = refl

no_memory : bytes_of memory_reply ≡ codes "REPLY 9 0\n"
unfolding digits
no_memory = refl

two_replies : all_bytes (reply_with 0 (codes "A\n") ∷ bad_frame_reply 2 ∷ []) ≡ codes "REPLY 0 2\nA\nREPLY 2 19\nREFUSED BadFrame 2\n"
unfolding digits
two_replies = refl

-- ---- the bytes of a word are 33 to 126

-- the line of a frame without input, whose one word is this byte
line_with : ℕ → List ℕ
line_with byte = codes "REQUEST 0 " ++ byte ∷ []

-- the frame with no input and this byte for a word
word_of : ℕ → FrameLine
word_of byte = record { count = 0; words = (byte ∷ []) ∷ [] }

byte_33 : frame_line_of (line_with 33) ≡ Some (word_of 33)
unfolding line_with word_of frame_line_of_parts
byte_33 = refl

byte_126 : frame_line_of (line_with 126) ≡ Some (word_of 126)
unfolding line_with word_of frame_line_of_parts
byte_126 = refl

byte_127 : frame_line_of (line_with 127) ≡ None
unfolding line_with frame_line_of_parts
byte_127 = refl

byte_31 : frame_line_of (line_with 31) ≡ None
unfolding line_with frame_line_of_parts
byte_31 = refl

-- a tab, a CR, and a letter of another alphabet
byte_9 : frame_line_of (line_with 9) ≡ None
unfolding line_with frame_line_of_parts
byte_9 = refl

byte_13 : frame_line_of (line_with 13) ≡ None
unfolding line_with frame_line_of_parts
byte_13 = refl

byte_195 : frame_line_of (line_with 195) ≡ None
unfolding line_with frame_line_of_parts
byte_195 = refl

-- ---- one to eight words, and one space between each two parts

eight_words : frame_line_of (codes "REQUEST 7 a b c d e f g h")
    ≡ Some (record { count = 7; words = codes "a" ∷ codes "b" ∷ codes "c" ∷ codes "d" ∷ codes "e" ∷ codes "f" ∷ codes "g" ∷ codes "h" ∷ [] })
unfolding frame_line_of_parts
eight_words = refl

nine_words : frame_line_of (codes "REQUEST 7 a b c d e f g h i") ≡ None
unfolding frame_line_of_parts
nine_words = refl

no_word : frame_line_of (codes "REQUEST 7 ") ≡ None
unfolding frame_line_of_parts
no_word = refl

a_space_in_front : frame_line_of (codes " REQUEST 0 run") ≡ None
unfolding frame_line_of_parts
a_space_in_front = refl

no_input_named : frame_line_of (codes "REQUEST run 0") ≡ None
unfolding frame_line_of_parts
no_input_named = refl

-- ---- a line has at most 255 bytes before its LF

-- a frame without input whose word has so many letters: the line has ten bytes more
frame_with : ℕ → List ℕ
frame_with letters = codes "REQUEST 0 " ++ replicate letters 65 ++ codes "\n"

a_line_of_255_bytes : served (frame_with 245) ≡ record { replies = usage_reply ∷ []; status = 0 }
unfolding frame_with frames_within frame_at cut_line frame_line_of_parts
a_line_of_255_bytes = refl

a_line_of_256_bytes : served (frame_with 246) ≡ record { replies = bad_frame_reply 1 ∷ []; status = 2 }
unfolding frame_with frames_within frame_at cut_line frame_line_of_parts
a_line_of_256_bytes = refl

-- ---- whole inputs

-- an input may be empty, may hold a line of a frame, and is dropped where its words are no request
three_frames : all_bytes (served (codes "REQUEST 0 fly\nREQUEST 14 fly\nREQUEST 0 run\nBAD\n")).replies
    ≡ bytes_of usage_reply ++ bytes_of usage_reply ++ codes "REPLY 2 19\nREFUSED BadFrame 3\n"
unfolding digits frames_within frame_at cut_line frame_line_of_parts
three_frames = refl
