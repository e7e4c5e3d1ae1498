-- Worked values of the definitions.
use Rattle.std.proofs.Common.{◌≡◌, [], ◌∷◌, Some, None, true, false, refl}
use Rattle.std.specs.Prelude.{codes}
use Rattle.lvdc_service.specs.Frames.{frame_line_of_parts, frame_line_of, cut_line, frame_at, frames_within, frames_of}

-- ---- lines

three_bytes_for_two_words : frame_line_of (codes "REQUEST 3 go fast") ≡ Some (record { count = 3; words = codes "go" ∷ codes "fast" ∷ [] })
unfolding frame_line_of_parts
three_bytes_for_two_words = refl

two_spaces : frame_line_of (codes "REQUEST  0 run") ≡ None
unfolding frame_line_of_parts
two_spaces = refl

a_needless_zero : frame_line_of (codes "REQUEST 03 run") ≡ None
unfolding frame_line_of_parts
a_needless_zero = refl

no_word : frame_line_of (codes "REQUEST 0") ≡ None
unfolding frame_line_of_parts
no_word = refl

a_space_at_the_end : frame_line_of (codes "REQUEST 0 run ") ≡ None
unfolding frame_line_of_parts
a_space_at_the_end = refl

nine_words : frame_line_of (codes "REQUEST 0 a b c d e f g h i") ≡ None
unfolding frame_line_of_parts
nine_words = refl

eight_words : frame_line_of (codes "REQUEST 0 a b c d e f g h") ≡ Some (record { count = 0; words = codes "a" ∷ codes "b" ∷ codes "c" ∷ codes "d" ∷ codes "e" ∷ codes "f" ∷ codes "g" ∷ codes "h" ∷ [] })
unfolding frame_line_of_parts
eight_words = refl

the_longest_input : frame_line_of (codes "REQUEST 134217728 resume") ≡ Some (record { count = 134217728; words = codes "resume" ∷ [] })
unfolding frame_line_of_parts
the_longest_input = refl

one_byte_more : frame_line_of (codes "REQUEST 134217729 resume") ≡ None
unfolding frame_line_of_parts
one_byte_more = refl

small_letters : frame_line_of (codes "request 0 run") ≡ None
unfolding frame_line_of_parts
small_letters = refl

-- ---- frames

nothing_is_no_frames : frames_of [] ≡ record { requests = []; whole = true }
unfolding frames_within
nothing_is_no_frames = refl

-- nothing stands between the end of an input and the next frame; an LF may be a byte of an input
one_behind_the_other : frames_within 3 (codes "REQUEST 3 go\nA\nBREQUEST 0 run\n")
    ≡ record { requests = record { words = codes "go" ∷ []; input = codes "A\nB" } ∷ record { words = codes "run" ∷ []; input = [] } ∷ []; whole = true }
unfolding frames_within frame_at cut_line frame_line_of_parts
one_behind_the_other = refl

-- nothing after what is no frame is read as one
two_spaces_in_the_second : frames_within 3 (codes "REQUEST 0 soak\nREQUEST  0 run\nREQUEST 0 run\n")
    ≡ record { requests = record { words = codes "soak" ∷ []; input = [] } ∷ []; whole = false }
unfolding frames_within frame_at cut_line frame_line_of_parts
two_spaces_in_the_second = refl

two_bytes_are_missing : frames_within 3 (codes "REQUEST 12 run\nIMAGE\nLVDC") ≡ record { requests = []; whole = false }
unfolding frames_within frame_at cut_line frame_line_of_parts
two_bytes_are_missing = refl

no_line_ends : frames_within 3 (codes "REQUEST 0 run") ≡ record { requests = []; whole = false }
unfolding frames_within frame_at cut_line
no_line_ends = refl

-- no further frame is looked for than so many
one_frame_of_two : frames_within 1 (codes "REQUEST 0 run\nREQUEST 0 run\n") ≡ record { requests = record { words = codes "run" ∷ []; input = [] } ∷ []; whole = true }
unfolding frames_within frame_at cut_line frame_line_of_parts
one_frame_of_two = refl

-- the first LF ends a line, among so many bytes and the one behind them
two_bytes_and_an_end : cut_line 2 (codes "AB\nC") ≡ Some (record { front = codes "AB"; rest = codes "C" })
unfolding cut_line
two_bytes_and_an_end = refl

three_bytes_without_one : cut_line 2 (codes "ABC\n") ≡ None
unfolding cut_line
three_bytes_without_one = refl
