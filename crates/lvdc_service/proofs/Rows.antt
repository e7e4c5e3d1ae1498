-- Worked values of the definitions.
use Rattle.std.proofs.Common.{◌≡◌, [], ◌∷◌, ◌++◌, refl}
use Rattle.std.specs.Prelude.{codes}
use Rattle.lvdc_service.specs.Frames.{frame_line_of_parts, cut_line, frame_at, frames_within}
use Rattle.lvdc_console.specs.Words.{first_of}
use Rattle.lvdc_service.specs.Served.{reply_line, bytes_of, usage_reply, bad_frame_reply, read_fault_reply, too_long_reply, served}

-- ---- replies

a_usage : bytes_of usage_reply ≡ reply_line 1 121 ++ codes "usage: lvdc-worker\nrequests: the commands of lvdc\n          trace [--through] FIRST COUNT\n          form\n          study\n"
a_usage = refl

a_read_fault : bytes_of read_fault_reply ≡ reply_line 7 18 ++ codes "REFUSED ReadFault\n"
a_read_fault = refl

too_many_bytes : bytes_of too_long_reply ≡ reply_line 11 16 ++ codes "REFUSED TooLong\n"
too_many_bytes = refl

-- ---- what bytes are answered

nothing : served [] ≡ record { replies = []; status = 0 }
unfolding frames_within
nothing = refl

-- other words are answered with the usage, their input is dropped, and the service goes on
other_words : served (codes "REQUEST 3 go fast\nAB\nREQUEST 0 trace 00 1\nREQUEST 0 run --help\n") ≡ record { replies = usage_reply ∷ usage_reply ∷ usage_reply ∷ []; status = 0 }
unfolding frames_within frame_at cut_line frame_line_of_parts first_of
other_words = refl

-- nothing after what is no frame is read as one
a_second_space : served (codes "REQUEST 0 soak\nREQUEST  0 run\nREQUEST 0 run\n") ≡ record { replies = usage_reply ∷ bad_frame_reply 2 ∷ []; status = 2 }
unfolding frames_within frame_at cut_line frame_line_of_parts
a_second_space = refl

two_bytes_are_missing : served (codes "REQUEST 12 run\nIMAGE\nLVDC") ≡ record { replies = bad_frame_reply 1 ∷ []; status = 2 }
unfolding frames_within frame_at cut_line frame_line_of_parts
two_bytes_are_missing = refl

a_needless_zero : served (codes "REQUEST 03 run\nABC") ≡ record { replies = bad_frame_reply 1 ∷ []; status = 2 }
unfolding frames_within frame_at cut_line frame_line_of_parts
a_needless_zero = refl
