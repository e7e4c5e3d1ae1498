-- Worked texts of refusals: cause, blank and line.
use Rattle.std.proofs.Common.{◌≡◌, refl, codes}
use Rattle.std.specs.Fmt.{digits}
use Rattle.lvdc_reply.specs.Answer.{refusal_text}

line_12 : refusal_text (codes "BadLine") 12 ≡ codes "REFUSED BadLine 12\n"
unfolding digits
line_12 = refl

-- line 0 is the whole input
line_0 : refusal_text (codes "NoEnd") 0 ≡ codes "REFUSED NoEnd 0\n"
unfolding digits
line_0 = refl

line_65536 : refusal_text (codes "TooManyEvents") 65536 ≡ codes "REFUSED TooManyEvents 65536\n"
unfolding digits
line_65536 = refl
