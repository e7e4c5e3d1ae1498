-- Where the first LF is, by the bytes before it.
use Rattle.std.proofs.Common.{◌≡◌, ℕ, suc, zero, ◌<◌, ◌≤◌, false, List, [], ◌∷◌, ◌++◌, length, Some, None, refl, ap, ◌∙◌, arith, if◌then◌else◌}
use Rattle.lvdc_text.specs.Lines.{is_line_feed}
use Rattle.lvdc_service.specs.Frames.{with_byte, cut_line}

-- no byte is an LF
abbrev pub HasNoFeed : List ℕ → Type 0
HasNoFeed [] = Unit {0}
HasNoFeed (b ∷ bytes) = (is_line_feed b ≡ false) × HasNoFeed bytes

pub no_feed_more : (bytes : List ℕ) (b : ℕ) → HasNoFeed bytes → is_line_feed b ≡ false → HasNoFeed (bytes ++ b ∷ [])
no_feed_more [] b h k = (k, tt)
no_feed_more (c ∷ bytes) b h k = (h.0, no_feed_more bytes b h.1 k)

-- a byte that is no LF stands before what is cut
step : (most b : ℕ) (bytes : List ℕ) → is_line_feed b ≡ false → cut_line (suc most) (b ∷ bytes) ≡ with_byte b (cut_line most bytes)
unfolding cut_line
step most b bytes h = ap (λ ends. if ends then Some (record { front = []; rest = bytes }) else with_byte b (cut_line most bytes)) h

stop : (b : ℕ) (bytes : List ℕ) → is_line_feed b ≡ false → cut_line 0 (b ∷ bytes) ≡ None
unfolding cut_line
stop b bytes h = ap (λ ends. if ends then Some (record { front = []; rest = bytes }) else None) h

none : (most : ℕ) → cut_line most [] ≡ None
unfolding cut_line
none zero = refl
none (suc most) = refl

at_feed : (most : ℕ) (more : List ℕ) → cut_line most (10 ∷ more) ≡ Some (record { front = []; rest = more })
unfolding cut_line
at_feed zero more = refl
at_feed (suc most) more = refl

-- the line ends at the LF behind it
pub cut_ended : (most : ℕ) (line more : List ℕ) → HasNoFeed line → length line ≤ most → cut_line most (line ++ 10 ∷ more) ≡ Some (record { front = line; rest = more })
cut_ended most [] more h l = at_feed most more
cut_ended zero (b ∷ line) more h l = absurd (omega arith)
cut_ended (suc most) (b ∷ line) more h l = step most b (line ++ 10 ∷ more) h.0 ∙ ap (with_byte b) (cut_ended most line more h.1 (omega arith))

-- bytes without an LF have no line
pub cut_open : (most : ℕ) (bytes : List ℕ) → HasNoFeed bytes → cut_line most bytes ≡ None
cut_open most [] h = none most
cut_open zero (b ∷ bytes) h = stop b bytes h.0
cut_open (suc most) (b ∷ bytes) h = step most b bytes h.0 ∙ ap (with_byte b) (cut_open most bytes h.1)

-- nor have bytes that begin with too many of these
pub cut_long : (most : ℕ) (bytes more : List ℕ) → HasNoFeed bytes → most < length bytes → cut_line most (bytes ++ more) ≡ None
cut_long most [] more h l = absurd (omega arith)
cut_long zero (b ∷ bytes) more h l = stop b (bytes ++ more) h.0
cut_long (suc most) (b ∷ bytes) more h l = step most b (bytes ++ more) h.0 ∙ ap (with_byte b) (cut_long most bytes more h.1 (omega arith))
