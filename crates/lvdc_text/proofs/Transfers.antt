-- Several reads or writes, one after the other.
use Rattle.std.proofs.Common.{◌≡◌, ℕ, ◌+◌, ◌<◌, ◌≤◌, List, [], ◌++◌, length, take, drop, Some, None, refl, sym, ap, ◌∙◌, append_assoc, arith, length-append, length-take}
use Rattle.std.specs.declared.option.Option.{Option}
use Rattle.std.specs.Io.KnownBytes.{Consumes, Appends}
use Rattle.std.proofs.lemmas.List.{append-nil, drop-drop, take_at, take-append-drop}
use Rattle.std.proofs.Math.Seq.{take-add}
use Rattle.lvdc_text.specs.Room.{HasRoom, RoomFalls}
use Rattle.lvdc_text.specs.Transfer.{TookCount, TookAtMost}

-- nothing appended
pub appends_none : (a : Option (List ℕ)) → Appends a a []
appends_none None = tt
appends_none (Some xs) = sym (append-nil xs)

pub appends_more : (a b c : Option (List ℕ)) (bytes : List ℕ) (n m : ℕ) → Appends a b (take n bytes) → Appends b c (take m (drop n bytes)) → Appends a c (take (n + m) bytes)
appends_more None b c bytes n m h k = tt
appends_more (Some x) None c bytes n m h k = absurd h
appends_more (Some x) (Some y) None bytes n m h k = absurd k
appends_more (Some x) (Some y) (Some z) bytes n m h k =
    k ∙ ap (λ r. r ++ take m (drop n bytes)) h ∙ append_assoc x (take n bytes) (take m (drop n bytes)) ∙ ap (λ r. x ++ r) (sym (take-add n m bytes))

-- nothing consumed
pub consumes_none : (a : Option (List ℕ)) → Consumes a a []
consumes_none None = tt
consumes_none (Some xs) = refl

pub consumes_more : (a b c : Option (List ℕ)) (xs ys : List ℕ) → Consumes a b xs → Consumes b c ys → Consumes a c (xs ++ ys)
consumes_more None b c xs ys h k = tt
consumes_more (Some x) None c xs ys h k = absurd h
consumes_more (Some x) (Some y) None xs ys h k = absurd k
consumes_more (Some x) (Some y) (Some z) xs ys h k = h ∙ ap (λ r. xs ++ r) k ∙ sym (append_assoc xs ys z)

pub room_none : (a : Option ℕ) → RoomFalls a a 0
room_none None = tt
room_none (Some n) = omega arith

pub room_more : (a b c : Option ℕ) (n m : ℕ) → RoomFalls a b n → RoomFalls b c m → RoomFalls a c (n + m)
room_more None None None n m h k = tt
room_more None None (Some z) n m h k = absurd k
room_more None (Some y) c n m h k = absurd h
room_more (Some x) None c n m h k = absurd h
room_more (Some x) (Some y) None n m h k = absurd k
room_more (Some x) (Some y) (Some z) n m h k = omega arith

-- room for more is room for less
pub room_less : (room : Option ℕ) (most n : ℕ) → HasRoom room most → n ≤ most → HasRoom room n
room_less None most n has less = tt
room_less (Some room) most n has less = omega arith

-- while not all is written, there is room for a byte
pub room_left : (a b : Option ℕ) (n all : ℕ) → HasRoom a all → RoomFalls a b n → n < all → HasRoom b 1
room_left None None n all h k l = tt
room_left None (Some y) n all h k l = absurd k
room_left (Some x) None n all h k l = absurd k
room_left (Some x) (Some y) n all h k l = omega arith

-- what was taken before, and then in one more read
pub took_more : (a b c : Option (List ℕ)) (xs : List ℕ) (m n : ℕ) → Consumes a b xs → TookCount b c m → length xs + m ≡ n → TookCount a c n
took_more a b c xs m n h (ys, k, l) e = (xs ++ ys, consumes_more a b c xs ys h k, omega (arith, length-append xs ys))

pub took_more_at_most : (a b c : Option (List ℕ)) (xs : List ℕ) (m n : ℕ) → Consumes a b xs → TookAtMost b c m → length xs + m ≤ n → TookAtMost a c n
took_more_at_most a b c xs m n h (ys, k, l) e = (xs ++ ys, consumes_more a b c xs ys h k, omega (arith, length-append xs ys))

-- the front of the rest is copied, and the rest goes on behind it
pub copied : (bytes rest copy tail : List ℕ) (at n : ℕ) → rest ≡ drop at bytes → copy ≡ take n rest → n ≤ length rest → drop at bytes ≡ take n (copy ++ tail) ++ drop (at + n) bytes
copied bytes rest copy tail at n r e l =
    let size : length copy ≡ n = ap length e ∙ omega (arith, length-take n rest) in
    sym (ap (λ front. front ++ drop (at + n) bytes) (take_at copy tail n size ∙ e ∙ ap (take n) r) ∙ ap (λ more. take n (drop at bytes) ++ more) (sym (drop-drop n at bytes)) ∙ take-append-drop n (drop at bytes))
