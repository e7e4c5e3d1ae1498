-- What was written, one text after another.
use Rattle.std.proofs.Common.{◌≡◌, ℕ, ◌+◌, ◌<◌, List, [], ◌∷◌, ◌++◌, length, take, Some, None, sym, ap, ◌∙◌, subst, append_assoc, arith, length-append}
use Rattle.std.specs.declared.option.Option.{Option}
use Rattle.std.specs.Io.KnownBytes.{Appends}
use Rattle.std.proofs.lemmas.List.{append-nil, take-append-le}
use Rattle.std.proofs.lemmas.List.Concat.{flat_map-append}
use Rattle.std.proofs.Math.Seq.{take-append-add}
use Rattle.lvdc_text.specs.Causes.{Rose}
use Rattle.lvdc_text.specs.Streams.{SinkState}
use Rattle.lvdc_service.specs.Served.{Reply, reply_with, reply_line, bytes_of, all_bytes}
use Rattle.lvdc_service.specs.Turns.{IsPart}

-- one text behind another
pub appends_both : (a b c : Option (List ℕ)) (xs ys : List ℕ) → Appends a b xs → Appends b c ys → Appends a c (xs ++ ys)
appends_both None b c xs ys h k = tt
appends_both (Some x) None c xs ys h k = absurd h
appends_both (Some x) (Some y) None xs ys h k = absurd k
appends_both (Some x) (Some y) (Some z) xs ys h k = k ∙ ap (λ r. r ++ ys) h ∙ append_assoc x xs ys

-- the bytes of one more reply
pub all_bytes_more : (replies : List Reply) (reply : Reply) → all_bytes (replies ++ reply ∷ []) ≡ all_bytes replies ++ bytes_of reply
all_bytes_more replies reply = flat_map-append bytes_of replies (reply ∷ []) ∙ ap (λ bytes. all_bytes replies ++ bytes) (append-nil (bytes_of reply))

pub appends_reply : (a b c : Option (List ℕ)) (replies : List Reply) (reply : Reply) → Appends a b (all_bytes replies) → Appends b c (bytes_of reply) → Appends a c (all_bytes (replies ++ reply ∷ []))
appends_reply a b c replies reply h k = rw (all_bytes_more replies reply) (appends_both a b c (all_bytes replies) (bytes_of reply) h k)

-- a front of one more reply
pub appends_front : (a b c : Option (List ℕ)) (replies : List Reply) (reply : Reply) (n : ℕ) → Appends a b (all_bytes replies) → Appends b c (take n (bytes_of reply))
    → Appends a c (take (length (all_bytes replies) + n) (all_bytes (replies ++ reply ∷ [])))
appends_front a b c replies reply n h k =
    rw (all_bytes_more replies reply, take-append-add (all_bytes replies) (bytes_of reply) n) (appends_both a b c (all_bytes replies) (take n (bytes_of reply)) h k)

pub front_fewer : (replies : List Reply) (reply : Reply) (n : ℕ) → n < length (bytes_of reply) → length (all_bytes replies) + n < length (all_bytes (replies ++ reply ∷ []))
front_fewer replies reply n l = omega (arith, ap length (all_bytes_more replies reply), length-append (all_bytes replies) (bytes_of reply))

-- ---- one reply

-- its line was cut
pub line_cut : (before after : SinkState) (status : ℕ) (text line : List ℕ) (n : ℕ) → line ≡ reply_line status (length text) → n < length line
    → Appends before.written after.written (take n line) → Rose before.faults after.faults → IsPart before after (reply_with status text)
line_cut before after status text line n is l told rose =
    let head = reply_line status (length text) in
    let fits : n < length head = subst (λ (bytes : List ℕ). n < length bytes) is l in
    let front : take n line ≡ take n (head ++ text) = ap (take n) is ∙ sym (take-append-le n head text (omega arith)) in
    record {
      count = n;
      fewer = omega (arith, length-append head text);
      appended = subst (Appends before.written after.written) front told;
      rose = rose;
    }

-- its text was
pub text_cut : (before middle after : SinkState) (status : ℕ) (text line : List ℕ) (n : ℕ) → line ≡ reply_line status (length text)
    → Appends before.written middle.written line → middle.faults ≡ before.faults → n < length text
    → Appends middle.written after.written (take n text) → Rose middle.faults after.faults → IsPart before after (reply_with status text)
text_cut before middle after status text line n is first quiet l told rose =
    let head = reply_line status (length text) in
    record {
      count = length head + n;
      fewer = omega (arith, length-append head text);
      appended = subst (Appends before.written after.written) (sym (take-append-add head text n))
          (appends_both before.written middle.written after.written head (take n text) (subst (Appends before.written middle.written) is first) told);
      rose = subst (λ k. Rose k after.faults) quiet rose;
    }
