-- Worked values of the definitions.
use Rattle.std.proofs.Common.{◌≡◌, ◌≢◌, ℕ, zero, suc, ◌<◌, [], ◌∷◌, Result, Ok, Err, Some, None, refl, subst, arith, lit<}
use Rattle.std.specs.Prelude.{codes}
use Rattle.std.specs.Fmt.{digits}
use Rattle.std.specs.IoError.{error_kind}
use Rattle.std.specs.declared.io.Error.{Error}
use Rattle.std.specs.declared.io.ErrorKind.TheVariants.{Interrupted}
use Rattle.lvdc_text.specs.Lines.{numbered_part, lines_from, lines_of, token_at, tokens_from, tokens_of}
use Rattle.lvdc_text.specs.Numbers.{number_of, octal_text}
use Rattle.lvdc_text.specs.Pieces.{pieces_text, fields_text}
use Rattle.lvdc_text.specs.declared.pieces.Piece.TheVariants.{Decimal, Small, Octal, Word, Cell, Address}
use Rattle.lvdc_text.specs.Room.{TakesSome, UsesRoom}
use Rattle.lvdc_text.specs.Tries.{WereInterrupted, IsTried, most_tries}
use Rattle.lvdc_text.specs.Tries.IsTried.{answered, given_up}

cr_stays_at_the_end : lines_of (65 ∷ 13 ∷ 10 ∷ 66 ∷ 13 ∷ []) ≡ numbered_part 1 0 1 ∷ numbered_part 2 3 2 ∷ []
unfolding lines_from
cr_stays_at_the_end = refl

nothing_after_the_last : lines_of (10 ∷ 13 ∷ 10 ∷ []) ≡ numbered_part 1 0 0 ∷ numbered_part 2 1 0 ∷ []
unfolding lines_from
nothing_after_the_last = refl

blanks_part_tokens : tokens_of (32 ∷ 65 ∷ 66 ∷ 9 ∷ 32 ∷ 55 ∷ []) ≡ token_at 1 2 ∷ token_at 5 1 ∷ []
unfolding tokens_from
blanks_part_tokens = refl

octal_with_zeros : number_of 8 3 (codes "017") ≡ Some 0o17
octal_with_zeros = refl

no_octal_eight : number_of 8 3 (codes "18") ≡ None
no_octal_eight = refl

no_digit : number_of 10 3 (codes "") ≡ None
no_digit = refl

one_digit_too_many : number_of 10 3 (codes "0001") ≡ None
one_digit_too_many = refl

zeros_in_front : octal_text 3 0o17 ≡ codes "017"
unfolding octal_text
zeros_in_front = refl

-- ---- pieces

pieces_of_each_kind :
    fields_text (Decimal 12 ∷ Small 3 ∷ Octal 0o17 3 ∷ Word 8 ∷ Cell 9 ∷ Address (record { pair = 3; sector = 0o17; loc = 0o376 }) ∷ [])
    ≡ codes " 12 3 017 000000010 0000000011 3 17 376\n"
unfolding digits octal_text
pieces_of_each_kind = refl

nothing_between_pieces : pieces_text (Small 1 ∷ Octal 2 2 ∷ []) ≡ codes "102"
unfolding digits octal_text
nothing_between_pieces = refl

-- ---- writes

-- no sink answers 0 to a piece that has a byte, so a text is written to its end, or a write fails
no_byte_of_one_is_taken : TakesSome {E = Unit {0}} (Ok 0) (65 ∷ []) → ⊥
no_byte_of_one_is_taken took =
    let some : 0 < 0 = took.1 (omega arith) in
    absurd (omega (arith, some))

no_byte_of_none_is_taken : TakesSome {E = Unit {0}} (Ok 0) []
no_byte_of_none_is_taken = (omega arith, λ some. some)

one_byte_of_two_is_taken : TakesSome {E = Unit {0}} (Ok 1) (65 ∷ 66 ∷ [])
one_byte_of_two_is_taken = (omega arith, λ some. omega arith)

room_for_what_is_taken : UsesRoom {E = Unit {0}} (Some 5) (Some 3) (Ok 2) × UsesRoom {E = Unit {0}} (Some 5) (Some 5) (Err tt) × UsesRoom {E = Unit {0}} None None (Ok 2)
room_for_what_is_taken = (refl, refl, tt)

-- ---- calls that are made again

-- a call that was interrupted, and then one that gave three bytes
three_bytes_after_a_signal : {S : Type 0} (call : S → Result ℕ Error → S → Type 0) (a b c : S) (signal : Error) → error_kind signal ≡ Interrupted → call a (Err signal) b → call b (Ok 3) c → IsTried call a (Ok 3) c
three_bytes_after_a_signal call a b c signal cut one two = answered 1 b (omega arith) (a, signal, refl, one, cut) two tt

-- the first of calls in a row that were interrupted
first_was : {S X : Type 0} (call : S → Result X Error → S → Type 0) (n : ℕ) (a z : S) → 0 < n → WereInterrupted call n a z → (signal : Error) × (b : S) × call a (Err signal) b × (error_kind signal ≡ Interrupted)
first_was call zero a z some were = absurd (omega (arith, some))
first_was {S} call (suc zero) a z some were = (were.1, z, subst (λ (s : S). call s (Err were.1) z) were.2 were.3, were.4)
first_was call (suc (suc n)) a z some were = first_was call (suc n) a were.0 (omega arith) were.2

-- where a call can only fail, and not by a signal, its error is told at once
not_by_a_signal : {S X : Type 0} (call : S → Result X Error → S → Type 0) (n : ℕ) (a z : S) (error : Error) → error_kind error ≢ Interrupted → ((any : Result X Error) (b : S) → call a any b → any ≡ Err error) → 0 < n → WereInterrupted call n a z → ⊥
not_by_a_signal {S} {X} call n a z error other fails some were =
    let first = first_was call n a z some were in
    let signal : Result X Error = Err first.0 in
    let told : Result X Error = Err error in
    let same : signal ≡ told = fails signal first.1 first.2 in
    let is : first.0 ≡ error = cc in
    other (subst (λ e. error_kind e ≡ Interrupted) is first.3)

another_error_is_told : {S : Type 0} (call : S → Result ℕ Error → S → Type 0) (a z : S) (error : Error) (answer : Result ℕ Error) → error_kind error ≢ Interrupted → ((any : Result ℕ Error) (b : S) → call a any b → any ≡ Err error) → IsTried call a answer z → answer ≡ Err error
another_error_is_told call a z error answer other fails (answered zero between below were once told) = fails answer z (subst (λ s. call s answer z) were once)
another_error_is_told call a z error answer other fails (answered (suc n) between below were once told) = absurd (not_by_a_signal call (suc n) a between error other fails (omega arith) were)
another_error_is_told call a z error answer other fails (given_up last were is late) = absurd (not_by_a_signal call most_tries a z error other fails (lit< tt) were)

-- where no call can be made nothing is told
no_call_no_answer : {S : Type 0} (a z : S) (answer : Result ℕ Error) → IsTried (λ before told after. ⊥) a answer z → ⊥
no_call_no_answer a z answer (answered interrupted between below were once told) = once
no_call_no_answer a z answer (given_up last were is late) = (first_was {X = ℕ} (λ before told after. ⊥) most_tries a z (lit< tt) were).2
