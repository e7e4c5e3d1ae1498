use Rattle.std.proofs.Common.{◌≡◌, ℕ, ◌≤◌, List, [], ◌∷◌, map, length, get_or, drop, Option, None, Some, refl, ap, ◌∙◌, arith}
use Rattle.std.specs.Prelude.{option_and_then}
use Rattle.std.proofs.lemmas.List.{take_rest}
use Rattle.std.proofs.lemmas.List.Elements.{All-drop}
use Rattle.lvdc_map.specs.Address.{Spot}
use Rattle.lvdc_text.specs.Lines.{LiesIn, token_text}
use Rattle.lvdc_text.specs.declared.cutting.Token.{Token}
use Rattle.lvdc_lines.specs.Fields.{place_in}
use Rattle.lvdc_uplink.specs.Messages.{id_in, count_in, checked_in, frame_of, frame_in}
use Rattle.lvdc_uplink.proofs.Words.{no_token}
use Rattle.lvdc_uplink.proofs.fields.frame_in.Goals as goal

-- five fields and more, and what each means
frame-of : (text_of : Token → List ℕ) (fields : List Token) (d : Token) → 5 ≤ length fields → (id number : Option ℕ) (place : Option Spot)
    → id ≡ id_in (text_of (get_or fields 0 d)) → number ≡ count_in (text_of (get_or fields 1 d))
    → place ≡ place_in (text_of (get_or fields 2 d)) (text_of (get_or fields 3 d)) (text_of (get_or fields 4 d))
    → frame_of id number (option_and_then (λ at. checked_in at (map text_of (drop 5 fields))) place) ≡ frame_in (map text_of fields)
frame-of text_of (a ∷ b ∷ p ∷ s ∷ l ∷ rest) d long id number place is-id is-number is-place =
    λ i. frame_of (is-id i) (is-number i) (option_and_then (λ at. checked_in at (map text_of rest)) (is-place i))
frame-of text_of (a ∷ b ∷ p ∷ s ∷ []) d long id number place is-id is-number is-place = absurd (omega arith)
frame-of text_of (a ∷ b ∷ p ∷ []) d long id number place is-id is-number is-place = absurd (omega arith)
frame-of text_of (a ∷ b ∷ []) d long id number place is-id is-number is-place = absurd (omega arith)
frame-of text_of (a ∷ []) d long id number place is-id is-number is-place = absurd (omega arith)
frame-of text_of [] d long id number place is-id is-number is-place = absurd (omega arith)

pub token_text-requires : goal.token_text-requires
token_text-requires c = c.requires 0 _ (omega arith)

pub token_text-requires-2 : goal.token_text-requires-2
token_text-requires-2 c = c.requires 1 _ (omega arith)

pub token_text-requires-3 : goal.token_text-requires-3
token_text-requires-3 c = c.requires 2 _ (omega arith)

pub token_text-requires-4 : goal.token_text-requires-4
token_text-requires-4 c = c.requires 3 _ (omega arith)

pub token_text-requires-5 : goal.token_text-requires-5
token_text-requires-5 c = c.requires 4 _ (omega arith)

pub checked_in-requires-clause-within : goal.checked_in-requires-clause-within
checked_in-requires-clause-within c = rw take_rest (All-drop (LiesIn c.args.text.now) 5 c.args.fields.now c.requires)

pub returns-in_err-id-clause-message : goal.returns-in_err-id-clause-message
returns-in_err-id-clause-message c =
    c.from_residual.ensures
    ∙ frame-of (token_text c.args.text.now) c.args.fields.now no_token c.in-len5-up.len_at_least None _ _ (c.in_err-id.ensures.value ∙ ap id_in c.token_text.ensures) refl refl

pub returns-in_err-number-clause-message : goal.returns-in_err-number-clause-message
returns-in_err-number-clause-message c =
    c.from_residual-in_err-number.ensures
    ∙ frame-of (token_text c.args.text.now) c.args.fields.now no_token c.in-len5-up.len_at_least (Some c.in_ok-id.id) None _ (c.in_ok-id.ensures.value ∙ ap id_in c.token_text.ensures)
    (c.in_err-number.ensures.value ∙ ap count_in c.token_text-2.ensures) refl

pub returns-in_err-at-clause-message : goal.returns-in_err-at-clause-message
returns-in_err-at-clause-message c =
    c.from_residual-in_err-at.ensures
    ∙ frame-of (token_text c.args.text.now) c.args.fields.now no_token c.in-len5-up.len_at_least (Some c.in_ok-id.id) (Some c.in_ok-number.number) None
    (c.in_ok-id.ensures.value ∙ ap id_in c.token_text.ensures) (c.in_ok-number.ensures.value ∙ ap count_in c.token_text-2.ensures)
    (c.in_err-at.ensures.value ∙ (λ i. place_in (c.token_text-3.ensures i) (c.token_text-4.ensures i) (c.token_text-5.ensures i)))

pub returns-in_err-frame-clause-message : goal.returns-in_err-frame-clause-message
returns-in_err-frame-clause-message c =
    c.from_residual-in_err-frame.ensures
    ∙ ap (frame_of (Some c.in_ok-id.id) (Some c.in_ok-number.number))
    (c.in_err-frame.ensures ∙ ap (λ (rest : List Token). checked_in c.in_ok-at.at (map (token_text c.args.text.now) rest)) (take_rest c.args.fields.now 5))
    ∙ frame-of (token_text c.args.text.now) c.args.fields.now no_token c.in-len5-up.len_at_least (Some c.in_ok-id.id) (Some c.in_ok-number.number) (Some c.in_ok-at.at)
    (c.in_ok-id.ensures.value ∙ ap id_in c.token_text.ensures) (c.in_ok-number.ensures.value ∙ ap count_in c.token_text-2.ensures)
    (c.in_ok-at.ensures.value ∙ (λ i. place_in (c.token_text-3.ensures i) (c.token_text-4.ensures i) (c.token_text-5.ensures i)))

pub returns-clause-message : goal.returns-clause-message
returns-clause-message c =
    ap (frame_of (Some c.in_ok-id.id) (Some c.in_ok-number.number))
    (c.in_ok-frame.ensures ∙ ap (λ (rest : List Token). checked_in c.in_ok-at.at (map (token_text c.args.text.now) rest)) (take_rest c.args.fields.now 5))
    ∙ frame-of (token_text c.args.text.now) c.args.fields.now no_token c.in-len5-up.len_at_least (Some c.in_ok-id.id) (Some c.in_ok-number.number) (Some c.in_ok-at.at)
    (c.in_ok-id.ensures.value ∙ ap id_in c.token_text.ensures) (c.in_ok-number.ensures.value ∙ ap count_in c.token_text-2.ensures)
    (c.in_ok-at.ensures.value ∙ (λ i. place_in (c.token_text-3.ensures i) (c.token_text-4.ensures i) (c.token_text-5.ensures i)))

pub returns-clause-ranges : goal.returns-clause-ranges
returns-clause-ranges c =
    let id = c.in_ok-id.ensures.range in
    let number = c.in_ok-number.ensures.range in (id.0, id.1, number.0, number.1)
