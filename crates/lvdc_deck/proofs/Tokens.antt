-- Tokens one after the other: the pairs of a SIMPLEX line, and the words of a TAPE line.
use Rattle.std.proofs.Common.{◌≡◌, ℕ, ◌+◌, ◌-◌, ◌*◌, ◌%◌, ◌^◌, ◌<◌, ◌≤◌, Bool, true, nat_le, nat_lt, ◌&&◌, List, [], ◌∷◌, ◌++◌, map, length, get_or, drop, Option, None, Some, option_map, refl, sym, ap, ◌∙◌, append_assoc, append-nil, arith, add-one}
use Rattle.std.specs.Bool.{if◌then◌else◌}
use Rattle.std.specs.Option.{SomeIff}
use Rattle.std.proofs.Math.Nat.{pow-le-pow_right, pow-suc}
use Rattle.std.proofs.lemmas.List.{drop_more, drop_all}
use Rattle.lvdc_text.specs.declared.cutting.Token.{Token}
use Rattle.lvdc_text.specs.Numbers.{word_in}
use Rattle.lvdc_port.specs.declared.requests.Supply.{Supply}
use Rattle.lvdc_deck.specs.Sections.{pairs_with, pairs_from, words_with, words_in, supply_of}

-- the texts of the tokens from an index on begin with that of the token there
pub texts-more : (text_of : Token → List ℕ) (tokens : List Token) (i : ℕ) (d : Token) → i < length tokens →
    map text_of (drop i tokens) ≡ text_of (get_or tokens i d) ∷ map text_of (drop (i + 1) tokens)
texts-more text_of tokens i d within = ap (map text_of) (drop_more tokens i d within)

pub texts-done : (text_of : Token → List ℕ) (tokens : List Token) (i : ℕ) → length tokens ≤ i → map text_of (drop i tokens) ≡ []
texts-done text_of tokens i all = ap (map text_of) (drop_all i tokens all)

-- what an index past the end reads
abbrev pub no_token : Token
no_token = record { start = 0; end = 0 }

-- ---- pairs

-- these pairs beside those that follow
abbrev pub and_pairs : ℕ → Option ℕ → Option ℕ
and_pairs pairs (Some later) = Some (pairs + later)
and_pairs pairs None = None

and_pairs-zero : (later : Option ℕ) → and_pairs 0 later ≡ later
and_pairs-zero (Some n) = ap (λ (m : ℕ). Some m) (omega arith)
and_pairs-zero None = refl

and_pairs-with : (pairs pair : ℕ) (later : Option ℕ) → and_pairs pairs (pairs_with pair later) ≡ and_pairs (pairs + 2 ^ pair) later
and_pairs-with pairs pair (Some n) = ap (λ (m : ℕ). Some m) (omega arith)
and_pairs-with pairs pair None = refl

pairs_from-digit : (least pair : ℕ) (tokens : List (List ℕ)) → least ≤ pair → pair < 4 →
    pairs_from least (((48 + pair) ∷ []) ∷ tokens) ≡ pairs_with pair (pairs_from (pair + 1) tokens)
pairs_from-digit least pair tokens from below =
    let low : nat_le (48 + least) (48 + pair) ≡ true = grind arith in
    let high : nat_lt (48 + pair) 52 ≡ true = grind arith in
    let here : (48 + pair) - 48 ≡ pair = omega arith in
    let next : (48 + pair) - 47 ≡ pair + 1 = omega arith in
    ap (λ (t : Bool). if t && nat_lt (48 + pair) 52 then pairs_with ((48 + pair) - 48) (pairs_from ((48 + pair) - 47) tokens) else None) low
    ∙ ap (λ (t : Bool). if t then pairs_with ((48 + pair) - 48) (pairs_from ((48 + pair) - 47) tokens) else None) high
    ∙ ap (λ (p : ℕ). pairs_with p (pairs_from ((48 + pair) - 47) tokens)) here
    ∙ ap (λ (l : ℕ). pairs_with pair (pairs_from l tokens)) next

pub pairs-none : (text_of : Token → List ℕ) (tokens : List Token) → and_pairs 0 (pairs_from 0 (map text_of (drop 0 tokens))) ≡ pairs_from 0 (map text_of tokens)
pairs-none text_of tokens = and_pairs-zero (pairs_from 0 (map text_of tokens))

module _ (text_of : Token → List ℕ) (tokens : List Token) (i : ℕ) (d : Token) (pairs least : ℕ) (total : Option ℕ)
    (so_far : and_pairs pairs (pairs_from least (map text_of (drop i tokens))) ≡ total) where
  pub pairs-more : i < length tokens → (pair : ℕ) → text_of (get_or tokens i d) ≡ (48 + pair) ∷ [] → least ≤ pair → pair < 4 →
      and_pairs (pairs + 2 ^ pair) (pairs_from (pair + 1) (map text_of (drop (i + 1) tokens))) ≡ total
  pairs-more within pair is from below =
      sym (and_pairs-with pairs pair (pairs_from (pair + 1) (map text_of (drop (i + 1) tokens))))
      ∙ ap (and_pairs pairs) (sym (pairs_from-digit least pair (map text_of (drop (i + 1) tokens)) from below))
      ∙ ap (λ (t : List ℕ). and_pairs pairs (pairs_from least (t ∷ map text_of (drop (i + 1) tokens)))) (sym is)
      ∙ ap (λ (ts : List (List ℕ)). and_pairs pairs (pairs_from least ts)) (sym (texts-more text_of tokens i d within))
      ∙ so_far

  pub pairs-bad : i < length tokens → ((later : List (List ℕ)) → pairs_from least (text_of (get_or tokens i d) ∷ later) ≡ None) → None ≡ total
  pairs-bad within none =
      ap (and_pairs pairs) (sym (none (map text_of (drop (i + 1) tokens))))
      ∙ ap (λ (ts : List (List ℕ)). and_pairs pairs (pairs_from least ts)) (sym (texts-more text_of tokens i d within))
      ∙ so_far

  pub pairs-done : length tokens ≤ i → Some pairs ≡ total
  pairs-done all =
      ap (λ (n : ℕ). Some n) (omega arith)
      ∙ ap (λ (ts : List (List ℕ)). and_pairs pairs (pairs_from least ts)) (sym (texts-done text_of tokens i all))
      ∙ so_far

-- the bit of a pair
pub bit-of : (pair : ℕ) → pair < 4 → 1 * 2 ^ pair % 256 ≡ 2 ^ pair
bit-of pair below =
    let small : 2 ^ pair ≤ 2 ^ 4 = pow-le-pow_right {n = 2} (omega arith) {i = pair} {j = 4} (omega arith) in omega arith

pub bits-more : (pairs least pair : ℕ) → pairs < 2 ^ least → least ≤ pair → pairs + 2 ^ pair < 2 ^ (pair + 1)
bits-more pairs least pair below from =
    let more : 2 ^ least ≤ 2 ^ pair = pow-le-pow_right {n = 2} (omega arith) {i = least} {j = pair} from in
    rw (add-one pair, pow-suc 2 pair) (omega arith)

pub bits-all : (pairs least : ℕ) → pairs < 2 ^ least → least ≤ 4 → pairs < 16
bits-all pairs least below most =
    let all : 2 ^ least ≤ 2 ^ 4 = pow-le-pow_right {n = 2} (omega arith) {i = least} {j = 4} most in omega arith

pub Some-of : (found : Option ℕ) (limit n : ℕ) → SomeIff found (n < limit) n → n < limit → found ≡ Some n
Some-of None limit n made below = absurd (made below)
Some-of (Some m) limit n made below = ap (λ (k : ℕ). Some k) made.1

-- ---- words for a tape

-- these words beside those that follow
abbrev pub and_supplies : List Supply → ℕ → Option (List ℕ) → Option (List Supply)
and_supplies supplies port (Some words) = Some (supplies ++ supply_of port words)
and_supplies supplies port None = None

pub and_supplies-none : (port : ℕ) (later : Option (List ℕ)) → and_supplies [] port later ≡ option_map (supply_of port) later
and_supplies-none port (Some words) = refl
and_supplies-none port None = refl

and_supplies-with : (supplies : List Supply) (port word : ℕ) (later : Option (List ℕ)) →
    and_supplies supplies port (words_with (Some word) later) ≡ and_supplies (supplies ++ record { port = port; word = word } ∷ []) port later
and_supplies-with supplies port word (Some words) =
    ap (λ (ss : List Supply). Some ss) (sym (append_assoc supplies (record { port = port; word = word } ∷ []) (supply_of port words)))
and_supplies-with supplies port word None = refl

module _ (text_of : Token → List ℕ) (tokens : List Token) (i : ℕ) (d : Token) (supplies : List Supply) (port : ℕ) (total : Option (List Supply))
    (so_far : and_supplies supplies port (words_in (map text_of (drop i tokens))) ≡ total) where
  by_word : i < length tokens → (found : Option ℕ) → word_in (text_of (get_or tokens i d)) ≡ found →
      and_supplies supplies port (words_with found (words_in (map text_of (drop (i + 1) tokens)))) ≡ total
  by_word within found is =
      ap (λ (w : Option ℕ). and_supplies supplies port (words_with w (words_in (map text_of (drop (i + 1) tokens))))) (sym is)
      ∙ ap (λ (ts : List (List ℕ)). and_supplies supplies port (words_in ts)) (sym (texts-more text_of tokens i d within))
      ∙ so_far

  pub supplies-more : i < length tokens → (word : ℕ) → word_in (text_of (get_or tokens i d)) ≡ Some word →
      and_supplies (supplies ++ record { port = port; word = word } ∷ []) port (words_in (map text_of (drop (i + 1) tokens))) ≡ total
  supplies-more within word is =
      sym (and_supplies-with supplies port word (words_in (map text_of (drop (i + 1) tokens)))) ∙ by_word within (Some word) is

  pub supplies-bad : i < length tokens → word_in (text_of (get_or tokens i d)) ≡ None → None ≡ total
  supplies-bad within is = by_word within None is

  pub supplies-done : length tokens ≤ i → Some supplies ≡ total
  supplies-done all =
      ap (λ (ss : List Supply). Some ss) (sym (append-nil supplies))
      ∙ ap (λ (ts : List (List ℕ)). and_supplies supplies port (words_in ts)) (sym (texts-done text_of tokens i all))
      ∙ so_far
