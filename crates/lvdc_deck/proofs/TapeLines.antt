-- A line of TAPE, by its tokens.
use Rattle.std.proofs.Common.{◌≡◌, ℕ, ◌≤◌, true, false, not, eqb, List, [], ◌∷◌, map, length, get_or, drop, Option, None, Some, option_map, Err, refl, sym, ap, ◌∙◌, arith}
use Rattle.std.proofs.lemmas.Bool.{eqb-false}
use Rattle.std.specs.Option.{option_eq}
use Rattle.lvdc_text.specs.declared.cutting.Token.{Token}
use Rattle.lvdc_port.specs.Device.{Device}
use Rattle.lvdc_port.specs.declared.requests.Supply.{Supply}
use Rattle.lvdc_port.specs.declared.device.Kind.{Kind}
use Rattle.lvdc_port.specs.declared.device.Kind.TheVariants.{Tape, Latch, Ticker, Recorder}
use Rattle.lvdc_port.specs.contracts.device.KindPartialEq.TheImpl.{eq-value}
use Rattle.lvdc_deck.specs.declared.fault.DeckFault.TheVariants.{BadLine, NoDevice}
use Rattle.lvdc_deck.specs.Sections.{Sections, port_in, words_in, supply_of, kind_left, tape_at, with_tape, tape_line}

-- without supplies there are no words
pub no-words : (port : ℕ) (words : Option (List ℕ)) (supplies : Option (List Supply)) → supplies ≡ None → supplies ≡ option_map (supply_of port) words → words ≡ None
no-words port None supplies none is = refl
no-words port (Some ws) supplies none is = cc

-- the words that these supplies have
some-words : (port : ℕ) (words : Option (List ℕ)) (supplies : Option (List Supply)) (list : List Supply) → supplies ≡ Some list → supplies ≡ option_map (supply_of port) words
    → (ws : List ℕ) × (words ≡ Some ws) × (list ≡ supply_of port ws)
some-words port None supplies list some is = cc
some-words port (Some ws) supplies list some is = (ws, refl, cc)

-- no words are kept for what a test of kinds tells from a tape
no_tape : (s : Sections) (number port : ℕ) (words : List ℕ) (kind : Option Kind) → not (option_eq eq-value.it kind (Some Tape)) ≡ true
    → tape_at kind s number port words ≡ Err (NoDevice number)
no_tape s number port words None other = refl
no_tape s number port words (Some Tape) other = cc
no_tape s number port words (Some Latch) other = refl
no_tape s number port words (Some Ticker) other = refl
no_tape s number port words (Some Recorder) other = refl

module _ (devices : List Device) (s : Sections) (number : ℕ) (text_of : Token → List ℕ) (tokens words : List Token) (d : Token)
    (long : 1 ≤ length tokens) (rest : words ≡ drop 1 tokens) where
  -- a port and words are taken as they are
  pub tape-words : eqb (length words) 0 ≡ false →
      tape_line devices s number (map text_of tokens) ≡ with_tape devices s number (port_in (text_of (get_or tokens 0 d))) (words_in (map text_of words))
  tape-words some = by tokens long rest where
    by : (ts : List Token) → 1 ≤ length ts → words ≡ drop 1 ts →
        tape_line devices s number (map text_of ts) ≡ with_tape devices s number (port_in (text_of (get_or ts 0 d))) (words_in (map text_of words))
    by [] least is = absurd (omega arith)
    by (port ∷ []) least is = absurd (omega (arith, ap length is, eqb-false (length words) 0 some))
    by (port ∷ token ∷ more) least is =
        sym (ap (λ (ws : List Token). with_tape devices s number (port_in (text_of port)) (words_in (map text_of ws))) is)

  -- what is no port is refused
  pub tape-no_port : eqb (length words) 0 ≡ false → port_in (text_of (get_or tokens 0 d)) ≡ None →
      tape_line devices s number (map text_of tokens) ≡ Err (BadLine number)
  tape-no_port some none =
      tape-words some ∙ ap (λ (p : Option ℕ). with_tape devices s number p (words_in (map text_of words))) none

  -- so is a token that is no word
  pub tape-no_words : eqb (length words) 0 ≡ false → (port : ℕ) → port_in (text_of (get_or tokens 0 d)) ≡ Some port → words_in (map text_of words) ≡ None →
      tape_line devices s number (map text_of tokens) ≡ Err (BadLine number)
  tape-no_words some port is none =
      tape-words some ∙ ap (λ (p : Option ℕ). with_tape devices s number p (words_in (map text_of words))) is
      ∙ ap (with_tape devices s number (Some port)) none

  -- what is no tape gets no words
  pub tape-no_tape : eqb (length words) 0 ≡ false → (port : ℕ) → port_in (text_of (get_or tokens 0 d)) ≡ Some port
      → (supplies : Option (List Supply)) (list : List Supply) → supplies ≡ Some list → supplies ≡ option_map (supply_of port) (words_in (map text_of words))
      → (kind : Option Kind) → kind ≡ kind_left devices s port → not (option_eq eq-value.it kind (Some Tape)) ≡ true
      → tape_line devices s number (map text_of tokens) ≡ Err (NoDevice number)
  tape-no_tape some port is supplies list l w kind k other =
      let told = some-words port (words_in (map text_of words)) supplies list l w in
      tape-words some ∙ ap (λ (p : Option ℕ). with_tape devices s number p (words_in (map text_of words))) is
      ∙ ap (with_tape devices s number (Some port)) told.1
      ∙ ap (λ (left : Option Kind). tape_at left s number port told.0) (sym k) ∙ no_tape s number port told.0 kind other
