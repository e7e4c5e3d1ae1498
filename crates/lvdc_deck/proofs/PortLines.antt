-- A line of PORTS, by its first word, and one of UNPLUG, by its tokens.
use Rattle.std.proofs.Common.{◌≡◌, ℕ, ◌<◌, ◌≤◌, Bool, true, false, List, [], ◌∷◌, ◌++◌, codes, map, length, get_or, drop, Option, None, Some, Result, Ok, Err, refl, sym, ap, ◌∙◌, arith}
use Rattle.std.specs.Bool.{if◌then◌else◌}
use Rattle.std.specs.Str.{bytes_eq}
use Rattle.std.specs.Prelude.{is_some}
use Rattle.lvdc_text.specs.declared.cutting.Token.{Token}
use Rattle.lvdc_port.specs.Device.{Device}
use Rattle.lvdc_port.specs.declared.device.Kind.{Kind}
use Rattle.lvdc_plain.specs.declared.records.Unplug.{Unplug}
use Rattle.lvdc_deck.specs.declared.fault.DeckFault.{DeckFault}
use Rattle.lvdc_deck.specs.declared.fault.DeckFault.TheVariants.{BadLine, NoDevice}
use Rattle.lvdc_deck.specs.Sections.{Sections, port_in, time_in, kind_left, tape_line, unplug_at, with_unplug, unplug_line, port_line}

module _ (devices : List Device) (s : Sections) (number : ℕ) (text_of : Token → List ℕ) (tokens words : List Token) (d : Token)
    (long : 1 ≤ length tokens) (rest : words ≡ drop 1 tokens) (first : List ℕ) (more : List (List ℕ)) (are : map text_of tokens ≡ first ∷ more) where
  port-first : port_line devices s number (text_of (get_or tokens 0 d)) (map text_of words) ≡ port_line devices s number first more
  port-first = by tokens long rest are where
    of : List (List ℕ) → Result Sections DeckFault
    of [] = Err (BadLine number)
    of (word ∷ texts) = port_line devices s number word texts

    by : (ts : List Token) → 1 ≤ length ts → words ≡ drop 1 ts → map text_of ts ≡ first ∷ more →
        port_line devices s number (text_of (get_or ts 0 d)) (map text_of words) ≡ port_line devices s number first more
    by [] least is texts = absurd (omega arith)
    by (token ∷ later) least is texts = ap (λ (later : List Token). port_line devices s number (text_of token) (map text_of later)) is ∙ ap of texts

  -- what these tests say of the first word
  port-by : (tape unplug : Bool) → bytes_eq (text_of (get_or tokens 0 d)) (codes "TAPE") ≡ tape → bytes_eq (text_of (get_or tokens 0 d)) (codes "UNPLUG") ≡ unplug →
      (if tape then tape_line devices s number (map text_of words) else (if unplug then unplug_line devices s number (map text_of words) else Err (BadLine number)))
      ≡ port_line devices s number first more
  port-by tape unplug is_1 is_2 =
      ap (λ (t : Bool). if t then tape_line devices s number (map text_of words) else (if unplug then unplug_line devices s number (map text_of words) else Err (BadLine number))) (sym is_1)
      ∙ ap (λ (t : Bool). if bytes_eq (text_of (get_or tokens 0 d)) (codes "TAPE") then tape_line devices s number (map text_of words)
      else (if t then unplug_line devices s number (map text_of words) else Err (BadLine number))) (sym is_2)
      ∙ port-first

  pub port-tape : bytes_eq (text_of (get_or tokens 0 d)) (codes "TAPE") ≡ true → tape_line devices s number (map text_of words) ≡ port_line devices s number first more
  port-tape tape = port-by true (bytes_eq (text_of (get_or tokens 0 d)) (codes "UNPLUG")) tape refl

  pub port-unplug : bytes_eq (text_of (get_or tokens 0 d)) (codes "TAPE") ≡ false → bytes_eq (text_of (get_or tokens 0 d)) (codes "UNPLUG") ≡ true →
      unplug_line devices s number (map text_of words) ≡ port_line devices s number first more
  port-unplug tape unplug = port-by false true tape unplug

  pub port-other : bytes_eq (text_of (get_or tokens 0 d)) (codes "TAPE") ≡ false → bytes_eq (text_of (get_or tokens 0 d)) (codes "UNPLUG") ≡ false →
      port_line devices s number first more ≡ Err (BadLine number)
  port-other tape unplug = sym (port-by false false tape unplug)

-- no line is kept where there is no device
no_device : (s : Sections) (number port time : ℕ) (kind : Option Kind) → is_some kind ≡ false → unplug_at kind s number port time ≡ Err (NoDevice number)
no_device s number port time None none = refl
no_device s number port time (Some kind) none = cc

-- it is kept where there is one
a_device : (s : Sections) (number port time : ℕ) (kind : Option Kind) → is_some kind ≡ true →
    unplug_at kind s number port time ≡ Ok (record s { unplugs = s.unplugs ++ record { port = port; time = time } ∷ [] })
a_device s number port time None some = cc
a_device s number port time (Some kind) some = refl

module _ (devices : List Device) (s : Sections) (number : ℕ) (text_of : Token → List ℕ) (tokens : List Token) (d : Token)
    (least : 2 ≤ length tokens) (most : length tokens < 3) where
  unplug-two : unplug_line devices s number (map text_of tokens)
      ≡ with_unplug devices s number (port_in (text_of (get_or tokens 0 d))) (time_in (text_of (get_or tokens 1 d)))
  unplug-two = by tokens (omega (arith, least, most)) where
    by : (ts : List Token) → length ts ≡ 2 → unplug_line devices s number (map text_of ts)
        ≡ with_unplug devices s number (port_in (text_of (get_or ts 0 d))) (time_in (text_of (get_or ts 1 d)))
    by [] is = absurd (omega arith)
    by (port ∷ []) is = absurd (omega arith)
    by (port ∷ time ∷ []) is = refl
    by (port ∷ time ∷ more ∷ others) is = absurd (omega arith)

  -- what is no port is refused
  pub unplug-no_port : port_in (text_of (get_or tokens 0 d)) ≡ None → unplug_line devices s number (map text_of tokens) ≡ Err (BadLine number)
  unplug-no_port none = unplug-two ∙ ap (λ (p : Option ℕ). with_unplug devices s number p (time_in (text_of (get_or tokens 1 d)))) none

  module _ (port : ℕ) (is : port_in (text_of (get_or tokens 0 d)) ≡ Some port) where
    with-port : unplug_line devices s number (map text_of tokens) ≡ with_unplug devices s number (Some port) (time_in (text_of (get_or tokens 1 d)))
    with-port = unplug-two ∙ ap (λ (p : Option ℕ). with_unplug devices s number p (time_in (text_of (get_or tokens 1 d)))) is

    -- so is what is no time
    pub unplug-no_time : time_in (text_of (get_or tokens 1 d)) ≡ None → unplug_line devices s number (map text_of tokens) ≡ Err (BadLine number)
    unplug-no_time none = with-port ∙ ap (with_unplug devices s number (Some port)) none

    module _ (time : ℕ) (at : time_in (text_of (get_or tokens 1 d)) ≡ Some time) (kind : Option Kind) (left : kind ≡ kind_left devices s port) where
      with-kind : unplug_line devices s number (map text_of tokens) ≡ unplug_at kind s number port time
      with-kind = with-port ∙ ap (with_unplug devices s number (Some port)) at ∙ ap (λ (k : Option Kind). unplug_at k s number port time) (sym left)

      -- and a port without a device
      pub unplug-no_device : is_some kind ≡ false → unplug_line devices s number (map text_of tokens) ≡ Err (NoDevice number)
      unplug-no_device none = with-kind ∙ no_device s number port time kind none

      pub unplug-kept : is_some kind ≡ true → (t : Sections) → t ≡ s → (unplugs : List Unplug) → unplugs ≡ t.unplugs ++ record { port = port; time = time } ∷ [] →
          unplug_line devices s number (map text_of tokens) ≡ Ok (record t { unplugs = unplugs })
      unplug-kept some t same unplugs are =
          with-kind ∙ a_device s number port time kind some
          ∙ ap (λ (x : Sections). Ok (record x { unplugs = x.unplugs ++ record { port = port; time = time } ∷ [] })) (sym same)
          ∙ ap (λ (us : List Unplug). Ok (record t { unplugs = us })) (sym are)
