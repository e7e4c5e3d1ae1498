-- The words that devices hold are those of a saved state.
use Rattle.std.proofs.Common.{◌≡◌, ◌≢◌, ℕ, zero, suc, ◌+◌, ◌≤◌, ◌==◌, true, false, List, [], ◌∷◌, ◌++◌, All, map, length, get_or, None, Some, refl, sym, ap, subst, ◌∙◌, arith}
use Rattle.std.specs.Bool.{if◌then◌else◌}
use Rattle.std.specs.List.{flat_map, range_with_len, AllPairs}
use Rattle.std.proofs.lemmas.List.Elements.{All-nil, All-cons, All-head, All-tail, All-append}
use Rattle.std.proofs.lemmas.List.Kept.{AllPairs-cons}
use Rattle.lvdc_port.specs.Device.{Device}
use Rattle.lvdc_port.specs.declared.device.Kind.{Kind}
use Rattle.lvdc_port.specs.declared.device.Kind.TheVariants.{Tape, Latch, Ticker, Recorder}
use Rattle.lvdc_port.specs.declared.requests.Supply.{Supply}
use Rattle.lvdc_deck.specs.Sections.{supply_of}
use Rattle.lvdc_save_read.specs.Accepted.{kind_among, HoldsWords, AreStates}
use Rattle.lvdc_cli.specs.Alike.{MayHold}
use Rattle.lvdc_command_save.specs.States.{state_at, states_of}
use Rattle.lvdc_cli.proofs.Renewing.{AreDevices}

-- a word is of a device at this port, of a kind that holds words
pub record IsWordAt (ds : List Device) (port : ℕ) (word : Supply) : Type 0 where
  pub at : word.port ≡ port
  pub kind : Kind
  pub there : kind_among ds port ≡ Some kind
  pub holds : kind ≢ Ticker

-- what is said of a word and a later one
abbrev pub MayFollow : List Device → Supply → Supply → Type 0
MayFollow ds word next = (word.port ≤ next.port) × (word.port ≡ next.port → kind_among ds word.port ≢ Some Latch)

-- ---- lists of words

pairs-nil : {X : Type 0} (R : X → X → Type 0) → AllPairs R []
pairs-nil R i j d less within = absurd (omega (arith, within))

all-mapped : {X Y : Type 0} (P : Y → Type 0) (f : X → Y) (xs : List X) → All (λ x. P (f x)) xs → All P (map f xs)
all-mapped P f [] h = All-nil P
all-mapped P f (x ∷ xs) h = All-cons P (f x) (map f xs) (All-head (λ y. P (f y)) x xs h) (all-mapped P f xs (All-tail (λ y. P (f y)) x xs h))

pairs-append : {X : Type 0} (R : X → X → Type 0) (xs ys : List X) → AllPairs R xs → AllPairs R ys → All (λ x. All (R x) ys) xs → AllPairs R (xs ++ ys)
pairs-append R [] ys some more both = more
pairs-append R (x ∷ xs) ys some more both =
    AllPairs-cons R x (xs ++ ys)
    (All-append (R x) xs ys (λ j d within. some 0 (suc j) d (omega arith) (omega (arith, within))) (All-head (λ y. All (R y) ys) x xs both))
    (pairs-append R xs ys (λ i j d less within. some (suc i) (suc j) d (omega (arith, less)) (omega (arith, within))) more
    (All-tail (λ y. All (R y) ys) x xs both))

-- ---- the words of one device

module _ (ds : List Device) (port : ℕ) (kind : Kind) (there : kind_among ds port ≡ Some kind) where
  each-word : (words : List ℕ) → kind ≢ Ticker → All (IsWordAt ds port) (supply_of port words)
  each-word [] holds = All-nil (IsWordAt ds port)
  each-word (word ∷ words) holds =
      All-cons (IsWordAt ds port) (record { port = port; word = word }) (supply_of port words)
      (record { at = refl; kind = kind; there = there; holds = holds }) (each-word words holds)

  each-pair : (words : List ℕ) → kind ≢ Latch → AllPairs (MayFollow ds) (supply_of port words)
  each-pair [] many = pairs-nil (MayFollow ds)
  each-pair (word ∷ words) many =
      AllPairs-cons (MayFollow ds) (record { port = port; word = word }) (supply_of port words)
      (all-mapped (MayFollow ds (record { port = port; word = word })) (λ w. record { port = port; word = w }) words
      (λ k d within. (omega arith, λ same latch. many (some-same (sym there ∙ latch)))))
      (each-pair words many)
    where
      some-same : {a b : Kind} → Some a ≡ Some b → a ≡ b
      some-same e = cc e

-- the words of the device at a port, one after another
pub record AreWordsAt (ds : List Device) (port : ℕ) (words : List Supply) : Type 0 where
  pub each : All (IsWordAt ds port) words
  pub pairs : AllPairs (MayFollow ds) words

one-word : {X : Type 0} (R : X → X → Type 0) (x : X) → AllPairs R (x ∷ [])
one-word R x i j d less within = absurd (omega (arith, less, within))

-- what a latch holds
latch-words : (ds : List Device) (port : ℕ) → kind_among ds port ≡ Some Latch → (words : List ℕ) → length words ≡ 1
    → AreWordsAt ds port (supply_of port words)
latch-words ds port there [] one = absurd (omega (arith, one))
latch-words ds port there (word ∷ []) one =
    record {
      each = each-word ds port Latch there (word ∷ []) (λ e. absurd (cc e));
      pairs = one-word (MayFollow ds) (record { port = port; word = word });
    }
latch-words ds port there (word ∷ next ∷ words) one = absurd (omega (arith, one))

device-words : (ds : List Device) (port : ℕ) (kind : Kind) → kind_among ds port ≡ Some kind → (words : List ℕ) → MayHold kind words
    → AreWordsAt ds port (supply_of port words)
device-words ds port Tape there words h =
    record { each = each-word ds port Tape there words (λ e. absurd (cc e)); pairs = each-pair ds port Tape there words (λ e. absurd (cc e)) }
device-words ds port Latch there words h = latch-words ds port there words h
device-words ds port Ticker there words h =
    subst (λ (ws : List ℕ). AreWordsAt ds port (supply_of port ws)) (sym h) (record { each = All-nil (IsWordAt ds port); pairs = pairs-nil (MayFollow ds) })
device-words ds port Recorder there words h =
    record { each = each-word ds port Recorder there words (λ e. absurd (cc e)); pairs = each-pair ds port Recorder there words (λ e. absurd (cc e)) }

-- they are words of the whole list
words-at : (whole : List Device) (port : ℕ) (ds : List Device) → AreDevices ds → kind_among whole port ≡ kind_among ds port
    → AreWordsAt whole port (state_at ds port)
words-at whole port [] h same = record { each = All-nil (IsWordAt whole port); pairs = pairs-nil (MayFollow whole) }
words-at whole port (d ∷ ds) h same =
    (elim (d.port == port) as (λ t. kind_among whole port ≡ (if t then Some d.kind else kind_among ds port)
    → AreWordsAt whole port (if t then supply_of port d.state else state_at ds port)) [
      | true ↦ λ e. device-words whole port d.kind e d.state h.0.words
      | false ↦ λ e. words-at whole port ds h.1 e
    ]) same

-- ---- the words of all ports

-- a word of a device at this port or a later one
pub record IsWordFrom (ds : List Device) (port : ℕ) (word : Supply) : Type 0 where
  pub later : port ≤ word.port
  pub is : IsWordAt ds word.port word

pub record AreWordsFrom (ds : List Device) (port : ℕ) (words : List Supply) : Type 0 where
  pub each : All (IsWordFrom ds port) words
  pub pairs : AllPairs (MayFollow ds) words

here-from : (ds : List Device) (port : ℕ) (word : Supply) → IsWordAt ds port word → IsWordFrom ds port word
here-from ds port word h =
    let at = h.at in
    record { later = omega (arith, at); is = subst (λ (p : ℕ). IsWordAt ds p word) (sym at) h }

next-from : (ds : List Device) (port : ℕ) (word : Supply) → IsWordFrom ds (port + 1) word → IsWordFrom ds port word
next-from ds port word h = let later = h.later in record { later = omega (arith, later); is = h.is }

-- a word of a later port may follow
may-follow : (ds : List Device) (port : ℕ) (word next : Supply) → IsWordAt ds port word → IsWordFrom ds (port + 1) next → MayFollow ds word next
may-follow ds port word next h n =
    let at = h.at in
    let later = n.later in
    (omega (arith, at, later), λ same. absurd (omega (arith, at, later, same)))

words-from : (ds : List Device) → AreDevices ds → (count port : ℕ) → AreWordsFrom ds port (flat_map (state_at ds) (range_with_len port count))
words-from ds h zero port = record { each = All-nil (IsWordFrom ds port); pairs = pairs-nil (MayFollow ds) }
words-from ds h (suc count) port =
    let first = words-at ds port ds h refl in
    let rest = words-from ds h count (port + 1) in
    let now = state_at ds port in
    let later = flat_map (state_at ds) (range_with_len (port + 1) count) in
    record {
      each = All-append (IsWordFrom ds port) now later (λ k d within. here-from ds port (get_or now k d) (first.each k d within))
          (λ k d within. next-from ds port (get_or later k d) (rest.each k d within));
      pairs = pairs-append (MayFollow ds) now later first.pairs rest.pairs
          (λ k d within j e inside. may-follow ds port (get_or now k d) (get_or later j e) (first.each k d within) (rest.each j e inside));
    }

-- ---- the words of a saved state

module _ (now ds : List Device) (h : AreDevices ds)
    (kinds : (port : ℕ) (kind : Kind) → kind_among ds port ≡ Some kind → kind_among now port ≡ Some kind) where
  all-words : AreWordsFrom ds 0 (states_of ds)
  unfolding states_of
  all-words = words-from ds h 256 0

  held-by : (word : Supply) → IsWordFrom ds 0 word → HoldsWords now word.port
  held-by word w =
      let there = kinds word.port w.is.kind w.is.there in
      let holds = w.is.holds in
      record { there = λ none. absurd (cc (none, there)); kind = λ ticker. holds (some-same (sym there ∙ ticker)) }
    where
      some-same : {a b : Kind} → Some a ≡ Some b → a ≡ b
      some-same e = cc e

  single-by : (word next : Supply) → IsWordFrom ds 0 word → MayFollow ds word next → word.port ≡ next.port → kind_among now word.port ≢ Some Latch
  single-by word next w may same latch =
      let there = kinds word.port w.is.kind w.is.there in
      may.1 same (w.is.there ∙ sym there ∙ latch)

  pub words-held : AreStates now (states_of ds)
  words-held =
      record {
        held = λ k d within. held-by (get_or (states_of ds) k d) (all-words.each k d within);
        rise = λ i j d less within. (all-words.pairs i j d less within).0;
        single = λ i j d less within. single-by (get_or (states_of ds) i d) (get_or (states_of ds) j d)
            (all-words.each i d (omega (arith, less, within))) (all-words.pairs i j d less within);
      }

  -- none is of a port without a device
  pub words-gone : (port : ℕ) → kind_among ds port ≡ None → All (λ word. word.port ≢ port) (states_of ds)
  words-gone port none k d within same =
      let w = all-words.each k d within in
      absurd (cc (none, sym (ap (kind_among ds) same) ∙ w.is.there))
