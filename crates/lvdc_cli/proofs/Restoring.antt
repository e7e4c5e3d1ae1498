-- Devices in their kinds' first states are given the words of others of the same ports and kinds: they are then those.
use Rattle.std.proofs.Common.{◌≡◌, ℕ, zero, suc, ◌+◌, ◌<◌, ◌≤◌, ◌==◌, nat_lt, Bool, true, false, List, [], ◌∷◌, ◌++◌, map, length, None, Some, refl, sym, ap, subst, ◌∙◌, arith, append_assoc, inl, inr, ◌⊎◌}
use Rattle.std.specs.Bool.{if◌then◌else◌}
use Rattle.std.specs.List.{flat_map, range_with_len}
use Rattle.std.specs.declared.option.Option.{Option}
use Rattle.std.proofs.lemmas.Bool.{true≢false, lt-ltb, le-ltb, eq-eqb, eqb-true, eqb-false, cases_lt}
use Rattle.std.proofs.lemmas.List.{append-nil}
use Rattle.lvdc_port.specs.Device.{Device, state_after_write, state_after_supply}
use Rattle.lvdc_port.specs.Devices.{has_port, AreDistinct}
use Rattle.lvdc_port.specs.Supplies.{kind_at}
use Rattle.lvdc_port.specs.declared.device.Kind.{Kind}
use Rattle.lvdc_port.specs.declared.device.Kind.TheVariants.{Tape, Latch, Ticker, Recorder}
use Rattle.lvdc_port.specs.declared.requests.Supply.{Supply}
use Rattle.lvdc_deck.specs.Sections.{supply_of}
use Rattle.lvdc_cli.specs.Alike.{first_words, renewed, MayHold, IsDevice}
use Rattle.lvdc_command_resume.specs.Restore.{after_state_by, after_state, with_states}
use Rattle.lvdc_command_save.specs.States.{state_at, states_of}
use Rattle.lvdc_cli.proofs.Renewing.{AreDevices}

-- ---- the words of one device

-- the words of a device of this kind after one more
abbrev after_word : Kind → List ℕ → ℕ → List ℕ
after_word Tape words word = state_after_supply Tape words word
after_word kind words word = state_after_write kind words word

-- after these
abbrev after_words : Kind → List ℕ → List ℕ → List ℕ
after_words kind words [] = words
after_words kind words (word ∷ more) = after_words kind (after_word kind words word) more

behind-tape : (words more : List ℕ) → after_words Tape words more ≡ words ++ more
behind-tape words [] = sym (append-nil words)
behind-tape words (word ∷ more) = behind-tape (words ++ word ∷ []) more ∙ append_assoc words (word ∷ []) more

behind-recorder : (words more : List ℕ) → after_words Recorder words more ≡ words ++ more
behind-recorder words [] = sym (append-nil words)
behind-recorder words (word ∷ more) = behind-recorder (words ++ word ∷ []) more ∙ append_assoc words (word ∷ []) more

latch-again : (words : List ℕ) → length words ≡ 1 → after_words Latch (0 ∷ []) words ≡ words
latch-again [] one = absurd (omega (arith, one))
latch-again (word ∷ []) one = refl
latch-again (word ∷ next ∷ words) one = absurd (omega (arith, one))

-- a device in its kind's first state, with all words of another
words-again : (kind : Kind) (words : List ℕ) → MayHold kind words → after_words kind (first_words kind) words ≡ words
words-again Tape words h = behind-tape [] words
words-again Latch words h = latch-again words h
words-again Ticker words h = ap (after_words Ticker []) h ∙ sym h
words-again Recorder words h = behind-recorder [] words

-- ---- the first device

abbrev with_words : Device → List ℕ → Device
with_words d words = record d { state = words }

state-here : (kind : Kind) (word : ℕ) (d : Device) (ds : List Device) → d.kind ≡ kind
    → after_state_by (Some kind) (record { port = d.port; word = word }) (d ∷ ds) ≡ with_words d (after_word kind d.state word) ∷ ds
state-here Tape word d ds is =
    rw (eq-eqb d.port d.port refl) (ap (λ (k : Kind). with_words d (state_after_supply k d.state word) ∷ ds) is)
state-here Latch word d ds is =
    rw (eq-eqb d.port d.port refl) (ap (λ (k : Kind). with_words d (state_after_write k d.state word) ∷ ds) is)
state-here Ticker word d ds is =
    rw (eq-eqb d.port d.port refl) (ap (λ (k : Kind). with_words d (state_after_write k d.state word) ∷ ds) is)
state-here Recorder word d ds is =
    rw (eq-eqb d.port d.port refl) (ap (λ (k : Kind). with_words d (state_after_write k d.state word) ∷ ds) is)

word-here : (word : ℕ) (d : Device) (ds : List Device)
    → after_state (record { port = d.port; word = word }) (d ∷ ds) ≡ with_words d (after_word d.kind d.state word) ∷ ds
word-here word d ds =
    ap (λ (t : Bool). after_state_by (if t then Some d.kind else kind_at (λ x. x) d.port ds) (record { port = d.port; word = word }) (d ∷ ds)) (eq-eqb d.port d.port refl)
    ∙ state-here d.kind word d ds refl

words-here : (words : List ℕ) (d : Device) (ds : List Device)
    → with_states (supply_of d.port words) (d ∷ ds) ≡ with_words d (after_words d.kind d.state words) ∷ ds
words-here [] d ds = refl
words-here (word ∷ words) d ds =
    ap (with_states (supply_of d.port words)) (word-here word d ds) ∙ words-here words (with_words d (after_word d.kind d.state word)) ds

-- ---- the devices behind it

state-behind : (kind : Option Kind) (s : Supply) (d : Device) (ds : List Device) → (d.port == s.port) ≡ false
    → after_state_by kind s (d ∷ ds) ≡ d ∷ after_state_by kind s ds
state-behind None s d ds other = rw other refl
state-behind (Some Tape) s d ds other = rw other refl
state-behind (Some Latch) s d ds other = rw other refl
state-behind (Some Ticker) s d ds other = rw other refl
state-behind (Some Recorder) s d ds other = rw other refl

word-behind : (s : Supply) (d : Device) (ds : List Device) → (d.port == s.port) ≡ false → after_state s (d ∷ ds) ≡ d ∷ after_state s ds
word-behind s d ds other =
    ap (λ (t : Bool). after_state_by (if t then Some d.kind else kind_at (λ x. x) s.port ds) s (d ∷ ds)) other
    ∙ state-behind (kind_at (λ x. x) s.port ds) s d ds other

words-behind : (port : ℕ) (words : List ℕ) (d : Device) (ds : List Device) → (d.port == port) ≡ false
    → with_states (supply_of port words) (d ∷ ds) ≡ d ∷ with_states (supply_of port words) ds
words-behind port [] d ds other = refl
words-behind port (word ∷ words) d ds other =
    ap (with_states (supply_of port words)) (word-behind (record { port = port; word = word }) d ds other)
    ∙ words-behind port words d (after_state (record { port = port; word = word }) ds) other

-- the words of the device at a port are given to the one behind the first
states-behind : (port : ℕ) (of : List Device) (d : Device) (ds : List Device) → (d.port == port) ≡ false
    → with_states (state_at of port) (d ∷ ds) ≡ d ∷ with_states (state_at of port) ds
states-behind port [] d ds other = refl
states-behind port (e ∷ of) d ds other =
    elim (e.port == port) as (λ t. with_states (if t then supply_of port e.state else state_at of port) (d ∷ ds)
    ≡ d ∷ with_states (if t then supply_of port e.state else state_at of port) ds)
    [ true ↦ words-behind port e.state d ds other | false ↦ states-behind port of d ds other ]

-- ---- port after port

-- a device after the words of all ports below this one
abbrev reached : ℕ → Device → Device
reached port d = if nat_lt d.port port then d else renewed d

reached-other : (port : ℕ) (d : Device) → (d.port == port) ≡ false → reached port d ≡ reached (suc port) d
reached-other port d other = by_order (cases_lt d.port port)
  where
    by_order : (d.port < port) ⊎ (port ≤ d.port) → reached port d ≡ reached (suc port) d
    by_order (inl below) = rw (lt-ltb d.port port below, lt-ltb d.port (suc port) (omega (arith, below))) refl
    by_order (inr above) =
        let apart = eqb-false d.port port other in
        rw (le-ltb d.port port above, le-ltb d.port (suc port) (omega (arith, above, apart))) refl

-- where no device is at the port, all are as before
reached-none : (port : ℕ) (ds : List Device) → has_port (λ d. d) port ds ≡ false → map (reached port) ds ≡ map (reached (suc port)) ds
reached-none port [] none = refl
reached-none port (d ∷ ds) none =
    (elim (d.port == port) as (λ t. (d.port == port) ≡ t → (if t then true else has_port (λ x. x) port ds) ≡ false
    → reached port d ∷ map (reached port) ds ≡ reached (suc port) d ∷ map (reached (suc port)) ds) [
      | true ↦ λ is e. absurd (true≢false e)
      | false ↦ λ is e. λ i. reached-other port d is i ∷ reached-none port ds e i
    ]) refl none

reached-port : (port : ℕ) (d : Device) → (reached port d).port ≡ d.port
reached-port port d = elim (nat_lt d.port port) as (λ t. (if t then d else renewed d).port ≡ d.port) [ true ↦ refl | false ↦ refl ]

-- the device at the port is given its words
given-here : (port : ℕ) (d : Device) (ds : List Device) → d.port ≡ port → IsDevice d
    → with_states (supply_of port d.state) (reached port d ∷ ds) ≡ reached (suc port) d ∷ ds
given-here port d ds is h =
    let before : reached port d ≡ renewed d = rw (le-ltb d.port port (omega (arith, is))) refl in
    let after : reached (suc port) d ≡ d = rw (lt-ltb d.port (suc port) (omega (arith, is))) refl in
    ap (λ (x : Device). with_states (supply_of port d.state) (x ∷ ds)) before
    ∙ ap (λ (p : ℕ). with_states (supply_of p d.state) (renewed d ∷ ds)) (sym is)
    ∙ words-here d.state (renewed d) ds
    ∙ ap (λ (words : List ℕ). with_words d words ∷ ds) (words-again d.kind d.state h.words)
    ∙ ap (λ (x : Device). x ∷ ds) (sym after)

port-given : (port : ℕ) (ds : List Device) → AreDistinct ds → AreDevices ds
    → with_states (state_at ds port) (map (reached port) ds) ≡ map (reached (suc port)) ds
port-given port [] apart h = refl
port-given port (d ∷ ds) apart h = by_port (port-given port ds apart.1 h.1) (d.port == port) refl
  where
    by_port : with_states (state_at ds port) (map (reached port) ds) ≡ map (reached (suc port)) ds → (t : Bool) → (d.port == port) ≡ t
        → with_states (state_at (d ∷ ds) port) (map (reached port) (d ∷ ds)) ≡ map (reached (suc port)) (d ∷ ds)
    by_port rest true is =
        let at = eqb-true d.port port is in
        ap (λ (t : Bool). with_states (if t then supply_of port d.state else state_at ds port) (map (reached port) (d ∷ ds))) is
        ∙ given-here port d (map (reached port) ds) at h.0
        ∙ ap (λ (xs : List Device). reached (suc port) d ∷ xs)
        (reached-none port ds (subst (λ (p : ℕ). has_port (λ x. x) p ds ≡ false) at apart.0))
    by_port rest false is =
        let other : ((reached port d).port == port) ≡ false = ap (λ (p : ℕ). p == port) (reached-port port d) ∙ is in
        ap (λ (t : Bool). with_states (if t then supply_of port d.state else state_at ds port) (map (reached port) (d ∷ ds))) is
        ∙ states-behind port ds (reached port d) (map (reached port) ds) other
        ∙ (λ i. reached-other port d is i ∷ rest i)

with-both : (some more : List Supply) (ds : List Device) → with_states (some ++ more) ds ≡ with_states more (with_states some ds)
with-both [] more ds = refl
with-both (s ∷ some) more ds = with-both some more (after_state s ds)

ports-given : (count port : ℕ) (ds : List Device) → AreDistinct ds → AreDevices ds
    → with_states (flat_map (state_at ds) (range_with_len port count)) (map (reached port) ds) ≡ map (reached (port + count)) ds
ports-given zero port ds apart h = ap (λ (k : ℕ). map (reached k) ds) (omega arith)
ports-given (suc count) port ds apart h =
    let next : port + 1 ≡ suc port = omega arith in
    let last : port + 1 + count ≡ port + suc count = omega arith in
    with-both (state_at ds port) (flat_map (state_at ds) (range_with_len (port + 1) count)) (map (reached port) ds)
    ∙ ap (with_states (flat_map (state_at ds) (range_with_len (port + 1) count)))
    (port-given port ds apart h ∙ ap (λ (k : ℕ). map (reached k) ds) (sym next))
    ∙ ports-given count (port + 1) ds apart h ∙ ap (λ (k : ℕ). map (reached k) ds) last

-- before the first port, and after the last
none-reached : (ds : List Device) → map (reached 0) ds ≡ map renewed ds
none-reached [] = refl
none-reached (d ∷ ds) = λ i. (if le-ltb d.port 0 (omega arith) i then d else renewed d) ∷ none-reached ds i

all-reached : (ds : List Device) → AreDevices ds → map (reached 256) ds ≡ ds
all-reached [] h = refl
all-reached (d ∷ ds) h = λ i. (if lt-ltb d.port 256 h.0.port i then d else renewed d) ∷ all-reached ds h.1 i

-- the devices again
pub restored : (ds : List Device) → AreDistinct ds → AreDevices ds → with_states (states_of ds) (map renewed ds) ≡ ds
unfolding states_of
restored ds apart h =
    ap (with_states (flat_map (state_at ds) (range_with_len 0 256))) (sym (none-reached ds))
    ∙ ports-given 256 0 ds apart h ∙ all-reached ds h
