-- The words of devices, gathered one after another.
use Rattle.std.proofs.Common.{◌≡◌, ℕ, zero, suc, ◌+◌, ◌-◌, ◌<◌, ◌≤◌, Bool, true, false, List, [], ◌∷◌, ◌++◌, length, map, take, drop, get_or, None, Some, sym, ap, ◌∙◌, arith, append_assoc, length-append, zero-add, add-zero}
use Rattle.std.proofs.Math.Numerals.{add-one}
use Rattle.std.specs.Prelude.{◌==◌, slice_get}
use Rattle.std.specs.Bool.{if◌then◌else◌}
use Rattle.std.specs.List.{flat_map, range_with_len}
use Rattle.std.proofs.lemmas.List.{append-nil, drop_more, drop_all, take_all, take_more, map-append}
use Rattle.std.proofs.lemmas.Option.{slice_get_within, get_or_from_slice_get}
use Rattle.lvdc_port.specs.Device.{Device}
use Rattle.lvdc_port.specs.declared.requests.Supply.{Supply}
use Rattle.lvdc_deck.specs.Sections.{supply_of}
use Rattle.lvdc_command_save.specs.States.{state_at, states_of}

-- ---- the words of one device

-- after those before them stand the first words of a device, as many as were added since
pub record HasWords (port : ℕ) (state : List ℕ) (before : List Supply) (first : ℕ) (now : List Supply) : Type 0 where
  pub later : first ≤ length now
  pub within : length now - first ≤ length state
  pub words : now ≡ before ++ supply_of port (take (length now - first) state)

pub no-word : (port : ℕ) (state : List ℕ) (now : List Supply) (first : ℕ) → first ≡ length now → HasWords port state now first now
no-word port state now first is =
    let none : length now - first ≡ 0 = omega (arith, is) in
    record {
      later = omega (arith, is);
      within = omega (arith, none);
      words = sym (append-nil now) ∙ ap (λ (k : ℕ). now ++ supply_of port (take k state)) (sym none);
    }

-- a word more
word-taken : (port : ℕ) (state : List ℕ) (before now next : List Supply) (k : ℕ) (w : ℕ) → slice_get state k ≡ Some w
    → now ≡ before ++ supply_of port (take k state) → next ≡ now ++ record { port = port; word = w } ∷ []
    → next ≡ before ++ supply_of port (take (k + 1) state)
word-taken port state before now next k w here so_far is =
    let within = slice_get_within state k w here in
    let taken : take (k + 1) state ≡ take k state ++ w ∷ [] =
    take_more state k 0 within ∙ ap (λ (x : ℕ). take k state ++ x ∷ []) (get_or_from_slice_get state k w 0 here) in
    is ∙ ap (λ (ss : List Supply). ss ++ record { port = port; word = w } ∷ []) so_far
    ∙ append_assoc before (supply_of port (take k state)) (record { port = port; word = w } ∷ [])
    ∙ ap (λ (ss : List Supply). before ++ ss) (sym (map-append (λ (v : ℕ). record { port = port; word = v }) (take k state) (w ∷ [])))
    ∙ ap (λ (ws : List ℕ). before ++ supply_of port ws) (sym taken)

pub word-more : (port : ℕ) (state : List ℕ) (before : List Supply) (first : ℕ) (now next : List Supply) (k w : ℕ) → HasWords port state before first now
    → k ≡ length now - first → slice_get state k ≡ Some w → next ≡ now ++ record { port = port; word = w } ∷ [] → HasWords port state before first next
word-more port state before first now next k w h at here is =
    let found : slice_get state (length now - first) ≡ Some w = ap (slice_get state) (sym at) ∙ here in
    let inside = slice_get_within state (length now - first) w found in
    let grown = ap length is ∙ length-append now (record { port = port; word = w } ∷ []) in
    let later = h.later in
    let next_at : length now - first + 1 ≡ length next - first = omega (arith, grown, later) in
    record {
      later = omega (arith, grown, later);
      within = omega (arith, grown, later, inside);
      words = word-taken port state before now next (length now - first) w found h.words is
          ∙ ap (λ (n : ℕ). before ++ supply_of port (take n state)) next_at;
    }

-- no word is left
none-left : (state : List ℕ) (k : ℕ) → slice_get state k ≡ None → length state ≤ k
none-left [] k e = omega arith
none-left (x ∷ state) zero e = absurd (cc)
none-left (x ∷ state) (suc k) e = let rest = none-left state k e in omega (arith, rest)

pub words-done : (port : ℕ) (state : List ℕ) (before now : List Supply) (first k : ℕ) → HasWords port state before first now
    → k ≡ length now - first → slice_get state k ≡ None → now ≡ before ++ supply_of port state
words-done port state before now first k h at none =
    let all = none-left state k none in
    h.words ∙ ap (λ (ws : List ℕ). before ++ supply_of port ws) (take_all (length now - first) state (omega (arith, all, at)))

-- ---- the device at a port

module _ {B : Type 0} (device_of : B → Device) (port : ℕ) (devices : List B) (i : ℕ) (device : B) (total : List Supply)
    (so_far : state_at (map device_of (drop i devices)) port ≡ total) where
  by_port : i < length devices → device ≡ get_or devices i device → (b : Bool) → ((device_of device).port == port) ≡ b
      → (if b then supply_of port (device_of device).state else state_at (map device_of (drop (i + 1) devices)) port) ≡ total
  by_port within is b e =
      ap (λ (t : Bool). if t then supply_of port (device_of device).state else state_at (map device_of (drop (i + 1) devices)) port) (sym e)
      ∙ ap (λ (x : B). state_at (map device_of (x ∷ drop (i + 1) devices)) port) is
      ∙ ap (λ (bs : List B). state_at (map device_of bs) port) (sym (drop_more devices i device within)) ∙ so_far

  pub device-here : i < length devices → device ≡ get_or devices i device → ((device_of device).port == port) ≡ true
      → supply_of port (device_of device).state ≡ total
  device-here within is e = by_port within is true e

  pub device-more : i < length devices → device ≡ get_or devices i device → ((device_of device).port == port) ≡ false
      → state_at (map device_of (drop (i + 1) devices)) port ≡ total
  device-more within is e = by_port within is false e

-- its words are added
pub device-added : (old now next words total : List Supply) → now ≡ old → words ≡ total → next ≡ now ++ words → next ≡ old ++ total
device-added old now next words total n w is = is ∙ (λ i. n i ++ w i)

-- there is none
pub device-none : {B : Type 0} (device_of : B → Device) (port : ℕ) (devices : List B) (i : ℕ) (total : List Supply)
    → state_at (map device_of (drop i devices)) port ≡ total → length devices ≤ i → total ≡ []
device-none device_of port devices i total so_far all = sym so_far ∙ ap (λ bs. state_at (map device_of bs) port) (drop_all i devices all)

-- ---- all ports

-- the numbers from one on, and the next
range-more : (a n : ℕ) → range_with_len a (suc n) ≡ range_with_len a n ++ (a + n) ∷ []
range-more a zero = ap (λ (k : ℕ). k ∷ []) (sym (add-zero a))
range-more a (suc n) =
    let next : a + 1 + n ≡ a + suc n = omega arith in
    ap (λ (ks : List ℕ). a ∷ ks) (range-more (a + 1) n ∙ ap (λ (k : ℕ). range_with_len (a + 1) n ++ k ∷ []) next)

joined : (f : ℕ → List Supply) (xs : List ℕ) (n : ℕ) → flat_map f (xs ++ n ∷ []) ≡ flat_map f xs ++ f n
joined f [] n = append-nil (f n)
joined f (x ∷ xs) n = ap (λ (ss : List Supply). f x ++ ss) (joined f xs n) ∙ sym (append_assoc (f x) (flat_map f xs) (f n))

pub port-more : (f : ℕ → List Supply) (port : ℕ) (now next : List Supply) → now ≡ flat_map f (range_with_len 0 port) → next ≡ now ++ f port
    → next ≡ flat_map f (range_with_len 0 (port + 1))
port-more f port now next so_far is =
    is ∙ ap (λ (ss : List Supply). ss ++ f port) so_far ∙ sym (joined f (range_with_len 0 port) port)
    ∙ ap (flat_map f) (ap (λ (k : ℕ). range_with_len 0 port ++ k ∷ []) (sym (zero-add port)) ∙ sym (range-more 0 port) ∙ ap (range_with_len 0) (sym (add-one port)))

-- every port was passed
pub all-ports : (devices : List Device) (port : ℕ) (now : List Supply) → now ≡ flat_map (state_at devices) (range_with_len 0 port) → port ≡ 256
    → now ≡ states_of devices
unfolding states_of
all-ports devices port now so_far is = so_far ∙ ap (λ (n : ℕ). flat_map (state_at devices) (range_with_len 0 n)) is
