-- Devices that hold words answer words, and hold words after an exchange, an unplugging and words supplied.
use Rattle.std.proofs.Common.{ℕ, ◌<◌, ◌^◌, ◌==◌, Bool, true, false, cond, List, [], ◌∷◌, All, arith}
use Rattle.std.specs.Bool.{if◌then◌else◌}
use Rattle.std.proofs.lemmas.List.Elements.{All-head, All-tail, All-cons, All-push}
use Rattle.lvdc_port.specs.Device.{Device, AreWords, word_by_kind, state_after_read, state_after_write, state_after_supply, after_supply}
use Rattle.lvdc_port.specs.Devices.{port_of, answer_of, after_request, exchange_word, after_exchange, without, HoldWords, CarriesWord}
use Rattle.lvdc_port.specs.Supplies.{after_supply_of, supplied}
use Rattle.lvdc_port.specs.declared.device.Kind.{Kind}
use Rattle.lvdc_port.specs.declared.device.Kind.TheVariants.{Tape, Latch, Ticker, Recorder}
use Rattle.lvdc_port.specs.declared.requests.PortRequest.{PortRequest}
use Rattle.lvdc_port.specs.declared.requests.PortRequest.TheVariants.{Read, Write}
use Rattle.lvdc_port.specs.declared.requests.Supply.{Supply}

word_by_kind_small : (kind : Kind) (state : List ℕ) (time : ℕ) → AreWords state → time < 2 ^ 26 →
    word_by_kind kind state time < 2 ^ 26
word_by_kind_small Tape [] time words small = omega arith
word_by_kind_small Tape (w ∷ ws) time words small = All-head (λ n. n < 2 ^ 26) w ws words
word_by_kind_small Latch [] time words small = omega arith
word_by_kind_small Latch (w ∷ ws) time words small = All-head (λ n. n < 2 ^ 26) w ws words
word_by_kind_small Ticker state time words small = small
word_by_kind_small Recorder state time words small = omega arith

words_after_read : (kind : Kind) (state : List ℕ) → AreWords state → AreWords (state_after_read kind state)
words_after_read Tape [] words = words
words_after_read Tape (w ∷ ws) words = All-tail (λ n. n < 2 ^ 26) w ws words
words_after_read Latch state words = words
words_after_read Ticker state words = words
words_after_read Recorder state words = words

words_after_write : (kind : Kind) (state : List ℕ) (word : ℕ) → AreWords state → word < 2 ^ 26 →
    AreWords (state_after_write kind state word)
words_after_write Tape state word words small = words
words_after_write Latch state word words small = All-push (λ n. n < 2 ^ 26) [] word (λ k d within. absurd (omega arith)) small
words_after_write Ticker state word words small = words
words_after_write Recorder state word words small = All-push (λ n. n < 2 ^ 26) state word words small

answer_small : (request : PortRequest) (time : ℕ) (device : Device) → AreWords device.state → time < 2 ^ 26 →
    answer_of request time device < 2 ^ 26
answer_small (Read port) time device words small = word_by_kind_small device.kind device.state time words small
answer_small (Write port word) time device words small = omega arith

words_after_request : (request : PortRequest) (device : Device) → AreWords device.state → CarriesWord request →
    AreWords (after_request request device).state
words_after_request (Read port) device words small = words_after_read device.kind device.state words
words_after_request (Write port word) device words small = words_after_write device.kind device.state word words small

-- an exchange answers a word
pub exchange-small : (request : PortRequest) (time : ℕ) (ds : List Device) → HoldWords ds → time < 2 ^ 26 →
    exchange_word request time ds < 2 ^ 26
exchange-small request time [] words small = omega arith
exchange-small request time (d ∷ ds) words small =
    elim (d.port == port_of request) as (λ t. (if t then answer_of request time d else exchange_word request time ds) < 2 ^ 26) [
      | true ↦ answer_small request time d (All-head (λ (x : Device). AreWords x.state) d ds words) small
      | false ↦ exchange-small request time ds (All-tail (λ (x : Device). AreWords x.state) d ds words) small
    ]

-- and leaves words in every device
pub words-exchange : (request : PortRequest) (ds : List Device) → HoldWords ds → CarriesWord request →
    HoldWords (after_exchange request ds)
words-exchange request [] words small = words
words-exchange request (d ∷ ds) words small =
    elim (d.port == port_of request) as (λ t. HoldWords
    (if t then after_request request d ∷ ds else d ∷ after_exchange request ds)) [
      | true ↦ All-cons (λ (x : Device). AreWords x.state) (after_request request d) ds
          (words_after_request request d (All-head (λ (x : Device). AreWords x.state) d ds words) small)
          (All-tail (λ (x : Device). AreWords x.state) d ds words)
      | false ↦ All-cons (λ (x : Device). AreWords x.state) d (after_exchange request ds)
          (All-head (λ (x : Device). AreWords x.state) d ds words)
          (words-exchange request ds (All-tail (λ (x : Device). AreWords x.state) d ds words) small)
    ]

-- so does an unplugging
pub words-without : (port : ℕ) (ds : List Device) → HoldWords ds → HoldWords (without (λ d. d) port ds)
words-without port [] words = words
words-without port (d ∷ ds) words =
    elim (d.port == port) as (λ t. HoldWords (if t then ds else d ∷ without (λ x. x) port ds)) [
      | true ↦ All-tail (λ (x : Device). AreWords x.state) d ds words
      | false ↦ All-cons (λ (x : Device). AreWords x.state) d (without (λ x. x) port ds)
          (All-head (λ (x : Device). AreWords x.state) d ds words)
          (words-without port ds (All-tail (λ (x : Device). AreWords x.state) d ds words))
    ]

-- and words supplied
words_after_supply : (kind : Kind) (state : List ℕ) (word : ℕ) → word < 2 ^ 26 → AreWords state → AreWords (state_after_supply kind state word)
words_after_supply Tape state word small h = All-push (λ number. number < 2 ^ 26) state word h small
words_after_supply Latch state word small h = h
words_after_supply Ticker state word small h = h
words_after_supply Recorder state word small h = h

words-supply : (supply : Supply) (ds : List Device) → supply.word < 2 ^ 26 → HoldWords ds → HoldWords (after_supply_of supply ds)
words-supply supply [] small h = h
words-supply supply (d ∷ ds) small h = by_port (d.port == supply.port) (words-supply supply ds small others)
  where
    Holds : Device → Type 0
    Holds device = AreWords device.state

    first : AreWords d.state
    first = All-head Holds d ds h

    others : HoldWords ds
    others = All-tail Holds d ds h

    by_port : (b : Bool) → HoldWords (after_supply_of supply ds) → HoldWords (cond b (after_supply d supply.word ∷ ds) (d ∷ after_supply_of supply ds))
    by_port true later = All-cons Holds (after_supply d supply.word) ds (words_after_supply d.kind d.state supply.word small first) others
    by_port false later = All-cons Holds d (after_supply_of supply ds) first later

pub words-supplied : (supplies : List Supply) (ds : List Device) → All (λ supply. supply.word < 2 ^ 26) supplies → HoldWords ds → HoldWords (supplied supplies ds)
words-supplied [] ds small h = h
words-supplied (supply ∷ supplies) ds small h =
    words-supplied supplies (after_supply_of supply ds) (All-tail (λ s. s.word < 2 ^ 26) supply supplies small)
    (words-supply supply ds (All-head (λ s. s.word < 2 ^ 26) supply supplies small) h)
