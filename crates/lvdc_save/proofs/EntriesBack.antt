-- The words of an entry say the entry, and so does its line.
use Rattle.std.proofs.Common.{◌≡◌, ℕ, ◌+◌, ◌*◌, ◌^◌, ◌<◌, ◌≤◌, Bool, true, false, ◌==◌, List, [], ◌∷◌, ◌++◌, All, length, codes, decimal, Option, None, Some, refl, ap, ◌∙◌, arith, if◌then◌else◌}
use Rattle.std.proofs.lemmas.Bool.Decides.{nat_tests}
use Rattle.std.proofs.lemmas.List.Elements.{All-head, All-tail}
use Rattle.std.proofs.lemmas.Slice.Eq.{bytes_eq-Decides}
use Rattle.lvdc_map.specs.Address.{Spot, IsAddress}
use Rattle.lvdc_text.specs.Numbers.{octal_text}
use Rattle.lvdc_fault.specs.declared.event.Event.{Event}
use Rattle.lvdc_fault.specs.declared.event.Event.TheVariants.{Flip, Force, Lag, Deaf, Damage, Stick, Dead}
use Rattle.lvdc_orders.specs.Orders.{is_order}
use Rattle.lvdc_lines.specs.Lines.{fault_in, order_in}
use Rattle.lvdc_plain.specs.declared.records.Exchange.{Exchange}
use Rattle.lvdc_model.specs.declared.repair.Repair.{Repair}
use Rattle.lvdc_fault.specs.Events.{TIMES}
use Rattle.lvdc_save.specs.declared.entry.CopyState.{CopyState}
use Rattle.lvdc_save.specs.declared.entry.Entry.{Entry}
use Rattle.lvdc_save.specs.declared.entry.Entry.TheVariants as says
use Rattle.lvdc_save.specs.Lines.{entry_line}
use Rattle.lvdc_save.specs.Entries.{steps_in, times_in, port_in, twin_in, cell_in, spot_in, words_in, steps_of, count_of, script_of, entry_in, spelled, entry_of}
use Rattle.lvdc_save.specs.Printed.{AreSteps, IsCopyState, IsExchange, IsRepair, IsPrinted}
use Rattle.lvdc_save.proofs.Words.{words_back}
use Rattle.lvdc_save.proofs.Fields.{decimal-read, octal-read, word-read, place-read}
use Rattle.lvdc_save.proofs.FaultFields.{fault_word, fault_fields, fault-read}
use Rattle.lvdc_save.proofs.PairsAndOrders.{pair_fields, pairs-read, letters, longer-other, order-read, order-no_fault}
use Rattle.lvdc_save.proofs.EntryLines.{latch_fields, twin_fields, entry_word, entry_fields, entry_text, entry_word-word, entry-words, entry-spelled}

-- ---- fields

steps-read : (n : ℕ) → AreSteps n → steps_in (decimal n) ≡ Some n
steps-read n few = decimal-read 0 (3 * TIMES + 1) n (omega arith) (omega (arith, few)) (omega (arith, few))

times-read : (n : ℕ) → n ≤ TIMES → times_in (decimal n) ≡ Some n
times-read n few = decimal-read 0 (TIMES + 1) n (omega arith) (omega (arith, few)) (omega (arith, few))

port-read : (n : ℕ) → n < 2 ^ 8 → port_in (octal_text 3 n) ≡ Some n
port-read n low = octal-read (2 ^ 8) 3 n (omega arith) low (omega (arith, low))

twin-read : (n : ℕ) → n < 2 → twin_in (decimal n) ≡ Some n
twin-read n low = decimal-read 0 2 n (omega arith) low (omega (arith, low))

cell-read : (n : ℕ) → n < 2 ^ 28 → cell_in (octal_text 10 n) ≡ Some n
cell-read n low = octal-read (2 ^ 28) 10 n (omega arith) low (omega (arith, low))

spot-read : (at : Spot) → IsAddress at → spot_in (octal_text 1 at.pair) (octal_text 2 at.sector) (octal_text 3 at.loc) ≡ Some at
spot-read at is =
    let pair = is.pair in let sector = is.sector in let loc = is.loc in
    rw (
      octal-read 8 1 at.pair (omega arith) pair (omega (arith, pair)),
      octal-read 16 2 at.sector (omega arith) sector (omega (arith, sector)),
      octal-read 256 3 at.loc (omega arith) loc (omega (arith, loc)),
    ) refl

latches-read : (latches : List ℕ) → All (λ latch. latch < 2 ^ 26) latches → words_in (latch_fields latches) ≡ Some latches
latches-read [] all = refl
latches-read (latch ∷ latches) all =
    rw (
      word-read latch (All-head (λ l. l < 2 ^ 26) latch latches all),
      latches-read latches (All-tail (λ l. l < 2 ^ 26) latch latches all),
    ) refl

-- ---- the words of an entry

simplex-read : (banks : ℕ) → 0 < banks → banks < 16 → entry_in (codes "SIMPLEX" ∷ pair_fields banks) ≡ Some (says.Simplex banks)
simplex-read banks some low =
    let other : (banks == 0) ≡ false = grind (arith, nat_tests) in
    ap (λ (n : ℕ). if n == 0 then None else Some (says.Simplex n)) (pairs-read banks low)
    ∙ ap (λ (none : Bool). if none then None else Some (says.Simplex banks)) other

copy-read : (c : CopyState) → IsCopyState c → entry_in (entry_word (says.Copy c) ∷ entry_fields (says.Copy c)) ≡ Some (says.Copy c)
copy-read c is =
    let last_module = is.named.last_module in let last_copy = is.named.last_copy in
    rw (
      decimal-read 1 8 c.number is.named.first_module last_module (omega (arith, last_module)),
      decimal-read 1 4 c.copy is.named.first_copy last_copy (omega (arith, last_copy)),
      steps-read c.count is.count,
      latches-read c.latches is.latches,
    ) refl

select-read : (twins : List ℕ) → length twins ≡ 4 → All (λ twin. twin < 2) twins
    → entry_in (codes "SELECT" ∷ twin_fields twins) ≡ Some (says.Select twins)
select-read [] size all = absurd (omega (arith, size))
select-read (a ∷ []) size all = absurd (omega (arith, size))
select-read (a ∷ b ∷ []) size all = absurd (omega (arith, size))
select-read (a ∷ b ∷ c ∷ []) size all = absurd (omega (arith, size))
select-read (a ∷ b ∷ c ∷ d ∷ []) size all =
    rw (
      twin-read a (all 0 a (omega arith)),
      twin-read b (all 1 a (omega arith)),
      twin-read c (all 2 a (omega arith)),
      twin-read d (all 3 a (omega arith)),
    ) refl
select-read (a ∷ b ∷ c ∷ d ∷ e ∷ rest) size all = absurd (omega (arith, size))

exchange-read : (e : Exchange) (reading : Bool) → e.reading ≡ reading → IsExchange e
    → entry_in (entry_word (says.Exchange e) ∷ entry_fields (says.Exchange e)) ≡ Some (says.Exchange e)
exchange-read e true way is = rw (way, times-read e.time is.time, port-read e.port is.numbers.port, word-read e.word is.numbers.word) refl
exchange-read e false way is = rw (way, times-read e.time is.time, port-read e.port is.numbers.port, word-read e.word is.numbers.word) refl

repair-read : (r : Repair) (switched : Bool) → r.switched ≡ switched → IsRepair r
    → entry_in (codes "REPAIR" ∷ entry_fields (says.Repair r)) ≡ Some (says.Repair r)
repair-read r true way is = rw (way, steps-read r.step is.step, spot-read r.at is.at, twin-read r.twin is.twin) refl
repair-read r false way is = rw (way, steps-read r.step is.step, spot-read r.at is.at, twin-read r.twin is.twin) refl

fault_word-read : (e : Event)
    → entry_in (fault_word e ∷ fault_fields e)
    ≡ script_of (fault_in (fault_word e ∷ fault_fields e)) (order_in (fault_word e ∷ fault_fields e))
fault_word-read (Flip number copy first last index mask) = refl
fault_word-read (Force number copy first last index mask value) = refl
fault_word-read (Lag number copy first last) = refl
fault_word-read (Deaf number copy first last) = refl
fault_word-read (Damage twin at step mask) = refl
fault_word-read (Stick twin at first last mask value) = refl
fault_word-read (Dead twin pair first last) = refl

letters-read : (order : List ℕ) → is_order order ≡ true → entry_in (letters order ∷ []) ≡ Some (says.Order order)
letters-read order is =
    let other = λ (word : List ℕ) (few : length word < 21). longer-other order word is few in
    rw (
      other (codes "COPY") (omega arith),
      other (codes "LVDC") (omega arith),
      other (codes "STEPS") (omega arith),
      other (codes "COUNT") (omega arith),
      other (codes "SIMPLEX") (omega arith),
      other (codes "SELECT") (omega arith),
      other (codes "END") (omega arith),
      other (codes "CELL") (omega arith),
      other (codes "WORD") (omega arith),
      other (codes "IN") (omega arith),
      other (codes "OUT") (omega arith),
      other (codes "REPAIR") (omega arith),
      other (codes "STATE") (omega arith),
      other (codes "UNPLUG") (omega arith),
      order-no_fault order is,
      order-read order is,
    ) refl

-- the words of an entry say it
entry-read : (e : Entry) → IsPrinted e → entry_in (entry_word e ∷ entry_fields e) ≡ Some e
entry-read says.Title is = refl
entry-read (says.Steps steps) is = ap steps_of (steps-read steps is)
entry-read (says.Count count) is = ap count_of (times-read count is)
entry-read (says.Simplex banks) is = simplex-read banks is.0 is.1
entry-read (says.Copy copy) is = copy-read copy is
entry-read (says.Select twins) is = select-read twins is.0 is.1
entry-read (says.Cell held) is =
    rw (twin-read held.twin is.place.twin, place-read held.at is.place.pair is.place.sector is.place.loc, cell-read held.cell is.cell) refl
entry-read (says.Word placed) is = rw (spot-read placed.at is.at, word-read placed.word is.word) refl
entry-read (says.Exchange exchange) is = exchange-read exchange exchange.reading refl is
entry-read (says.Repair repair) is = repair-read repair repair.switched refl is
entry-read (says.State supply) is = rw (port-read supply.port is.port, word-read supply.word is.word) refl
entry-read (says.Unplug unplug) is = rw (port-read unplug.port is.port, times-read unplug.time is.time) refl
entry-read (says.Fault event) is =
    fault_word-read event
    ∙ ap (λ (found : Option Event). script_of found (order_in (fault_word event ∷ fault_fields event))) (fault-read event is)
entry-read (says.Order order) is = letters-read order is
entry-read says.End is = refl

-- its line without the LF says it
pub entry-back : (e : Entry) → IsPrinted e → entry_of (entry_text e) ≡ Some e
entry-back e is =
    ap (λ (words : List (List ℕ)). spelled (entry_text e) (entry_in words))
    (words_back (entry_word e) (entry_fields e) (entry_word-word e is) (entry-words e is))
    ∙ ap (spelled (entry_text e)) (entry-read e is)
    ∙ ap (λ (same : Bool). if same then Some e else None)
    ((bytes_eq-Decides (entry_line e) (entry_text e ++ codes "\n")).1 (entry-spelled e is))
