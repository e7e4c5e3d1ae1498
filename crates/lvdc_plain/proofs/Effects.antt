-- What each row of the table leaves in a processor that held the state before it.
use Rattle.std.proofs.Common.{◌≡◌, ℕ, List, Bool, true, false, nat_eq, not, ◌==◌, refl, sym, ap, ◌∙◌, subst}
use Rattle.std.specs.Bool.{if◌then◌else◌}
use Rattle.lvdc_isa.specs.declared.op.Op.{Op}
use Rattle.lvdc_map.specs.Hop.{HopConstant, after, word_of_hop}
use Rattle.lvdc_map.specs.Memory.{Memory, IsMemory}
use Rattle.lvdc_map.specs.Place.{place_of, with_data}
use Rattle.lvdc_map.specs.declared.place.Place.{Place}
use Rattle.lvdc_plain.specs.Plain.{PlainState}
use Rattle.lvdc_plain.specs.Processor.{Holds}
use Rattle.lvdc_plain.specs.Table.{effect, operand_place, goes_on, takes, stores}
use Rattle.lvdc_plain.specs.declared.processor.Processor.{Processor}

-- the row of an operation is what it does
pub by_row : {op row : Op} {r made : Processor} (p : PlainState) (address m : ℕ) →
    op ≡ row → r ≡ made → Holds made (effect row p address m) → Holds r (effect op p address m)
by_row {row = row} {r = r} p address m is self h =
    subst (λ k. Holds r (effect k p address m)) (sym is) (subst (λ k. Holds k (effect row p address m)) (sym self) h)

pub goes_on_held : {old new : Processor} {p : PlainState} → Holds old p → new ≡ record old { place = after old.place } → Holds new (goes_on p)
goes_on_held {p = p} h is =
    subst (λ r. Holds r (goes_on p)) (sym is)
    (record { banks = h.banks; place = ap after h.place; a = h.a; pq = h.pq; saver = h.saver; pending = h.pending; hold = h.hold; memory = h.memory })

pub takes_held : {old new : Processor} {p : PlainState} {word w : ℕ} → Holds old p →
    new ≡ record old { place = after old.place; a = word } → word ≡ w → Holds new (takes p w)
takes_held {p = p} {w = w} h is same =
    subst (λ r. Holds r (takes p w)) (sym is)
    (record { banks = h.banks; place = ap after h.place; a = same; pq = h.pq; saver = h.saver; pending = h.pending; hold = h.hold; memory = h.memory })

pub goes_to_held : {old new : Processor} {p : PlainState} {place there : HopConstant} → Holds old p →
    new ≡ record old { place = place; saver = word_of_hop (after old.place) } → place ≡ there → Holds new (record p { place = there; saver = word_of_hop (after p.place) })
goes_to_held {p = p} {there = there} h is same =
    subst (λ r. Holds r (record p { place = there; saver = word_of_hop (after p.place) })) (sym is)
    (record {
      banks = h.banks;
      place = same;
      a = h.a;
      pq = h.pq;
      saver = ap (λ k. word_of_hop (after k)) h.place;
      pending = h.pending;
      hold = h.hold;
      memory = h.memory;
    })

pub data_held : {old new : Processor} {p : PlainState} (address : ℕ) → Holds old p →
    new ≡ record old { place = with_data (after old.place) address } → Holds new (record p { place = with_data (after p.place) address })
data_held {p = p} address h is =
    subst (λ r. Holds r (record p { place = with_data (after p.place) address })) (sym is)
    (record {
      banks = h.banks;
      place = ap (λ k. with_data (after k) address) h.place;
      a = h.a;
      pq = h.pq;
      saver = h.saver;
      pending = h.pending;
      hold = h.hold;
      memory = h.memory;
    })

pub hold_held : {made : Processor} {q : PlainState} (hold : ℕ) → Holds made q → Holds (record made { hold = hold }) (record q { hold = hold })
hold_held hold h =
    record { banks = h.banks; place = h.place; a = h.a; pq = h.pq; saver = h.saver; pending = h.pending; hold = refl; memory = h.memory }

-- the other way round
otherwise : {r : Processor} (t : Bool) (x y : PlainState) → Holds r (if not t then x else y) → Holds r (if t then y else x)
otherwise true x y h = h
otherwise false x y h = h

pub unless_zero : {r : Processor} (v n : ℕ) (x y : PlainState) → v ≡ n → Holds r (if not (nat_eq v 0) then x else y) → Holds r (if n == 0 then y else x)
unless_zero {r = r} v n x y same h = otherwise (n == 0) x y (subst (λ k. Holds r (if not (nat_eq k 0) then x else y)) same h)

-- a store by place: its word is put in memory, and then it goes on
pub stores_held : {old mid new : Processor} {p : PlainState} {words : List ℕ} (address : ℕ) (place : Place) (stored : Memory) → Holds old p →
    place ≡ place_of old.banks old.place address → stores p place ≡ record (goes_on p) { memory = stored } →
    mid ≡ record old { words = words } → IsMemory words stored →
    new ≡ record mid { place = after mid.place } → Holds new (stores p (operand_place p address))
stores_held {mid = mid} {new = new} {p = p} address place stored h is does puts holds goes =
    let named : place ≡ operand_place p address = is ∙ (λ x. place_of (h.banks x) (h.place x) address) in
    let kept : Holds mid (record p { memory = stored }) =
    subst (λ r. Holds r (record p { memory = stored })) (sym puts)
    (record { banks = h.banks; place = h.place; a = h.a; pq = h.pq; saver = h.saver; pending = h.pending; hold = h.hold; memory = holds }) in
    subst (λ k. Holds new (stores p k)) named (subst (λ q. Holds new q) (sym does) (goes_on_held kept goes))
