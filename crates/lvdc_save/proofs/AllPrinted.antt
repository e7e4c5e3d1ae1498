-- The entries of a whole saved state are such that their lines say them again.
use Rattle.std.proofs.Common.{◌≡◌, ℕ, zero, suc, ◌+◌, ◌^◌, ◌<◌, ◌≤◌, Bool, true, false, eqb, ◌==◌, List, [], ◌∷◌, ◌++◌, All, map, get_or, refl, sym, subst, arith, if◌then◌else◌}
use Rattle.std.specs.Prelude.{slice_index}
use Rattle.std.specs.List.{range_with_len}
use Rattle.std.proofs.lemmas.Bool.{eqb-true}
use Rattle.std.proofs.lemmas.Bool.Decides.{nat_tests}
use Rattle.std.proofs.lemmas.List.Elements.{All-nil, All-cons, All-append, All-map}
use Rattle.lvdc_map.specs.Address.{IsAddress}
use Rattle.lvdc_image.specs.Image.{IsPlaced}
use Rattle.lvdc_twin.specs.declared.held.Held.{Held}
use Rattle.lvdc_vote.specs.Copies.{IsFullOrder}
use Rattle.lvdc_orders.specs.Orders.{orders_of}
use Rattle.lvdc_orders.proofs.Permutations.{order_from_full}
use Rattle.lvdc_plain.specs.declared.records.Unplug.{Unplug}
use Rattle.lvdc_model.specs.declared.repair.Repair.{Repair}
use Rattle.lvdc_snapshot.specs.declared.snapshot.Snapshot.{Snapshot}
use Rattle.lvdc_snapshot.specs.Snapshot.{IsWhole}
use Rattle.lvdc_fault.specs.Events.{TIMES}
use Rattle.lvdc_lines.specs.Noted.{IsInRange}
use Rattle.lvdc_save.specs.declared.entry.Entry.{Entry}
use Rattle.lvdc_save.specs.declared.entry.Entry.TheVariants as says
use Rattle.lvdc_save.specs.declared.saved.Saved.{Saved}
use Rattle.lvdc_save.specs.Printed.{AreSteps, IsCopyState, IsSupply, IsUnplug, IsPrinted, IsOfADeck}
use Rattle.lvdc_save.specs.Saved.{copy_state, copy_entries, simplex_entries, entries_of}

-- ---- the copies

-- the latches of a copy are words
abbrev pub HasWords : Snapshot → ℕ → Type 0
HasWords s index = All (λ (latch : ℕ). latch < 2 ^ 26) (copy_state s index).latches

-- of one copy more
pub has_more : (s : Snapshot) (n : ℕ) → ((i : ℕ) → i < n → HasWords s i) → HasWords s n → (i : ℕ) → i < n + 1 → HasWords s i
has_more s n before here i within = by (eqb i n) refl
  where
    by : (same : Bool) → eqb i n ≡ same → HasWords s i
    by true e = subst (HasWords s) (sym (eqb-true i n e)) here
    by false e = before i (grind (arith, nat_tests))

All-range : (P : ℕ → Type 0) (from count : ℕ) → ((i : ℕ) → i < from + count → P i) → All P (range_with_len from count)
All-range P from zero each = All-nil P
All-range P from (suc count) each =
    All-cons P from (range_with_len (from + 1) count) (each from (omega arith))
    (All-range P (from + 1) count (λ i l. each i (omega (arith, l))))

copy-printed : (s : Snapshot) → IsWhole s → AreSteps s.steps → (index : ℕ) → index < 21 → HasWords s index
    → IsCopyState (copy_state s index)
copy-printed s w few index l words =
    let counts = w.counts in
    let count : slice_index s.differed index ≤ s.steps = w.most index 0 (omega (arith, counts, l)) in
    record {
      named = record { first_module = omega arith; last_module = omega (arith, l); first_copy = omega arith; last_copy = omega arith };
      count = omega (arith, count, few);
      latches = words;
    }

copies-printed : (s : Snapshot) → IsWhole s → AreSteps s.steps → ((i : ℕ) → i < 21 → HasWords s i) → All IsPrinted (copy_entries s)
copies-printed s w few words =
    All-map IsPrinted (λ index. says.Copy (copy_state s index)) (range_with_len 0 21)
    (All-range (λ index. IsPrinted (says.Copy (copy_state s index))) 0 21 (λ i l. copy-printed s w few i l (words i l)))

-- ---- the other parts

simplex-printed : (banks : ℕ) → banks < 16 → (none : Bool) → (banks == 0) ≡ none
    → All IsPrinted (if none then [] else says.Simplex banks ∷ [])
simplex-printed banks low true e = All-nil IsPrinted
simplex-printed banks low false e = All-cons IsPrinted (says.Simplex banks) [] (grind (arith, nat_tests), low) (All-nil IsPrinted)

cells-printed : (s : Snapshot) → IsWhole s → All (λ (h : Held). h.cell < 2 ^ 28) s.cells → All IsPrinted (map says.Cell s.cells)
cells-printed s w cells = All-map IsPrinted says.Cell s.cells (λ k d l. record { place = w.places k d l; cell = cells k d l })

log-printed : (s : Snapshot) → IsWhole s → AreSteps s.steps → All IsInRange s.log → All IsPrinted (map says.Exchange s.log)
log-printed s w few log =
    All-map IsPrinted says.Exchange s.log (λ k d l. let early = w.log.below k d l in record { time = omega (arith, early, few); numbers = log k d l })

repairs-printed : (s : Snapshot) → IsWhole s → AreSteps s.steps → All (λ (r : Repair). IsAddress r.at) s.repairs
    → All IsPrinted (map says.Repair s.repairs)
repairs-printed s w few at =
    All-map IsPrinted says.Repair s.repairs (λ k d l.
    let early = w.repairs.below k d l in record { step = omega (arith, early, few); at = at k d l; twin = w.repairs.twins k d l })

orders-printed : (orders : List (List ℕ)) → All (IsFullOrder 21) orders → All IsPrinted (map says.Order orders)
orders-printed orders full = All-map IsPrinted says.Order orders (λ k d l. order_from_full (get_or orders k d) (full k d l))

-- ---- the whole

-- what the types of a saved state tell
pub record IsTyped (s : Saved) : Type 0 where
  pub banks : s.snapshot.banks < 16
  pub copies : (i : ℕ) → i < 21 → HasWords s.snapshot i
  pub cells : All (λ (h : Held). h.cell < 2 ^ 28) s.snapshot.cells
  pub words : All IsPlaced s.snapshot.words
  pub log : All IsInRange s.snapshot.log
  pub repairs : All (λ (r : Repair). IsAddress r.at) s.snapshot.repairs
  pub states : All IsSupply s.states
  pub unplugs : All (λ (u : Unplug). u.time ≤ TIMES → IsUnplug u) s.unplugs
  pub orders : All (IsFullOrder 21) (orders_of s.orders)

heads-printed : (s : Saved) → IsOfADeck s → s.snapshot.banks < 16
    → All IsPrinted (says.Title ∷ says.Steps s.snapshot.steps ∷ says.Count s.count ∷ simplex_entries s.snapshot.banks)
heads-printed s deck low =
    All-cons IsPrinted says.Title (says.Steps s.snapshot.steps ∷ says.Count s.count ∷ simplex_entries s.snapshot.banks) tt
    (All-cons IsPrinted (says.Steps s.snapshot.steps) (says.Count s.count ∷ simplex_entries s.snapshot.banks) deck.steps
    (All-cons IsPrinted (says.Count s.count) (simplex_entries s.snapshot.banks) deck.count
    (simplex-printed s.snapshot.banks low (s.snapshot.banks == 0) refl)))

-- all of these entries are printed
record ArePrinted (es : List Entry) : Type 0 where
  all : All IsPrinted es

joined : (front back : List Entry) → ArePrinted front → All IsPrinted back → ArePrinted (front ++ back)
joined front back f b = record { all = All-append IsPrinted front back f.all b }

pub entries-printed : (s : Saved) → IsWhole s.snapshot → IsOfADeck s → IsTyped s → All IsPrinted (entries_of s)
entries-printed s w deck t =
    let heads : ArePrinted (says.Title ∷ says.Steps s.snapshot.steps ∷ says.Count s.count ∷ simplex_entries s.snapshot.banks) =
    record { all = heads-printed s deck t.banks } in
    let copies = joined _ (copy_entries s.snapshot) heads (copies-printed s.snapshot w deck.steps t.copies) in
    let cells = joined _ (says.Select s.snapshot.selected ∷ map says.Cell s.snapshot.cells) copies
    (All-cons IsPrinted (says.Select s.snapshot.selected) (map says.Cell s.snapshot.cells) (w.pairs, w.twins)
    (cells-printed s.snapshot w t.cells)) in
    let words = joined _ (map says.Word s.snapshot.words) cells (All-map IsPrinted says.Word s.snapshot.words t.words) in
    let log = joined _ (map says.Exchange s.snapshot.log) words (log-printed s.snapshot w deck.steps t.log) in
    let repairs = joined _ (map says.Repair s.snapshot.repairs) log (repairs-printed s.snapshot w deck.steps t.repairs) in
    let states = joined _ (map says.State s.states) repairs (All-map IsPrinted says.State s.states t.states) in
    let unplugs = joined _ (map says.Unplug s.unplugs) states
    (All-map IsPrinted says.Unplug s.unplugs (λ k d l. t.unplugs k d l (deck.times k d l))) in
    let script = joined _ (map says.Fault s.script) unplugs (All-map IsPrinted says.Fault s.script deck.events) in
    let orders = joined _ (map says.Order (orders_of s.orders)) script (orders-printed (orders_of s.orders) t.orders) in
    (joined _ (says.End ∷ []) orders (All-cons IsPrinted says.End [] tt (All-nil IsPrinted))).all
