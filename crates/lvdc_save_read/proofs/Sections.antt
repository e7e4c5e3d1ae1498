-- The lists of a saved state, each said as a section: why each item may follow those before it.
use Rattle.std.proofs.Common.{◌≡◌, ◌≢◌, ℕ, ◌+◌, ◌/◌, ◌<◌, ◌≤◌, Bool, true, false, not, ◌==◌, List, [], ◌∷◌, ◌++◌, length, get_or, All, Option, None, Some, refl, sym, ap, subst, ◌∙◌, arith, if◌then◌else◌}
use Rattle.std.specs.Prelude.{nat_lt}
use Rattle.std.specs.List.{list_any}
use Rattle.std.proofs.lemmas.Bool.{ltb-true, lt-ltb, ne_eqb}
use Rattle.std.proofs.lemmas.List.Elements.{All-weaker}
use Rattle.std.proofs.lemmas.List.Folds.{list_any_none}
use Rattle.lvdc_word.specs.Cell.{code_of}
use Rattle.lvdc_map.specs.Banks.{is_there}
use Rattle.lvdc_map.specs.declared.placed.Placed.{Placed}
use Rattle.lvdc_twin.specs.declared.held.Held.{Held}
use Rattle.lvdc_fault.specs.declared.event.Event.{Event}
use Rattle.lvdc_port.specs.Device.{Device}
use Rattle.lvdc_port.specs.declared.device.Kind.{Kind}
use Rattle.lvdc_port.specs.declared.device.Kind.TheVariants.{Tape, Latch, Ticker, Recorder}
use Rattle.lvdc_port.specs.declared.requests.Supply.{Supply}
use Rattle.lvdc_plain.specs.declared.records.Exchange.{Exchange}
use Rattle.lvdc_plain.specs.declared.records.Unplug.{Unplug}
use Rattle.lvdc_model.specs.declared.repair.Repair.{Repair}
use Rattle.lvdc_orders.specs.Orders.{orders_of}
use Rattle.lvdc_save.specs.declared.entry.Entry.{Entry}
use Rattle.lvdc_save.specs.declared.entry.Entry.TheVariants as says
use Rattle.lvdc_save.specs.declared.mark.Mark.{Mark}
use Rattle.lvdc_save.specs.declared.saved.Saved.{Saved}
use Rattle.lvdc_save.specs.declared.section.Section.{Section}
use Rattle.lvdc_save.specs.declared.section.Section.TheVariants as section
use Rattle.lvdc_save.specs.Reading.{Progress, holds_one, is_unplugged, line_in, without_words, without_device, marks_with, saved_in}
use Rattle.lvdc_save_read.specs.Accepted.{kind_among, HoldsWords, GoesWith}
use Rattle.lvdc_save_read.proofs.Splits.{item_of, before_item, last_item, first_items, fewer}
use Rattle.lvdc_save_read.proofs.Chains.{cells_chain, words_chain}
use Rattle.lvdc_save_read.proofs.Following.{both_are, MayFollow}

-- ---- what was said so far

-- the saved state with its lists as far as they have been said
abbrev pub so_far : Saved → List ℕ → List ℕ → List ℕ → List Held → List Placed → List Exchange → List Repair → List Supply → List Unplug
    → List Event → List (List ℕ) → Saved
so_far s latches differed selected cells words log repairs states unplugs script orders =
    record {
      snapshot = record {
        steps = s.snapshot.steps;
        latches = latches;
        differed = differed;
        selected = selected;
        cells = cells;
        words = words;
        log = log;
        repairs = repairs;
        banks = s.snapshot.banks;
      };
      count = s.count;
      states = states;
      unplugs = unplugs;
      script = script;
      orders = orders;
    }

-- up to the cells, and so on to the orders: what was said, with the items of that list
abbrev pub up_to_cells : Saved → List Held → Saved
up_to_cells s cells = so_far s s.snapshot.latches s.snapshot.differed s.snapshot.selected cells [] [] [] [] [] [] []

abbrev pub up_to_words : Saved → List Placed → Saved
up_to_words s words = so_far s s.snapshot.latches s.snapshot.differed s.snapshot.selected s.snapshot.cells words [] [] [] [] [] []

-- the whole memory, and what comes after it
abbrev pub memory_and : Saved → List Exchange → List Repair → List Supply → List Unplug → List Event → List (List ℕ) → Saved
memory_and s = so_far s s.snapshot.latches s.snapshot.differed s.snapshot.selected s.snapshot.cells s.snapshot.words

abbrev pub up_to_log : Saved → List Exchange → Saved
up_to_log s log = memory_and s log [] [] [] [] []

abbrev pub up_to_repairs : Saved → List Repair → Saved
up_to_repairs s repairs = memory_and s s.snapshot.log repairs [] [] [] []

-- the whole snapshot, and what comes after it
abbrev pub after_snapshot : Saved → List Supply → List Unplug → List Event → List (List ℕ) → Saved
after_snapshot s = memory_and s s.snapshot.log s.snapshot.repairs

abbrev pub up_to_states : Saved → List Supply → Saved
up_to_states s states = after_snapshot s states [] [] []

abbrev pub up_to_unplugs : Saved → List Unplug → Saved
up_to_unplugs s unplugs = after_snapshot s s.states unplugs [] []

abbrev pub up_to_script : Saved → List Event → Saved
up_to_script s script = after_snapshot s s.states s.unplugs script []

abbrev pub up_to_orders : Saved → List (List ℕ) → Saved
up_to_orders s orders = after_snapshot s s.states s.unplugs s.script orders

-- only ports with words have a mark
abbrev pub AreMarked : List Supply → List Mark → Type 0
AreMarked states marks = (port : ℕ) → All (λ word. word.port ≢ port) states → line_in marks port ≡ None

-- this was said
pub record Said (s : Saved) (r : Progress) : Type 0 where
  pub is : saved_in r ≡ s
  pub marked : AreMarked r.states r.marks

-- the items of a list may follow one another, where so much is said up to each of them
abbrev pub ListFollows : {A : Type 0} → List Device → (A → Entry) → Section → (List A → Saved) → List A → Type 0
ListFollows devices say here up_to all = MayFollow devices say here 6 (λ items. Said (up_to items)) all

-- ---- tests

not_same : (a b : ℕ) → a ≢ b → not (a == b) ≡ true
not_same a b other = rw (ne_eqb a b other) refl

-- ---- the memory

pub cells_follow : (devices : List Device) (s : Saved) → GoesWith devices s
    → ListFollows devices says.Cell section.Cells (up_to_cells s) s.snapshot.cells
cells_follow devices s g = record {
  place = λ x. refl;
  from = omega arith;
  to = refl;
  rise = cells_chain s.snapshot.cells g.whole.cells_rise;
  agree = λ done rest x r e k.
      not_same x.cell (code_of 0) (item_of (λ held. held.cell ≢ code_of 0) done rest x s.snapshot.cells e g.whole.cells_differ);
  there = λ done rest x number r e k. refl;
  keep = λ done rest x number r e k. record {
    is = ap (λ (t : Saved). record t { snapshot = record t.snapshot { cells = t.snapshot.cells ++ x ∷ [] } }) k.is;
    marked = k.marked;
  };
}

pub words_follow : (devices : List Device) (s : Saved) → GoesWith devices s
    → ListFollows devices says.Word section.Words (up_to_words s) s.snapshot.words
words_follow devices s g = record {
  place = λ x. refl;
  from = omega arith;
  to = refl;
  rise = words_chain s.snapshot.words g.whole.words_rise;
  agree = λ done rest x r e k.
      let banks : r.banks ≡ s.snapshot.banks = ap (λ (t : Saved). t.snapshot.banks) k.is in
      let other = item_of (λ placed. placed.word ≢ 0) done rest x s.snapshot.words e g.whole.words_differ in
      let there = item_of (λ placed. is_there s.snapshot.banks placed.at ≡ true) done rest x s.snapshot.words e g.whole.there in
      both_are (not (x.word == 0)) (is_there r.banks x.at) (not_same x.word 0 other) (subst (λ b. is_there b x.at ≡ true) (sym banks) there);
  there = λ done rest x number r e k. refl;
  keep = λ done rest x number r e k. record {
    is = ap (λ (t : Saved). record t { snapshot = record t.snapshot { words = t.snapshot.words ++ x ∷ [] } }) k.is;
    marked = k.marked;
  };
}

-- ---- what the machine has noted

pub log_follows : (devices : List Device) (s : Saved) → GoesWith devices s
    → ListFollows devices says.Exchange section.Log (up_to_log s) s.snapshot.log
log_follows devices s g = record {
  place = λ x. refl;
  from = omega arith;
  to = refl;
  rise = g.whole.log.order;
  agree = λ done rest x r e k.
      let steps : r.steps ≡ s.snapshot.steps = ap (λ (t : Saved). t.snapshot.steps) k.is in
      let early = item_of (λ line. line.time < s.snapshot.steps / 3) done rest x s.snapshot.log e g.whole.log.below in
      lt-ltb x.time (r.steps / 3) (subst (λ n. x.time < n / 3) (sym steps) early);
  there = λ done rest x number r e k. refl;
  keep = λ done rest x number r e k. record {
    is = ap (λ (t : Saved). record t { snapshot = record t.snapshot { log = t.snapshot.log ++ x ∷ [] } }) k.is;
    marked = k.marked;
  };
}

pub repairs_follow : (devices : List Device) (s : Saved) → GoesWith devices s
    → ListFollows devices says.Repair section.Repairs (up_to_repairs s) s.snapshot.repairs
repairs_follow devices s g = record {
  place = λ x. refl;
  from = omega arith;
  to = refl;
  rise = λ i j d less within. let later = g.whole.repairs.order i j d less within in omega (arith, later);
  agree = λ done rest x r e k.
      let steps : r.steps ≡ s.snapshot.steps = ap (λ (t : Saved). t.snapshot.steps) k.is in
      let banks : r.banks ≡ s.snapshot.banks = ap (λ (t : Saved). t.snapshot.banks) k.is in
      let early = item_of (λ repair. repair.step < s.snapshot.steps) done rest x s.snapshot.repairs e g.whole.repairs.below in
      let there = item_of (λ repair. is_there s.snapshot.banks repair.at ≡ true) done rest x s.snapshot.repairs e g.whole.repairs.there in
      both_are (nat_lt x.step r.steps) (is_there r.banks x.at) (lt-ltb x.step r.steps (omega (arith, steps, early)))
      (subst (λ b. is_there b x.at ≡ true) (sym banks) there);
  there = λ done rest x number r e k. refl;
  keep = λ done rest x number r e k. record {
    is = ap (λ (t : Saved). record t { snapshot = record t.snapshot { repairs = t.snapshot.repairs ++ x ∷ [] } }) k.is;
    marked = k.marked;
  };
}

-- ---- the words of the devices

-- the next word of a device that holds one alone stands at a later port
state_room : (kind : Option Kind) (p q : ℕ) → p ≤ q → (p ≡ q → kind ≢ Some Latch) → (if holds_one kind then p + 1 else p) ≤ q
state_room None p q rise single = rise
state_room (Some Tape) p q rise single = rise
state_room (Some Latch) p q rise single = let other : p ≢ q = λ same. single same refl in omega (arith, rise, other)
state_room (Some Ticker) p q rise single = rise
state_room (Some Recorder) p q rise single = rise

words_held : (number : ℕ) (kind : Option Kind) → kind ≢ None → kind ≢ Some Ticker → without_words number kind ≡ None
words_held number None there other = absurd (there refl)
words_held number (Some Tape) there other = refl
words_held number (Some Latch) there other = refl
words_held number (Some Ticker) there other = absurd (other refl)
words_held number (Some Recorder) there other = refl

-- no mark before these, and none among these
line_past : (number : ℕ) (before after : Option ℕ) (same : Bool) → (if same then Some number else before) ≡ None
    → (before ≡ None → after ≡ None) → (if same then Some number else after) ≡ None
line_past number before after true none later = absurd cc
line_past number before after false none later = later none

line_after : (marks more : List Mark) (port : ℕ) → line_in marks port ≡ None → line_in more port ≡ None
    → line_in (marks ++ more) port ≡ None
line_after [] more port none later = later
line_after (mark ∷ marks) more port none later =
    line_past mark.line (line_in marks port) (line_in (marks ++ more) port) (mark.port == port) none
    (λ before. line_after marks more port before later)

new_mark : (mark : Mark) (port : ℕ) (has : Bool) → mark.port ≢ port → line_in (if has then [] else mark ∷ []) port ≡ None
new_mark mark port true other = refl
new_mark mark port false other = rw (ne_eqb mark.port port other) refl

marks_kept : (number : ℕ) (r : Progress) (x : Supply) → AreMarked r.states r.marks → AreMarked (r.states ++ x ∷ []) (marks_with number r x)
marks_kept number r x marked = λ port others.
    let mark : Mark = record { port = x.port; line = number } in
    let has = list_any (λ (m : Mark). m.port == x.port) r.marks in
    let before : All (λ word. word.port ≢ port) r.states = first_items (λ word. word.port ≢ port) r.states x others in
    line_after r.marks (if has then [] else mark ∷ []) port (marked port before)
    (new_mark mark port has (last_item (λ word. word.port ≢ port) r.states x others))

pub states_follow : (devices : List Device) (s : Saved) → GoesWith devices s
    → ListFollows devices says.State section.States (up_to_states s) s.states
states_follow devices s g = record {
  place = λ x. refl;
  from = omega arith;
  to = refl;
  rise = λ i j d less within.
      let port = (get_or s.states i d).port in
      state_room (kind_among devices port) port (get_or s.states j d).port (g.states.rise i j d less within)
      (g.states.single i j d less within);
  agree = λ done rest x r e k. refl;
  there = λ done rest x number r e k.
      let holds = item_of (λ word. HoldsWords devices word.port) done rest x s.states e g.states.held in
      words_held number (kind_among devices x.port) holds.there holds.kind;
  keep = λ done rest x number r e k. record {
    is = ap (λ (t : Saved). record t { states = t.states ++ x ∷ [] }) k.is;
    marked = marks_kept number r x k.marked;
  };
}

-- ---- the unplug lines

when_gone : (early : Bool) (line : Option ℕ) → (early ≡ true → line ≡ None) → (if early then line else None) ≡ None
when_gone true line gone = gone refl
when_gone false line gone = refl

no_other : (unplugs : List Unplug) (port : ℕ) → All (λ unplug. unplug.port ≢ port) unplugs
    → list_any (λ (line : Unplug). line.port == port) unplugs ≡ false
no_other unplugs port others =
    list_any_none (λ (line : Unplug). line.port == port) unplugs
    (All-weaker (λ unplug. unplug.port ≢ port) (λ unplug. (unplug.port == port) ≡ false) (λ unplug other. ne_eqb unplug.port port other) unplugs
    others)

-- a device is there, no earlier line takes it away, and it held no word after it was taken away
device_there : (number : ℕ) (r : Progress) (x : Unplug) (kind : Option Kind) → kind ≢ None → is_unplugged r x.port ≡ false
    → (x.time < r.steps / 3 → line_in r.marks x.port ≡ None) → without_device number r x kind ≡ None
device_there number r x None there first gone = absurd (there refl)
device_there number r x (Some kind) there first gone =
    ap (λ (b : Bool). if b then Some number else (if nat_lt x.time (r.steps / 3) then line_in r.marks x.port else None)) first
    ∙ when_gone (nat_lt x.time (r.steps / 3)) (line_in r.marks x.port) (λ early. gone (ltb-true x.time (r.steps / 3) early))

pub unplugs_follow : (devices : List Device) (s : Saved) → GoesWith devices s
    → ListFollows devices says.Unplug section.Unplugs (up_to_unplugs s) s.unplugs
unplugs_follow devices s g = record {
  place = λ x. refl;
  from = omega arith;
  to = refl;
  rise = λ i j d less within. omega arith;
  agree = λ done rest x r e k. refl;
  there = λ done rest x number r e k.
      let steps : r.steps ≡ s.snapshot.steps = ap (λ (t : Saved). t.snapshot.steps) k.is in
      let states : r.states ≡ s.states = ap (λ (t : Saved). t.states) k.is in
      let unplugs : r.unplugs ≡ done = ap (λ (t : Saved). t.unplugs) k.is in
      let there = item_of (λ unplug. kind_among devices unplug.port ≢ None) done rest x s.unplugs e g.unplugs.there in
      let others = before_item (λ unplug later. unplug.port ≢ later.port) done rest x s.unplugs e g.unplugs.once in
      let gone = item_of (λ unplug. unplug.time < s.snapshot.steps / 3 → All (λ word. word.port ≢ unplug.port) s.states) done rest x
      s.unplugs e g.unplugs.gone in
      let unmarked = λ (early : x.time < r.steps / 3).
      k.marked x.port (subst (All (λ (word : Supply). word.port ≢ x.port)) (sym states) (gone (subst (λ n. x.time < n / 3) steps early))) in
      device_there number r x (kind_among devices x.port) there
      (ap (list_any (λ (line : Unplug). line.port == x.port)) unplugs ∙ no_other done x.port others) unmarked;
  keep = λ done rest x number r e k. record {
    is = ap (λ (t : Saved). record t { unplugs = t.unplugs ++ x ∷ [] }) k.is;
    marked = k.marked;
  };
}

-- ---- the script and the orders

pub script_follows : (devices : List Device) (s : Saved) → GoesWith devices s
    → ListFollows devices says.Fault section.Faults (up_to_script s) s.script
script_follows devices s g = record {
  place = λ x. refl;
  from = omega arith;
  to = refl;
  rise = λ i j d less within. omega arith;
  agree = λ done rest x r e k.
      let script : r.script ≡ done = ap (λ (t : Saved). t.script) k.is in
      let few = fewer done rest x s.script e in
      let most = g.events in
      lt-ltb (length r.script) 65536 (subst (λ (events : List Event). length events < 65536) (sym script) (omega (arith, few, most)));
  there = λ done rest x number r e k. refl;
  keep = λ done rest x number r e k. record {
    is = ap (λ (t : Saved). record t { script = t.script ++ x ∷ [] }) k.is;
    marked = k.marked;
  };
}

-- the orders in force are no more than those that may be added
few_orders : (orders : List (List ℕ)) → length orders ≤ 16 → length (orders_of orders) ≤ 16
few_orders [] few = omega arith
few_orders (order ∷ orders) few = few

pub orders_follow : (devices : List Device) (s : Saved) → GoesWith devices s
    → ListFollows devices says.Order section.Orders (up_to_orders s) (orders_of s.orders)
orders_follow devices s g = record {
  place = λ x. refl;
  from = omega arith;
  to = refl;
  rise = λ i j d less within. omega arith;
  agree = λ done rest x r e k.
      let orders : r.orders ≡ done = ap (λ (t : Saved). t.orders) k.is in
      let less = fewer done rest x (orders_of s.orders) e in
      let most = few_orders s.orders g.orders in
      lt-ltb (length r.orders) 16 (subst (λ (orders : List (List ℕ)). length orders < 16) (sym orders) (omega (arith, less, most)));
  there = λ done rest x number r e k. refl;
  keep = λ done rest x number r e k. record {
    is = ap (λ (t : Saved). record t { orders = t.orders ++ x ∷ [] }) k.is;
    marked = k.marked;
  };
}
