-- Each line keeps what was said so far sound, and what all lines say is whole.
use Rattle.std.proofs.Common.{◌≡◌, ◌≢◌, ℕ, suc, ◌+◌, ◌*◌, ◌/◌, ◌%◌, ◌<◌, ◌≤◌, Bool, true, false, not, ltb, ◌&&◌, ◌==◌, List, [], ◌∷◌, ◌++◌, All, length, Option, None, Some, Result, Ok, Err, refl, sym, ap, subst, ◌∙◌, arith, length-append, if◌then◌else◌}
use Rattle.std.specs.Prelude.{AllPairs, nat_le, nat_lt, OnOk}
use Rattle.std.proofs.lemmas.Bool.{eqb-true, eqb-false, leb-true, ltb-true, lt-ltb}
use Rattle.std.proofs.lemmas.List.Elements.{All-nil, All-push, All-tail}
use Rattle.std.proofs.lemmas.List.Kept.{AllPairs-cons}
use Rattle.lvdc_word.specs.Cell.{code_of}
use Rattle.lvdc_map.specs.Address.{number_of}
use Rattle.lvdc_map.specs.Banks.{is_there}
use Rattle.lvdc_map.specs.Memory as image
use Rattle.lvdc_map.specs.declared.placed.Placed.{Placed}
use Rattle.lvdc_twin.specs.Store.{slot_of}
use Rattle.lvdc_twin.specs.Cells.{NamesPlace, are_rising}
use Rattle.lvdc_twin.specs.declared.held.Held.{Held}
use Rattle.lvdc_vote.specs.Bits.{majority}
use Rattle.lvdc_vote.specs.Numbers.{latches_of}
use Rattle.lvdc_fault.specs.declared.event.Event.{Event}
use Rattle.lvdc_fault.specs.Events.{IsEvent}
use Rattle.lvdc_port.specs.Device.{Device}
use Rattle.lvdc_plain.specs.declared.records.Exchange.{Exchange}
use Rattle.lvdc_model.specs.declared.repair.Repair.{Repair}
use Rattle.lvdc_snapshot.specs.Notes.{IsLog, AreRepairs}
use Rattle.lvdc_snapshot.specs.Snapshot.{IsWhole}
use Rattle.lvdc_save.specs.declared.entry.CopyState.{CopyState}
use Rattle.lvdc_save.specs.declared.entry.Entry.{Entry}
use Rattle.lvdc_save.specs.declared.entry.Entry.TheVariants as says
use Rattle.lvdc_save.specs.declared.fault.SaveFault.{SaveFault}
use Rattle.lvdc_save.specs.declared.fault.SaveFault.TheVariants.{BadSave, NoDevice}
use Rattle.lvdc_save.specs.declared.section.Section.{Section}
use Rattle.lvdc_save.specs.declared.section.Section.TheVariants as section
use Rattle.lvdc_save.specs.Saved.{module_at, copy_at, latches_before}
use Rattle.lvdc_save.specs.Reading.{Progress, nothing_said, rank, section_of, earliest, latest, follows, place_of, least_after, least_in, is_at_rest, agrees, fits, lacking, adds, moved_on, by_lack, after_entry, saved_in, Makes}
use Rattle.lvdc_save.proofs.Below.{both}
use Rattle.lvdc_save_read.specs.Sound.{IsEntry, AreCounted, AreCopies, AreSelected, AreCells, ArePlaced, AreLogged, AreMended, AreEvents, IsSoundProgress}

-- ---- tests

not-false : (b : Bool) → not b ≡ true → b ≡ false
not-false true e = absurd cc
not-false false e = refl

-- ---- what a line of another section keeps

copies_kept : (at next steps : ℕ) (latches differed : List ℕ) → AreCopies at steps latches differed → at ≤ next → (5 < next → 5 < at) → AreCopies next steps latches differed
copies_kept at next steps latches differed h later all = record {
  none = λ l. h.none (omega (arith, l, later));
  sized = h.sized;
  counts = h.counts;
  all = λ l. h.all (all l);
  most = h.most;
  rest = h.rest;
}

selected_kept : (at next : ℕ) (selected : List ℕ) → AreSelected at selected → (5 < next → 5 < at) → AreSelected next selected
selected_kept at next selected h all = record { pairs = λ l. h.pairs (all l); twins = h.twins }

cells_kept : (at next least after : ℕ) (cells : List Held) → AreCells at least cells → at ≤ next → next ≢ 7 → AreCells next after cells
cells_kept at next least after cells h later other = record {
  none = λ l. h.none (omega (arith, l, later));
  below = λ is. absurd (other is);
  rise = h.rise;
  differ = h.differ;
  places = h.places;
}

words_kept : (at next least after banks : ℕ) (words : List Placed) → ArePlaced at least banks words → at ≤ next → next ≢ 8 → ArePlaced next after banks words
words_kept at next least after banks words h later other = record {
  none = λ l. h.none (omega (arith, l, later));
  below = λ is. absurd (other is);
  rise = h.rise;
  differ = h.differ;
  there = h.there;
}

log_kept : (at next least after steps : ℕ) (log : List Exchange) → AreLogged at least steps log → at ≤ next → next ≢ 9 → AreLogged next after steps log
log_kept at next least after steps log h later other = record { none = λ l. h.none (omega (arith, l, later)); below = λ is. absurd (other is); lines = h.lines }

repairs_kept : (at next least after banks steps : ℕ) (repairs : List Repair) → AreMended at least banks steps repairs → at ≤ next → next ≢ 10
    → AreMended next after banks steps repairs
repairs_kept at next least after banks steps repairs h later other = record { none = λ l. h.none (omega (arith, l, later)); below = λ is. absurd (other is); lines = h.lines }

counted_kept : (at next steps count : ℕ) → AreCounted at steps count → (2 < next → 2 < at) → AreCounted next steps count
counted_kept at next steps count h past = record { whole = h.whole; within = λ l. h.within (past l); most = h.most }

-- ---- nothing is there yet where the steps or the banks are told

no_log : (times : ℕ) (log : List Exchange) → log ≡ [] → IsLog times log
no_log times [] e = record { below = All-nil (λ l. l.time < times); order = λ i j d less within. absurd (omega (arith, less, within)) }
no_log times (x ∷ xs) e = absurd cc

no_repairs : (banks steps : ℕ) (repairs : List Repair) → repairs ≡ [] → AreRepairs banks steps repairs
no_repairs banks steps [] e = record {
  below = All-nil (λ r. r.step < steps);
  order = λ i j d less within. absurd (omega (arith, less, within));
  twins = All-nil (λ r. r.twin < 2);
  there = All-nil (λ r. is_there banks r.at ≡ true);
}
no_repairs banks steps (x ∷ xs) e = absurd cc

pub none_of : {A : Type 0} (P : A → Type 0) (xs : List A) → xs ≡ [] → All P xs
none_of P [] e = All-nil P
none_of P (x ∷ xs) e = absurd cc

copies_early : (at next old steps : ℕ) (latches differed : List ℕ) → AreCopies at old latches differed → at < 5 → next < 5 → AreCopies next steps latches differed
copies_early at next old steps latches differed h early soon = record {
  none = λ _. h.none early;
  sized = h.sized;
  counts = h.counts;
  all = λ l. absurd (omega (arith, l, soon));
  most = none_of (λ count. count ≤ steps) differed (h.none early);
  rest = h.rest;
}

words_early : (at next least after old banks : ℕ) (words : List Placed) → ArePlaced at least old words → at < 8 → next < 8 → ArePlaced next after banks words
words_early at next least after old banks words h early soon = record {
  none = λ _. h.none early;
  below = λ is. absurd (omega (arith, is, soon));
  rise = h.rise;
  differ = h.differ;
  there = none_of (λ p. is_there banks p.at ≡ true) words (h.none early);
}

log_early : (at next least after old steps : ℕ) (log : List Exchange) → AreLogged at least old log → at < 9 → next < 9 → AreLogged next after steps log
log_early at next least after old steps log h early soon = record {
  none = λ _. h.none early;
  below = λ is. absurd (omega (arith, is, soon));
  lines = no_log (steps / 3) log (h.none early);
}

repairs_early : (at next least after old_banks old banks steps : ℕ) (repairs : List Repair) → AreMended at least old_banks old repairs → at < 10 → next < 10
    → AreMended next after banks steps repairs
repairs_early at next least after old_banks old banks steps repairs h early soon = record {
  none = λ _. h.none early;
  below = λ is. absurd (omega (arith, is, soon));
  lines = no_repairs banks steps repairs (h.none early);
}

-- ---- one line more of a section

words_rise : (words : List Placed) (p : Placed) → image.are_rising words ≡ true → All (λ q. number_of q.at < number_of p.at) words → image.are_rising (words ++ p ∷ []) ≡ true
words_rise [] p rise below = refl
words_rise (q ∷ []) p rise below = rw (lt-ltb (number_of q.at) (number_of p.at) (below 0 q (omega arith))) refl
words_rise (q ∷ s ∷ words) p rise below =
    let parts = both (ltb (number_of q.at) (number_of s.at)) (image.are_rising (s ∷ words)) rise in
    rw (parts.0, words_rise (s ∷ words) p parts.1 (All-tail (λ q. number_of q.at < number_of p.at) q (s ∷ words) below)) refl

cells_rise : (cells : List Held) (h : Held) → are_rising cells ≡ true → All (λ k. slot_of k.twin k.at < slot_of h.twin h.at) cells → are_rising (cells ++ h ∷ []) ≡ true
cells_rise [] h rise below = refl
cells_rise (k ∷ []) h rise below = rw (lt-ltb (slot_of k.twin k.at) (slot_of h.twin h.at) (below 0 k (omega arith))) refl
cells_rise (k ∷ j ∷ cells) h rise below =
    let parts = both (ltb (slot_of k.twin k.at) (slot_of j.twin j.at)) (are_rising (j ∷ cells)) rise in
    rw (parts.0, cells_rise (j ∷ cells) h parts.1 (All-tail (λ k. slot_of k.twin k.at < slot_of h.twin h.at) k (j ∷ cells) below)) refl

-- one item more, that all others stand in the relation to
pub pairs_push : {X : Type 0} (R : X → X → Type 0) (xs : List X) (x : X) → All (λ y. R y x) xs → AllPairs R xs → AllPairs R (xs ++ x ∷ [])
pairs_push R [] x last h = λ i j d less within. absurd (omega (arith, less, within))
pairs_push R (y ∷ ys) x last h =
    AllPairs-cons R y (ys ++ x ∷ [])
    (All-push (R y) ys x (λ k d less. h 0 (suc k) d (omega arith) (omega (arith, less))) (last 0 y (omega arith)))
    (pairs_push R ys x (λ k d less. last (suc k) d (omega (arith, less))) (λ i j d less within. h (suc i) (suc j) d (omega (arith, less)) (omega (arith, within))))

-- what stands before the least place stands before a place from there on; in a new section nothing does
pub before : {A : Type 0} (P Q : A → Type 0) (xs : List A) (this at least place : ℕ) (same : Bool) → (this == at) ≡ same → at ≤ this
    → (if same then least else 0) ≤ place → (at < this → xs ≡ []) → (at ≡ this → All P xs) → (least ≤ place → (x : A) → P x → Q x) → All Q xs
before P Q xs this at least place true is most from none below weaker =
    let had = below (sym (eqb-true this at is)) in λ k d less. weaker from _ (had k d less)
before P Q xs this at least place false is most from none below weaker =
    let other = eqb-false this at is in none_of Q xs (none (omega (arith, other, most)))

cells_add : (at least : ℕ) (cells : List Held) (h : Held) → AreCells at least cells → at ≤ 7 → (if 7 == at then least else 0) ≤ slot_of h.twin h.at
    → h.cell ≢ code_of 0 → NamesPlace h → AreCells 7 (slot_of h.twin h.at + 1) (cells ++ h ∷ [])
cells_add at least cells h s most from other names =
    let first = before (λ k. slot_of k.twin k.at < least) (λ k. slot_of k.twin k.at < slot_of h.twin h.at) cells 7 at least (slot_of h.twin h.at) (7 == at) refl most from
    s.none s.below (λ l k b. omega (arith, l, b)) in
    record {
      none = λ l. absurd (omega (arith, l));
      below = λ _. All-push (λ k. slot_of k.twin k.at < slot_of h.twin h.at + 1) cells h (λ k d less. let one = first k d less in omega (arith, one)) (omega arith);
      rise = cells_rise cells h s.rise first;
      differ = All-push (λ k. k.cell ≢ code_of 0) cells h s.differ other;
      places = All-push NamesPlace cells h s.places names;
    }

words_add : (at least banks : ℕ) (words : List Placed) (p : Placed) → ArePlaced at least banks words → at ≤ 8 → (if 8 == at then least else 0) ≤ number_of p.at
    → p.word ≢ 0 → is_there banks p.at ≡ true → ArePlaced 8 (number_of p.at + 1) banks (words ++ p ∷ [])
words_add at least banks words p s most from other there =
    let first = before (λ q. number_of q.at < least) (λ q. number_of q.at < number_of p.at) words 8 at least (number_of p.at) (8 == at) refl most from
    s.none s.below (λ l k b. omega (arith, l, b)) in
    record {
      none = λ l. absurd (omega (arith, l));
      below = λ _. All-push (λ q. number_of q.at < number_of p.at + 1) words p (λ k d less. let one = first k d less in omega (arith, one)) (omega arith);
      rise = words_rise words p s.rise first;
      differ = All-push (λ q. q.word ≢ 0) words p s.differ other;
      there = All-push (λ q. is_there banks q.at ≡ true) words p s.there there;
    }

log_add : (at least steps : ℕ) (log : List Exchange) (e : Exchange) → AreLogged at least steps log → at ≤ 9 → (if 9 == at then least else 0) ≤ e.time → e.time < steps / 3
    → AreLogged 9 e.time steps (log ++ e ∷ [])
log_add at least steps log e s most from early =
    let first = before (λ l. l.time ≤ least) (λ l. l.time ≤ e.time) log 9 at least e.time (9 == at) refl most from s.none s.below (λ l k b. omega (arith, l, b)) in
    record {
      none = λ l. absurd (omega (arith, l));
      below = λ _. All-push (λ l. l.time ≤ e.time) log e first (omega arith);
      lines = record {
        below = All-push (λ l. l.time < steps / 3) log e s.lines.below early;
        order = pairs_push (λ before after. before.time ≤ after.time) log e first s.lines.order;
      };
    }

repairs_add : (at least banks steps : ℕ) (repairs : List Repair) (m : Repair) → AreMended at least banks steps repairs → at ≤ 10 → (if 10 == at then least else 0) ≤ m.step
    → m.step < steps → is_there banks m.at ≡ true → m.twin < 2 → AreMended 10 (m.step + 1) banks steps (repairs ++ m ∷ [])
repairs_add at least banks steps repairs m s most from early there twin =
    let first = before (λ q. q.step < least) (λ q. q.step < m.step) repairs 10 at least m.step (10 == at) refl most from s.none s.below (λ l k b. omega (arith, l, b)) in
    record {
      none = λ l. absurd (omega (arith, l));
      below = λ _. All-push (λ q. q.step < m.step + 1) repairs m (λ k d less. let one = first k d less in omega (arith, one)) (omega arith);
      lines = record {
        below = All-push (λ q. q.step < steps) repairs m s.lines.below early;
        order = pairs_push (λ before after. before.step < after.step) repairs m first s.lines.order;
        twins = All-push (λ q. q.twin < 2) repairs m s.lines.twins twin;
        there = All-push (λ q. is_there banks q.at ≡ true) repairs m s.lines.there there;
      };
    }

events_add : (script : List Event) (event : Event) → AreEvents script → length script < 65536 → IsEvent event → AreEvents (script ++ event ∷ [])
events_add script event s few is = record {
  few = omega (arith, length-append script (event ∷ []), few);
  events = All-push IsEvent script event s.events is;
}

copies_add : (at steps : ℕ) (latches differed : List ℕ) (c : CopyState) → AreCopies at steps latches differed → at ≤ 5 → length differed < 21
    → c.number ≡ module_at (length differed) → length c.latches ≡ latches_of c.number → c.count ≤ steps → is_at_rest (latches ++ c.latches) ≡ true
    → AreCopies 5 steps (latches ++ c.latches) (differed ++ c.count ∷ [])
copies_add at steps latches differed c s most few number sized low rest =
    let one : length (differed ++ c.count ∷ []) ≡ suc (length differed) = omega (arith, length-append differed (c.count ∷ [])) in
    record {
      none = λ l. absurd (omega (arith, l));
      sized =
          length-append latches c.latches ∙ ap (λ n. n + length c.latches) s.sized ∙ ap (λ n. latches_before (length differed) + n) (sized ∙ ap latches_of number)
          ∙ ap latches_before (sym one);
      counts = omega (arith, one, few);
      all = λ l. absurd (omega (arith, l));
      most = All-push (λ count. count ≤ steps) differed c.count s.most low;
      rest = rest;
    }

-- ---- one line

latest_low : (s : Section) → latest s ≤ rank s
latest_low section.Nothing = omega arith
latest_low section.Title = omega arith
latest_low section.Steps = omega arith
latest_low section.Count = omega arith
latest_low section.Simplex = omega arith
latest_low section.Copies = omega arith
latest_low section.Select = omega arith
latest_low section.Cells = omega arith
latest_low section.Words = omega arith
latest_low section.Log = omega arith
latest_low section.Repairs = omega arith
latest_low section.States = omega arith
latest_low section.Unplugs = omega arith
latest_low section.Faults = omega arith
latest_low section.Orders = omega arith
latest_low section.End = omega arith

-- where an entry stands in the order of the sections, and that its numbers go with those before
pub record Stands (r : Progress) (e : Entry) : Type 0 where
  pub from : earliest (section_of e) ≤ rank r.section
  pub to : rank r.section ≤ latest (section_of e)
  pub later : rank r.section ≤ rank (section_of e)
  pub place : least_in (section_of e) r ≤ place_of e
  pub agreed : agrees r e ≡ true

pub stands : (r : Progress) (e : Entry) → fits r e ≡ true → Stands r e
stands r e is =
    let parts = both (follows (section_of e) r.section && nat_le (least_in (section_of e) r) (place_of e)) (agrees r e) is in
    let rest = both (follows (section_of e) r.section) (nat_le (least_in (section_of e) r) (place_of e)) parts.0 in
    let ranks = both (nat_le (earliest (section_of e)) (rank r.section)) (nat_le (rank r.section) (latest (section_of e))) rest.0 in
    let to = leb-true (rank r.section) (latest (section_of e)) ranks.1 in
    let low = latest_low (section_of e) in
    record {
      from = leb-true (earliest (section_of e)) (rank r.section) ranks.0;
      to = to;
      later = omega (arith, to, low);
      place = leb-true (least_in (section_of e) r) (place_of e) rest.1;
      agreed = parts.1;
    }

pub sound_after : (devices : List Device) (number : ℕ) (r : Progress) (e : Entry) → IsSoundProgress r → IsEntry e → Stands r e → IsSoundProgress (moved_on devices (adds number r e) e)
sound_after devices number r says.Title h is s =
    record {
      counted = counted_kept (rank r.section) 1 r.steps r.count h.counted (λ l. omega (arith, s.from, l));
      copies = copies_kept (rank r.section) 1 r.steps r.latches r.differed h.copies s.later (λ l. omega (arith, s.from, l));
      selected = selected_kept (rank r.section) 1 r.selected h.selected (λ l. omega (arith, s.from, l));
      cells = cells_kept (rank r.section) 1 r.least _ r.cells h.cells s.later (omega arith);
      words = words_kept (rank r.section) 1 r.least _ r.banks r.words h.words s.later (omega arith);
      log = log_kept (rank r.section) 1 r.least _ r.steps r.log h.log s.later (omega arith);
      repairs = repairs_kept (rank r.section) 1 r.least _ r.banks r.steps r.repairs h.repairs s.later (omega arith);
      events = h.events;
    }
sound_after devices number r (says.Steps steps) h is s =
    record {
      counted = record { whole = eqb-true (steps % 3) 0 s.agreed; within = λ l. absurd (omega (arith, l)); most = h.counted.most };
      copies = copies_early (rank r.section) 2 r.steps steps r.latches r.differed h.copies (omega (arith, s.to)) (omega arith);
      selected = selected_kept (rank r.section) 2 r.selected h.selected (λ l. omega (arith, s.from, l));
      cells = cells_kept (rank r.section) 2 r.least _ r.cells h.cells s.later (omega arith);
      words = words_kept (rank r.section) 2 r.least _ r.banks r.words h.words s.later (omega arith);
      log = log_early (rank r.section) 2 r.least _ r.steps steps r.log h.log (omega (arith, s.to)) (omega arith);
      repairs = repairs_early (rank r.section) 2 r.least _ r.banks r.steps r.banks steps r.repairs h.repairs (omega (arith, s.to)) (omega arith);
      events = h.events;
    }
sound_after devices number r (says.Count count) h is s =
    record {
      counted = record { whole = h.counted.whole; within = λ _. leb-true r.steps (3 * count) s.agreed; most = is };
      copies = copies_kept (rank r.section) 3 r.steps r.latches r.differed h.copies s.later (λ l. omega (arith, s.from, l));
      selected = selected_kept (rank r.section) 3 r.selected h.selected (λ l. omega (arith, s.from, l));
      cells = cells_kept (rank r.section) 3 r.least _ r.cells h.cells s.later (omega arith);
      words = words_kept (rank r.section) 3 r.least _ r.banks r.words h.words s.later (omega arith);
      log = log_kept (rank r.section) 3 r.least _ r.steps r.log h.log s.later (omega arith);
      repairs = repairs_kept (rank r.section) 3 r.least _ r.banks r.steps r.repairs h.repairs s.later (omega arith);
      events = h.events;
    }
sound_after devices number r (says.Simplex banks) h is s =
    record {
      counted = counted_kept (rank r.section) 4 r.steps r.count h.counted (λ l. omega (arith, s.from, l));
      copies = copies_kept (rank r.section) 4 r.steps r.latches r.differed h.copies s.later (λ l. omega (arith, s.from, l));
      selected = selected_kept (rank r.section) 4 r.selected h.selected (λ l. omega (arith, s.from, l));
      cells = cells_kept (rank r.section) 4 r.least _ r.cells h.cells s.later (omega arith);
      words = words_early (rank r.section) 4 r.least _ r.banks banks r.words h.words (omega (arith, s.to)) (omega arith);
      log = log_kept (rank r.section) 4 r.least _ r.steps r.log h.log s.later (omega arith);
      repairs = repairs_early (rank r.section) 4 r.least _ r.banks r.steps banks r.steps r.repairs h.repairs (omega (arith, s.to)) (omega arith);
      events = h.events;
    }
sound_after devices number r (says.Copy copy) h is s =
    let a : Bool = nat_lt (length r.differed) 21 in
    let b : Bool = copy.number == module_at (length r.differed) in
    let d : Bool = copy.copy == copy_at (length r.differed) in
    let e : Bool = length copy.latches == latches_of copy.number in
    let f : Bool = nat_le copy.count r.steps in
    let five = both ((((a && b) && d) && e) && f) (is_at_rest (r.latches ++ copy.latches)) s.agreed in
    let four = both (((a && b) && d) && e) f five.0 in
    let three = both ((a && b) && d) e four.0 in
    let two = both (a && b) d three.0 in
    let one = both a b two.0 in
    record {
      counted = counted_kept (rank r.section) 5 r.steps r.count h.counted (λ l. omega (arith, s.from, l));
      copies = copies_add (rank r.section) r.steps r.latches r.differed copy h.copies s.later (ltb-true (length r.differed) 21 one.0)
          (eqb-true copy.number (module_at (length r.differed)) one.1) (eqb-true (length copy.latches) (latches_of copy.number) three.1) (leb-true copy.count r.steps four.1) five.1;
      selected = selected_kept (rank r.section) 5 r.selected h.selected (λ l. omega (arith, s.from, l));
      cells = cells_kept (rank r.section) 5 r.least _ r.cells h.cells s.later (omega arith);
      words = words_kept (rank r.section) 5 r.least _ r.banks r.words h.words s.later (omega arith);
      log = log_kept (rank r.section) 5 r.least _ r.steps r.log h.log s.later (omega arith);
      repairs = repairs_kept (rank r.section) 5 r.least _ r.banks r.steps r.repairs h.repairs s.later (omega arith);
      events = h.events;
    }
sound_after devices number r (says.Select twins) h is s =
    record {
      counted = counted_kept (rank r.section) 6 r.steps r.count h.counted (λ l. omega (arith, s.from, l));
      copies = record {
        none = λ l. absurd (omega (arith, l));
        sized = h.copies.sized;
        counts = h.copies.counts;
        all = λ _. eqb-true (length r.differed) 21 s.agreed;
        most = h.copies.most;
        rest = h.copies.rest;
      };
      selected = record { pairs = λ _. is.0; twins = is.1 };
      cells = cells_kept (rank r.section) 6 r.least _ r.cells h.cells s.later (omega arith);
      words = words_kept (rank r.section) 6 r.least _ r.banks r.words h.words s.later (omega arith);
      log = log_kept (rank r.section) 6 r.least _ r.steps r.log h.log s.later (omega arith);
      repairs = repairs_kept (rank r.section) 6 r.least _ r.banks r.steps r.repairs h.repairs s.later (omega arith);
      events = h.events;
    }
sound_after devices number r (says.Cell held) h is s =
    record {
      counted = counted_kept (rank r.section) 7 r.steps r.count h.counted (λ l. omega (arith, s.from, l));
      copies = copies_kept (rank r.section) 7 r.steps r.latches r.differed h.copies s.later (λ l. omega (arith, s.from, l));
      selected = selected_kept (rank r.section) 7 r.selected h.selected (λ l. omega (arith, s.from, l));
      cells = cells_add (rank r.section) r.least r.cells held h.cells s.later s.place (eqb-false held.cell (code_of 0) (not-false (held.cell == code_of 0) s.agreed)) is;
      words = words_kept (rank r.section) 7 r.least _ r.banks r.words h.words s.later (omega arith);
      log = log_kept (rank r.section) 7 r.least _ r.steps r.log h.log s.later (omega arith);
      repairs = repairs_kept (rank r.section) 7 r.least _ r.banks r.steps r.repairs h.repairs s.later (omega arith);
      events = h.events;
    }
sound_after devices number r (says.Word placed) h is s =
    let parts = both (not (placed.word == 0)) (is_there r.banks placed.at) s.agreed in
    record {
      counted = counted_kept (rank r.section) 8 r.steps r.count h.counted (λ l. omega (arith, s.from, l));
      copies = copies_kept (rank r.section) 8 r.steps r.latches r.differed h.copies s.later (λ l. omega (arith, s.from, l));
      selected = selected_kept (rank r.section) 8 r.selected h.selected (λ l. omega (arith, s.from, l));
      cells = cells_kept (rank r.section) 8 r.least _ r.cells h.cells s.later (omega arith);
      words = words_add (rank r.section) r.least r.banks r.words placed h.words s.later s.place (eqb-false placed.word 0 (not-false (placed.word == 0) parts.0)) parts.1;
      log = log_kept (rank r.section) 8 r.least _ r.steps r.log h.log s.later (omega arith);
      repairs = repairs_kept (rank r.section) 8 r.least _ r.banks r.steps r.repairs h.repairs s.later (omega arith);
      events = h.events;
    }
sound_after devices number r (says.Exchange exchange) h is s =
    record {
      counted = counted_kept (rank r.section) 9 r.steps r.count h.counted (λ l. omega (arith, s.from, l));
      copies = copies_kept (rank r.section) 9 r.steps r.latches r.differed h.copies s.later (λ l. omega (arith, s.from, l));
      selected = selected_kept (rank r.section) 9 r.selected h.selected (λ l. omega (arith, s.from, l));
      cells = cells_kept (rank r.section) 9 r.least _ r.cells h.cells s.later (omega arith);
      words = words_kept (rank r.section) 9 r.least _ r.banks r.words h.words s.later (omega arith);
      log = log_add (rank r.section) r.least r.steps r.log exchange h.log s.later s.place (ltb-true exchange.time (r.steps / 3) s.agreed);
      repairs = repairs_kept (rank r.section) 9 r.least _ r.banks r.steps r.repairs h.repairs s.later (omega arith);
      events = h.events;
    }
sound_after devices number r (says.Repair repair) h is s =
    let parts = both (nat_lt repair.step r.steps) (is_there r.banks repair.at) s.agreed in
    record {
      counted = counted_kept (rank r.section) 10 r.steps r.count h.counted (λ l. omega (arith, s.from, l));
      copies = copies_kept (rank r.section) 10 r.steps r.latches r.differed h.copies s.later (λ l. omega (arith, s.from, l));
      selected = selected_kept (rank r.section) 10 r.selected h.selected (λ l. omega (arith, s.from, l));
      cells = cells_kept (rank r.section) 10 r.least _ r.cells h.cells s.later (omega arith);
      words = words_kept (rank r.section) 10 r.least _ r.banks r.words h.words s.later (omega arith);
      log = log_kept (rank r.section) 10 r.least _ r.steps r.log h.log s.later (omega arith);
      repairs = repairs_add (rank r.section) r.least r.banks r.steps r.repairs repair h.repairs s.later s.place (ltb-true repair.step r.steps parts.0) parts.1 is;
      events = h.events;
    }
sound_after devices number r (says.State supply) h is s =
    record {
      counted = counted_kept (rank r.section) 11 r.steps r.count h.counted (λ l. omega (arith, s.from, l));
      copies = copies_kept (rank r.section) 11 r.steps r.latches r.differed h.copies s.later (λ l. omega (arith, s.from, l));
      selected = selected_kept (rank r.section) 11 r.selected h.selected (λ l. omega (arith, s.from, l));
      cells = cells_kept (rank r.section) 11 r.least _ r.cells h.cells s.later (omega arith);
      words = words_kept (rank r.section) 11 r.least _ r.banks r.words h.words s.later (omega arith);
      log = log_kept (rank r.section) 11 r.least _ r.steps r.log h.log s.later (omega arith);
      repairs = repairs_kept (rank r.section) 11 r.least _ r.banks r.steps r.repairs h.repairs s.later (omega arith);
      events = h.events;
    }
sound_after devices number r (says.Unplug unplug) h is s =
    record {
      counted = counted_kept (rank r.section) 12 r.steps r.count h.counted (λ l. omega (arith, s.from, l));
      copies = copies_kept (rank r.section) 12 r.steps r.latches r.differed h.copies s.later (λ l. omega (arith, s.from, l));
      selected = selected_kept (rank r.section) 12 r.selected h.selected (λ l. omega (arith, s.from, l));
      cells = cells_kept (rank r.section) 12 r.least _ r.cells h.cells s.later (omega arith);
      words = words_kept (rank r.section) 12 r.least _ r.banks r.words h.words s.later (omega arith);
      log = log_kept (rank r.section) 12 r.least _ r.steps r.log h.log s.later (omega arith);
      repairs = repairs_kept (rank r.section) 12 r.least _ r.banks r.steps r.repairs h.repairs s.later (omega arith);
      events = h.events;
    }
sound_after devices number r (says.Fault event) h is s =
    record {
      counted = counted_kept (rank r.section) 13 r.steps r.count h.counted (λ l. omega (arith, s.from, l));
      copies = copies_kept (rank r.section) 13 r.steps r.latches r.differed h.copies s.later (λ l. omega (arith, s.from, l));
      selected = selected_kept (rank r.section) 13 r.selected h.selected (λ l. omega (arith, s.from, l));
      cells = cells_kept (rank r.section) 13 r.least _ r.cells h.cells s.later (omega arith);
      words = words_kept (rank r.section) 13 r.least _ r.banks r.words h.words s.later (omega arith);
      log = log_kept (rank r.section) 13 r.least _ r.steps r.log h.log s.later (omega arith);
      repairs = repairs_kept (rank r.section) 13 r.least _ r.banks r.steps r.repairs h.repairs s.later (omega arith);
      events = events_add r.script event h.events (ltb-true (length r.script) 65536 s.agreed) is;
    }
sound_after devices number r (says.Order order) h is s =
    record {
      counted = counted_kept (rank r.section) 14 r.steps r.count h.counted (λ l. omega (arith, s.from, l));
      copies = copies_kept (rank r.section) 14 r.steps r.latches r.differed h.copies s.later (λ l. omega (arith, s.from, l));
      selected = selected_kept (rank r.section) 14 r.selected h.selected (λ l. omega (arith, s.from, l));
      cells = cells_kept (rank r.section) 14 r.least _ r.cells h.cells s.later (omega arith);
      words = words_kept (rank r.section) 14 r.least _ r.banks r.words h.words s.later (omega arith);
      log = log_kept (rank r.section) 14 r.least _ r.steps r.log h.log s.later (omega arith);
      repairs = repairs_kept (rank r.section) 14 r.least _ r.banks r.steps r.repairs h.repairs s.later (omega arith);
      events = h.events;
    }
sound_after devices number r says.End h is s =
    record {
      counted = counted_kept (rank r.section) 15 r.steps r.count h.counted (λ l. omega (arith, s.from, l));
      copies = copies_kept (rank r.section) 15 r.steps r.latches r.differed h.copies s.later (λ l. omega (arith, s.from, l));
      selected = selected_kept (rank r.section) 15 r.selected h.selected (λ l. omega (arith, s.from, l));
      cells = cells_kept (rank r.section) 15 r.least _ r.cells h.cells s.later (omega arith);
      words = words_kept (rank r.section) 15 r.least _ r.banks r.words h.words s.later (omega arith);
      log = log_kept (rank r.section) 15 r.least _ r.steps r.log h.log s.later (omega arith);
      repairs = repairs_kept (rank r.section) 15 r.least _ r.banks r.steps r.repairs h.repairs s.later (omega arith);
      events = h.events;
    }

-- a line that fits keeps all sound
pub sound_more : (devices : List Device) (number : ℕ) (r : Progress) (e : Entry) → IsSoundProgress r → IsEntry e → fits r e ≡ true → IsSoundProgress (moved_on devices (adds number r e) e)
sound_more devices number r e h is fit = sound_after devices number r e h is (stands r e fit)

made_by : (devices : List Device) (number : ℕ) (r t : Progress) (e : Entry) (fit : Bool) (lack : Option ℕ) → fits r e ≡ fit
    → (if fit then by_lack devices number r e lack else Err (BadSave number)) ≡ Ok t → IsEntry e → IsSoundProgress r → IsSoundProgress t
made_by devices number r t e true None fit made is h =
    let one : moved_on devices (adds number r e) e ≡ t = cc in subst IsSoundProgress one (sound_more devices number r e h is fit)
made_by devices number r t e true (Some line) fit made is h = absurd cc
made_by devices number r t e false lack fit made is h = absurd cc

-- what a call has made of an entry is sound
pub sound_made : {T : Type 0} (devices : List Device) (number : ℕ) (r t : Progress) (e : Entry) (result : Result T SaveFault)
    → Makes result t (after_entry devices number r e) → IsEntry e → IsSoundProgress r → OnOk result (IsSoundProgress t)
sound_made devices number r t e (Ok done) made is h = made_by devices number r t e (fits r e) (lacking devices number r e) refl made is h
sound_made devices number r t e (Err fault) made is h = tt

-- an entry that fits and names no device that isn't there is taken
pub taken : (devices : List Device) (number least : ℕ) (r s : Progress) (e : Entry) (next : Section) → fits r e ≡ true → lacking devices number r e ≡ None
    → s ≡ adds number r e → next ≡ section_of e → least ≡ least_after devices e → after_entry devices number r e ≡ Ok (record s { section = next; least = least })
taken devices number least r s e next fit lack made is after = rw (fit, lack, made, is, after) refl

-- an entry that doesn't fit is refused
pub unfit : (devices : List Device) (number : ℕ) (r : Progress) (e : Entry) → fits r e ≡ false → after_entry devices number r e ≡ Err (BadSave number)
unfit devices number r e fit = rw fit refl

-- an entry that names a device that isn't there is refused
pub without : (devices : List Device) (number line : ℕ) (r : Progress) (e : Entry) → fits r e ≡ true → lacking devices number r e ≡ Some line
    → after_entry devices number r e ≡ Err (NoDevice line)
without devices number line r e fit lack = rw (fit, lack) refl

-- before the first line
pub sound_first : IsSoundProgress nothing_said
unfolding majority
sound_first = record {
  counted = record { whole = refl; within = λ l. absurd (omega (arith, l)); most = omega arith };
  copies = record { none = λ _. refl; sized = refl; counts = omega arith; all = λ l. absurd (omega (arith, l)); most = All-nil (λ count. count ≤ 0); rest = refl };
  selected = record { pairs = λ l. absurd (omega (arith, l)); twins = All-nil (λ twin. twin < 2) };
  cells = record { none = λ _. refl; below = λ is. absurd (omega (arith, is)); rise = refl; differ = All-nil (λ k. k.cell ≢ code_of 0); places = All-nil NamesPlace };
  words = record { none = λ _. refl; below = λ is. absurd (omega (arith, is)); rise = refl; differ = All-nil (λ q. q.word ≢ 0); there = All-nil (λ q. is_there 0 q.at ≡ true) };
  log = record { none = λ _. refl; below = λ is. absurd (omega (arith, is)); lines = no_log 0 [] refl };
  repairs = record { none = λ _. refl; below = λ is. absurd (omega (arith, is)); lines = no_repairs 0 0 [] refl };
  events = record { few = omega arith; events = All-nil IsEvent };
}

-- after END the snapshot is whole
pub whole_last : (r : Progress) → IsSoundProgress r → rank r.section ≡ 15 → IsWhole (saved_in r).snapshot
whole_last r h last =
    let counts = h.copies.all (omega (arith, last)) in
    let rest = both (_) (_) h.copies.rest in
    record {
      latches = h.copies.sized ∙ ap latches_before counts;
      counts = counts;
      pairs = h.selected.pairs (omega (arith, last));
      most = h.copies.most;
      twins = h.selected.twins;
      times = h.counted.whole;
      phase = eqb-true _ 0 rest.0;
      stop = eqb-true _ 0 rest.1;
      cells_rise = h.cells.rise;
      cells_differ = h.cells.differ;
      places = h.cells.places;
      words_rise = h.words.rise;
      words_differ = h.words.differ;
      there = h.words.there;
      log = h.log.lines;
      repairs = h.repairs.lines;
    }
