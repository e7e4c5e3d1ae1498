-- How long the lines of a saved text are, and how many there are.
use Rattle.std.proofs.Common.{◌≡◌, ℕ, zero, suc, ◌+◌, ◌*◌, ◌^◌, ◌<◌, ◌≤◌, Bool, true, false, ◌==◌, List, [], ◌∷◌, ◌++◌, All, length, map, take, drop, get_or, ap, sym, refl, ◌∙◌, subst, ltb, arith, length-append, length-take, length-drop, codes, decimal, add-one}
use Rattle.std.specs.Prelude.{slice_index}
use Rattle.std.specs.List.{range_with_len}
use Rattle.std.proofs.lemmas.Fmt.{length-decimal-le}
use Rattle.std.proofs.lemmas.List.Elements.{All-tail}
use Rattle.std.proofs.lemmas.List.FromFn.{map-range_with_len_more}
use Rattle.std.proofs.lemmas.Bool.{ltb-true}
use Rattle.lvdc_map.specs.Address.{IsAddress, number_of}
use Rattle.lvdc_map.specs.Banks.{is_simplex}
use Rattle.lvdc_map.specs.Memory as image
use Rattle.lvdc_map.specs.declared.placed.Placed.{Placed}
use Rattle.lvdc_twin.specs.Cells.{NamesPlace, are_rising}
use Rattle.lvdc_twin.specs.Store.{slot_of}
use Rattle.lvdc_twin.specs.declared.held.Held.{Held}
use Rattle.lvdc_text.proofs.ReadBack.{length-octal_text}
use Rattle.lvdc_vote.specs.Numbers.{latches_of}
use Rattle.lvdc_fault.specs.declared.event.Event.{Event}
use Rattle.lvdc_fault.specs.declared.event.Event.TheVariants.{Flip, Force, Lag, Deaf, Damage, Stick, Dead}
use Rattle.lvdc_fault.specs.Events.{IsEvent}
use Rattle.lvdc_port.specs.declared.requests.Supply.{Supply}
use Rattle.lvdc_plain.specs.declared.records.Exchange.{Exchange}
use Rattle.lvdc_plain.specs.declared.records.Unplug.{Unplug}
use Rattle.lvdc_model.specs.declared.repair.Repair.{Repair}
use Rattle.lvdc_snapshot.specs.declared.snapshot.Snapshot.{Snapshot}
use Rattle.lvdc_lines.specs.Noted.{lines_of}
use Rattle.lvdc_lines.proofs.LineLists.{lines_of-append, lines_of-map}
use Rattle.lvdc_lines.proofs.LineSizes.{step_short, length-direction, length-switch_text, length-lines}
use Rattle.lvdc_snapshot.specs.Snapshot.{IsWhole}
use Rattle.lvdc_save.specs.Bounded.{IsBounded}
use Rattle.lvdc_save.specs.declared.saved.Saved.{Saved}
use Rattle.lvdc_save.specs.declared.entry.Entry.{Entry}
use Rattle.lvdc_save.specs.declared.entry.Entry.TheVariants as says
use Rattle.lvdc_image.specs.Image.{pair_name}
use Rattle.lvdc_save.specs.Saved.{module_at, copy_at, latches_before, copy_state, simplex_entries, copy_entries}
use Rattle.lvdc_save.proofs.Below.{both, few_latches}
use Rattle.lvdc_save.proofs.Texts.{last_line}
use Rattle.lvdc_save.proofs.Printing.{no_copies}
use Rattle.lvdc_save.specs.Lines.{number_after, word_after, entry_line}

-- ---- numbers

-- a number of one digit
shortest : (n : ℕ) → n < 10 ^ 1 → length (decimal n) ≤ 1
shortest n l = length-decimal-le 1 n (omega arith) l (omega (arith, l))

-- ---- many lines

pub lines_short : {A : Type 0} (line : A → Entry) (most : ℕ) (items : List A) → All (λ a. length (entry_line (line a)) ≤ most) items
    → length (lines_of entry_line (map line items)) ≤ most * length items
lines_short line most items all =
    omega (arith, ap length (lines_of-map entry_line line items), length-lines (λ a. entry_line (line a)) most items all)

-- ---- one line

pub state_size : (s : Supply) → length (entry_line (says.State s)) ≤ 20
state_size s = simp (length-append, length-octal_text) (omega (arith))

pub word_size : (p : Placed) → length (entry_line (says.Word p)) ≤ 24
word_size p = simp (length-append, length-octal_text) (omega (arith))

pub cell_size : (h : Held) → h.twin < 2 → length (entry_line (says.Cell h)) ≤ 27
cell_size h l = simp (length-append, length-octal_text) (omega (arith, shortest h.twin (omega (arith, l))))

pub exchange_size : (e : Exchange) → e.time < 10 ^ 7 → length (entry_line (says.Exchange e)) ≤ 33
exchange_size e l = simp (length-append, length-octal_text) (omega (arith, length-direction e.reading, step_short e.time l))

pub repair_size : (r : Repair) → r.step < 10 ^ 7 → r.twin < 2 → length (entry_line (says.Repair r)) ≤ 33
repair_size r l two = simp (length-append, length-octal_text) (omega (arith, length-switch_text r.switched, step_short r.step l, shortest r.twin (omega (arith, two))))

pub unplug_size : (u : Unplug) → u.time < 10 ^ 7 → length (entry_line (says.Unplug u)) ≤ 19
unplug_size u l = simp (length-append, length-octal_text) (omega (arith, step_short u.time l))

pub fault_size : (e : Event) → IsEvent e → length (entry_line (says.Fault e)) ≤ 66
fault_size (Flip number copy first last index mask) is =
    let copy_is = is.0 in let span = is.1 in let few = few_latches number copy_is.last_module in
    simp (length-append, length-octal_text) (omega (arith, step_short number (omega (arith, copy_is.last_module)), step_short copy (omega (arith, copy_is.last_copy)), step_short first (omega (arith, span.in_order, span.below)), step_short last (omega (arith, span.below)), step_short index (omega (arith, is.2, few))))
fault_size (Force number copy first last index mask value) is =
    let copy_is = is.0 in let span = is.1 in let few = few_latches number copy_is.last_module in
    simp (length-append, length-octal_text) (omega (arith, step_short number (omega (arith, copy_is.last_module)), step_short copy (omega (arith, copy_is.last_copy)), step_short first (omega (arith, span.in_order, span.below)), step_short last (omega (arith, span.below)), step_short index (omega (arith, is.2, few))))
fault_size (Lag number copy first last) is =
    let copy_is = is.0 in let span = is.1 in
    simp (length-append, length-octal_text) (omega (arith, step_short number (omega (arith, copy_is.last_module)), step_short copy (omega (arith, copy_is.last_copy)), step_short first (omega (arith, span.in_order, span.below)), step_short last (omega (arith, span.below))))
fault_size (Deaf number copy first last) is =
    let copy_is = is.0 in let span = is.1 in
    simp (length-append, length-octal_text) (omega (arith, step_short number (omega (arith, copy_is.last_module)), step_short copy (omega (arith, copy_is.last_copy)), step_short first (omega (arith, span.in_order, span.below)), step_short last (omega (arith, span.below))))
fault_size (Damage twin at step mask) is =
    simp (length-append, length-octal_text) (omega (arith, step_short twin (omega (arith, is.0)), step_short step (omega (arith, is.2))))
fault_size (Stick twin at first last mask value) is =
    let span = is.2 in
    simp (length-append, length-octal_text) (omega (arith, step_short twin (omega (arith, is.0)), step_short first (omega (arith, span.in_order, span.below)), step_short last (omega (arith, span.below))))
fault_size (Dead twin pair first last) is =
    let span = is.2 in
    simp (length-append, length-octal_text) (omega (arith, step_short twin (omega (arith, is.0)), step_short pair (omega (arith, is.1)), step_short first (omega (arith, span.in_order, span.below)), step_short last (omega (arith, span.below))))

-- ---- the lines before the lists

name_size : (banks pair : ℕ) → length (pair_name banks pair) ≤ 2
name_size banks pair = by (is_simplex banks pair) refl
  where
    by : (is : Bool) → is_simplex banks pair ≡ is → length (pair_name banks pair) ≤ 2
    by true e = rw e (omega arith)
    by false e = rw e (omega arith)

pub simplex_size : (banks : ℕ) → length (lines_of entry_line (simplex_entries banks)) ≤ 16
unfolding lines_of
simplex_size banks = by (banks == 0) refl
  where
    by : (none : Bool) → (banks == 0) ≡ none → length (lines_of entry_line (simplex_entries banks)) ≤ 16
    by true e = rw e (omega arith)
    by false e = rw e (simp (length-append, length-octal_text) (omega (arith, name_size banks 0, name_size banks 1, name_size banks 2, name_size banks 3)))

pub twins_size : (twins : List ℕ) → All (λ twin. twin < 2) twins → length (lines_of number_after twins) ≤ 2 * length twins
unfolding lines_of
twins_size [] all = omega arith
twins_size (twin ∷ twins) all =
    let low : twin < 2 = all 0 twin (omega arith) in
    simp (length-append, length-octal_text) (omega (arith, shortest twin (omega (arith, low)), twins_size twins (All-tail (λ twin. twin < 2) twin twins all)))

words_size : (words : List ℕ) → length (lines_of word_after words) ≤ 10 * length words
unfolding lines_of
words_size [] = omega arith
words_size (word ∷ words) = simp (length-append, length-octal_text) (omega (arith, words_size words))

copy_size : (s : Snapshot) (index : ℕ) → length s.latches ≡ 45 → length s.differed ≡ 21 → All (λ count. count ≤ s.steps) s.differed → s.steps < 10 ^ 7 → index < 21
    → length (entry_line (says.Copy (copy_state s index))) ≤ 479
copy_size s index latches counts most few l =
    let count : slice_index s.differed index ≤ s.steps = most index 0 (omega (arith, counts, l)) in
    let words = words_size (take (latches_of (module_at index)) (drop (latches_before index) s.latches)) in
    simp (length-append, length-octal_text) (omega (arith, words, length-take (latches_of (module_at index)) (drop (latches_before index) s.latches), length-drop (latches_before index) s.latches, latches, step_short (module_at index) (omega (arith, l)), step_short (copy_at index) (omega arith), step_short (slice_index s.differed index) (omega (arith, count, few))))

joined_size : (xs : List Entry) (x : Entry) (a b : ℕ) → length (lines_of entry_line xs) ≤ a → length (entry_line x) ≤ b → length (lines_of entry_line (xs ++ x ∷ [])) ≤ a + b
joined_size xs x a b h g =
    let all = ap length (lines_of-append entry_line xs (x ∷ [])) ∙ length-append (lines_of entry_line xs) (lines_of entry_line (x ∷ [])) in
    let last = ap length (last_line x [] (entry_line x) refl) in
    omega (arith, all, last, h, g)

pub copies_size : (s : Snapshot) (n : ℕ) → length s.latches ≡ 45 → length s.differed ≡ 21 → All (λ count. count ≤ s.steps) s.differed → s.steps < 10 ^ 7 → n ≤ 21
    → length (lines_of entry_line (map (λ i. says.Copy (copy_state s i)) (range_with_len 0 n))) ≤ 479 * n
copies_size s zero latches counts most few l = let none = ap length (no_copies []) in omega (arith, none)
copies_size s (suc n) latches counts most few l =
    let xs : List Entry = map (λ i. says.Copy (copy_state s i)) (range_with_len 0 n) in
    let one = joined_size xs (says.Copy (copy_state s n)) (479 * n) 479 (copies_size s n latches counts most few (omega (arith, l))) (copy_size s n latches counts most few (omega (arith, l))) in
    let grown : map (λ i. says.Copy (copy_state s i)) (range_with_len 0 (suc n)) ≡ xs ++ says.Copy (copy_state s n) ∷ [] =
    ap (λ (m : ℕ). map (λ i. says.Copy (copy_state s i)) (range_with_len 0 m)) (sym (add-one n)) ∙ map-range_with_len_more (λ i. says.Copy (copy_state s i)) 0 n n (omega arith) in
    let all : length (lines_of entry_line (xs ++ says.Copy (copy_state s n) ∷ [])) ≤ 479 * suc n = omega (arith, one) in
    subst (λ (es : List Entry). length (lines_of entry_line es) ≤ 479 * suc n) (sym grown) all

-- ---- how many lines

few_cells : (h : Held) (cells : List Held) → are_rising (h ∷ cells) ≡ true → All NamesPlace (h ∷ cells) → slot_of h.twin h.at + length (h ∷ cells) ≤ 32768
few_cells h [] rise all =
    let is = all 0 h (omega arith) in omega (arith, is.twin, is.pair, is.sector, is.loc)
few_cells h (k ∷ cells) rise all =
    let parts = both (ltb (slot_of h.twin h.at) (slot_of k.twin k.at)) (are_rising (k ∷ cells)) rise in
    omega (arith, ltb-true (slot_of h.twin h.at) (slot_of k.twin k.at) parts.0, few_cells k cells parts.1 (All-tail NamesPlace h (k ∷ cells) all))

pub cells_few : (cells : List Held) → are_rising cells ≡ true → All NamesPlace cells → length cells ≤ 32768
cells_few [] rise all = omega arith
cells_few (h ∷ cells) rise all = omega (arith, few_cells h cells rise all)

few_words : (p : Placed) (words : List Placed) → image.are_rising (p ∷ words) ≡ true → All (λ q. IsAddress q.at) (p ∷ words) → number_of p.at + length (p ∷ words) ≤ 32768
few_words p [] rise all =
    let is = all 0 p (omega arith) in omega (arith, is.pair, is.sector, is.loc)
few_words p (q ∷ words) rise all =
    let parts = both (ltb (number_of p.at) (number_of q.at)) (image.are_rising (q ∷ words)) rise in
    omega (arith, ltb-true (number_of p.at) (number_of q.at) parts.0, few_words q words parts.1 (All-tail (λ q. IsAddress q.at) p (q ∷ words) all))

pub words_few : (words : List Placed) → image.are_rising words ≡ true → All (λ q. IsAddress q.at) words → length words ≤ 32768
words_few [] rise all = omega arith
words_few (p ∷ words) rise all = omega (arith, few_words p words rise all)

steps_size : (n : ℕ) → n < 10 ^ 7 → length (entry_line (says.Steps n)) ≤ 14
steps_size n l = simp (length-append) (omega (arith, step_short n l))

count_size : (n : ℕ) → n < 10 ^ 7 → length (entry_line (says.Count n)) ≤ 14
count_size n l = simp (length-append) (omega (arith, step_short n l))

select_size : (twins : List ℕ) → length twins ≡ 4 → All (λ twin. twin < 2) twins → length (entry_line (says.Select twins)) ≤ 15
select_size twins four all = simp (length-append) (omega (arith, four, twins_size twins all))

-- a text that grew by a line or more
longer : (text next line : List ℕ) (had most : ℕ) → next ≡ text ++ line → length text ≤ had → length line ≤ most → length next ≤ had + most
longer text next line had most e h l = let all = ap length e ∙ length-append text line in omega (arith, all, h, l)

-- ---- the whole

pub whole_short : (s : Saved) → IsWhole s.snapshot → IsBounded 1048576 s → All (λ p. IsAddress p.at) s.snapshot.words
    → (title steps count banks copies select cells words log repairs states unplugs script orders all : List ℕ)
    → title ≡ codes "LVDC SAVE 1\n"
    → steps ≡ title ++ entry_line (says.Steps s.snapshot.steps)
    → count ≡ steps ++ entry_line (says.Count s.count)
    → banks ≡ count ++ lines_of entry_line (simplex_entries s.snapshot.banks)
    → copies ≡ banks ++ lines_of entry_line (copy_entries s.snapshot)
    → select ≡ copies ++ entry_line (says.Select s.snapshot.selected)
    → cells ≡ select ++ lines_of entry_line (map says.Cell s.snapshot.cells)
    → words ≡ cells ++ lines_of entry_line (map says.Word s.snapshot.words)
    → log ≡ words ++ lines_of entry_line (map says.Exchange s.snapshot.log)
    → repairs ≡ log ++ lines_of entry_line (map says.Repair s.snapshot.repairs)
    → states ≡ repairs ++ lines_of entry_line (map says.State s.states)
    → unplugs ≡ states ++ lines_of entry_line (map says.Unplug s.unplugs)
    → script ≡ unplugs ++ lines_of entry_line (map says.Fault s.script)
    → length orders ≤ length script + 352
    → all ≡ orders ++ codes "END\n"
    → length all ≤ 134217728
whole_short s w b placed title steps count banks copies select cells words log repairs states unplugs script orders all e1 e2 e3 e4 e5 e6 e7 e8 e9 e10 e11 e12 e13 few e15 =
    let low : s.snapshot.steps < 10 ^ 7 = omega (arith, b.steps) in
    let cell_text = lines_short says.Cell 27 s.snapshot.cells (λ k d less. cell_size (get_or s.snapshot.cells k d) (w.places k d less).twin) in
    let word_text = lines_short says.Word 24 s.snapshot.words (λ k d less. word_size (get_or s.snapshot.words k d)) in
    let log_text = lines_short says.Exchange 33 s.snapshot.log (λ k d less. let early = w.log.below k d less in exchange_size (get_or s.snapshot.log k d) (omega (arith, early, low))) in
    let repair_text = lines_short says.Repair 33 s.snapshot.repairs (λ k d less. let early = w.repairs.below k d less in repair_size (get_or s.snapshot.repairs k d) (omega (arith, early, low)) (w.repairs.twins k d less)) in
    let state_text = lines_short says.State 20 s.states (λ k d less. state_size (get_or s.states k d)) in
    let unplug_text = lines_short says.Unplug 19 s.unplugs (λ k d less. let time = b.times k d less in unplug_size (get_or s.unplugs k d) (omega (arith, time))) in
    let fault_text = lines_short says.Fault 66 s.script (λ k d less. fault_size (get_or s.script k d) (b.events k d less)) in
    let t1 : length title ≤ 12 = rw e1 (omega arith) in
    let t2 = longer title steps (entry_line (says.Steps s.snapshot.steps)) 12 14 e2 t1 (steps_size s.snapshot.steps low) in
    let t3 = longer steps count (entry_line (says.Count s.count)) (12 + 14) 14 e3 t2 (count_size s.count (omega (arith, b.count))) in
    let t4 = longer count banks (lines_of entry_line (simplex_entries s.snapshot.banks)) (12 + 14 + 14) 16 e4 t3 (simplex_size s.snapshot.banks) in
    let t5 = longer banks copies (lines_of entry_line (copy_entries s.snapshot)) _ (479 * 21) e5 t4 (copies_size s.snapshot 21 w.latches w.counts w.most low (omega arith)) in
    let t6 = longer copies select (entry_line (says.Select s.snapshot.selected)) _ 15 e6 t5 (select_size s.snapshot.selected w.pairs w.twins) in
    let t7 = longer select cells (lines_of entry_line (map says.Cell s.snapshot.cells)) _ (27 * length s.snapshot.cells) e7 t6 cell_text in
    let t8 = longer cells words (lines_of entry_line (map says.Word s.snapshot.words)) _ (24 * length s.snapshot.words) e8 t7 word_text in
    let t9 = longer words log (lines_of entry_line (map says.Exchange s.snapshot.log)) _ (33 * length s.snapshot.log) e9 t8 log_text in
    let t10 = longer log repairs (lines_of entry_line (map says.Repair s.snapshot.repairs)) _ (33 * length s.snapshot.repairs) e10 t9 repair_text in
    let t11 = longer repairs states (lines_of entry_line (map says.State s.states)) _ (20 * length s.states) e11 t10 state_text in
    let t12 = longer states unplugs (lines_of entry_line (map says.Unplug s.unplugs)) _ (19 * length s.unplugs) e12 t11 unplug_text in
    let t13 = longer unplugs script (lines_of entry_line (map says.Fault s.script)) _ (66 * length s.script) e13 t12 fault_text in
    let t15 = ap length e15 ∙ length-append orders (codes "END\n") in
    omega (arith, t13, few, t15, cells_few s.snapshot.cells w.cells_rise w.places, words_few s.snapshot.words w.words_rise placed, b.noted, b.steps, b.states, b.unplugs, b.few)
