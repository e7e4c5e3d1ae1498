-- The copies one after the other, and the whole text by its parts.
use Rattle.std.proofs.Common.{◌≡◌, ℕ, ◌+◌, ◌<◌, ◌≤◌, Bool, true, List, [], ◌∷◌, ◌++◌, map, codes, refl, sym, ap, ◌∙◌, arith, add-one, append-nil}
use Rattle.std.specs.List.{range_with_len}
use Rattle.std.specs.Prelude.{nat_le}
use Rattle.std.proofs.lemmas.Bool.{leb-true}
use Rattle.std.proofs.lemmas.List.FromFn.{map-range_with_len_more}
use Rattle.lvdc_vote.specs.Numbers.{latches_of}
use Rattle.lvdc_orders.specs.Orders.{orders_of}
use Rattle.lvdc_snapshot.specs.declared.snapshot.Snapshot.{Snapshot}
use Rattle.lvdc_lines.specs.Noted.{lines_of}
use Rattle.lvdc_save.specs.declared.entry.Entry.{Entry}
use Rattle.lvdc_save.specs.declared.entry.Entry.TheVariants as says
use Rattle.lvdc_save.specs.declared.saved.Saved.{Saved}
use Rattle.lvdc_save.specs.Lines.{entry_line, copy_line}
use Rattle.lvdc_save.specs.Saved.{module_at, latches_before, copy_state, copy_entries, simplex_entries, saved_text}
use Rattle.lvdc_save.proofs.Below.{all_below, from_all_below}
use Rattle.lvdc_save.proofs.Texts.{list_before, list_after, line_before, last_line}

-- ---- the copies

fits : ℕ → Bool
fits index = nat_le (latches_before index + latches_of (module_at index)) 45

all_fit : all_below fits 21 ≡ true
unfolding all_below fits
all_fit = refl

-- the latches of each copy stand among the 45
pub copies_fit : (index : ℕ) → index < 21 → latches_before index + latches_of (module_at index) ≤ 45
unfolding fits
copies_fit index l = leb-true (latches_before index + latches_of (module_at index)) 45 (from_all_below fits 21 index all_fit l)

pub latches_next : (index : ℕ) → latches_before (index + 1) ≡ latches_before index + latches_of (module_at index)
latches_next index = rw add-one refl

pub no_copies : (front : List ℕ) → front ≡ front ++ lines_of entry_line []
unfolding lines_of
no_copies front = sym (append-nil front)

pub copies_done : (s : Snapshot) (index : ℕ) (front text : List ℕ) → index ≡ 21
    → text ≡ front ++ lines_of entry_line (map (λ i. says.Copy (copy_state s i)) (range_with_len 0 index))
    → text ≡ front ++ lines_of entry_line (copy_entries s)
copies_done s index front text all e =
    e ∙ ap (λ (n : ℕ). front ++ lines_of entry_line (map (λ i. says.Copy (copy_state s i)) (range_with_len 0 n))) all

pub copies_more : (s : Snapshot) (index : ℕ) (front text next : List ℕ)
    → text ≡ front ++ lines_of entry_line (map (λ i. says.Copy (copy_state s i)) (range_with_len 0 index))
    → next ≡ text ++ copy_line (copy_state s index)
    → next ≡ front ++ lines_of entry_line (map (λ i. says.Copy (copy_state s i)) (range_with_len 0 (index + 1)))
copies_more s index front text next so_far more =
    list_before (map (λ i. says.Copy (copy_state s i)) (range_with_len 0 index)) (says.Copy (copy_state s index) ∷ []) front text next so_far (last_line (says.Copy (copy_state s index)) text next more)
    ∙ ap (λ (es : List Entry). front ++ lines_of entry_line es) (sym (map-range_with_len_more (λ i. says.Copy (copy_state s i)) 0 index index (omega arith)))

-- ---- the whole

pub whole_text : (s : Saved) (title steps count banks copies select cells words log repairs states unplugs script orders all : List ℕ)
    → title ≡ codes "LVDC SAVE 1\n"
    → steps ≡ title ++ entry_line (says.Steps s.snapshot.steps)
    → count ≡ steps ++ entry_line (says.Count s.count)
    → banks ≡ count ++ lines_of entry_line (simplex_entries s.snapshot.banks)
    → copies ≡ banks ++ lines_of entry_line (copy_entries s.snapshot)
    → select ≡ copies ++ entry_line (says.Select s.snapshot.selected)
    → cells ≡ select ++ lines_of entry_line (map says.Cell s.snapshot.cells)
    → words ≡ cells ++ lines_of entry_line (map says.Word s.snapshot.words)
    → log ≡ words ++ lines_of entry_line (map says.Exchange s.snapshot.log)
    → repairs ≡ log ++ lines_of entry_line (map says.Repair s.snapshot.repairs)
    → states ≡ repairs ++ lines_of entry_line (map says.State s.states)
    → unplugs ≡ states ++ lines_of entry_line (map says.Unplug s.unplugs)
    → script ≡ unplugs ++ lines_of entry_line (map says.Fault s.script)
    → orders ≡ script ++ lines_of entry_line (map says.Order (orders_of s.orders))
    → all ≡ orders ++ codes "END\n"
    → all ≡ saved_text s
unfolding saved_text
whole_text s title steps count banks copies select cells words log repairs states unplugs script orders all e1 e2 e3 e4 e5 e6 e7 e8 e9 e10 e11 e12 e13 e14 e15 =
    let head : banks ≡ lines_of entry_line (says.Title ∷ says.Steps s.snapshot.steps ∷ says.Count s.count ∷ simplex_entries s.snapshot.banks) =
    line_before says.Title _ [] title banks e1 (line_before (says.Steps s.snapshot.steps) _ title steps banks e2 (line_before (says.Count s.count) _ steps count banks e3 e4)) in
    list_after _ (says.End ∷ []) orders all
    (list_after _ (map says.Order (orders_of s.orders)) script orders
    (list_after _ (map says.Fault s.script) unplugs script
    (list_after _ (map says.Unplug s.unplugs) states unplugs
    (list_after _ (map says.State s.states) repairs states
    (list_after _ (map says.Repair s.snapshot.repairs) log repairs
    (list_after _ (map says.Exchange s.snapshot.log) words log
    (list_after _ (map says.Word s.snapshot.words) cells words
    (list_after _ (says.Select s.snapshot.selected ∷ map says.Cell s.snapshot.cells) copies cells
    (list_after _ (copy_entries s.snapshot) banks copies head e5)
    (line_before (says.Select s.snapshot.selected) (map says.Cell s.snapshot.cells) copies select cells e6 e7))
    e8) e9) e10) e11) e12) e13) e14)
    (last_line says.End orders all e15)
