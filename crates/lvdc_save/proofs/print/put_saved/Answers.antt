use Rattle.std.proofs.Common.{ℕ, ◌<◌, ◌≤◌, ◌^◌, List, ◌++◌, ◌∙◌, All, ap, map, codes, subst, sym}
use Rattle.std.proofs.lemmas.List.Elements.{All-weaker}
use Rattle.lvdc_map.specs.Address.{IsAddress}
use Rattle.lvdc_image.specs.Image.{IsPlaced}
use Rattle.lvdc_twin.specs.declared.held.Held.{Held}
use Rattle.lvdc_plain.specs.declared.records.Unplug.{Unplug}
use Rattle.lvdc_model.specs.declared.repair.Repair.{Repair}
use Rattle.lvdc_fault.specs.Events.{TIMES}
use Rattle.lvdc_save.specs.Printed.{IsSupply, IsUnplug}
use Rattle.lvdc_map.specs.declared.placed.Placed.{Placed}
use Rattle.lvdc_lines.specs.Noted.{IsInRange, lines_of, log_text, repairs_text}
use Rattle.lvdc_lines.proofs.LineLists.{lines_of-map}
use Rattle.lvdc_save.specs.declared.entry.Entry.TheVariants as says
use Rattle.lvdc_save.specs.Lines.{entry_line, select_line}
use Rattle.lvdc_save.proofs.Printing.{whole_text}
use Rattle.lvdc_save.proofs.Sizes.{whole_short}
use Rattle.lvdc_save.proofs.AllPrinted.{entries-printed}
use Rattle.lvdc_save.proofs.print.put_saved.Goals as goal

pub returns-clause-text : goal.returns-clause-text
returns-clause-text c =
    whole_text c.args.saved.now _ _ _ _ _ _ _ _ _ _ _ _ _ _ _
    (c.in_ok-put_text.ensures.text ∙ ap (λ (t : List ℕ). t ++ codes "LVDC SAVE 1\n") c.requires.empty)
    c.in_ok-put_steps.ensures c.in_ok-put_count.ensures c.in_ok-put_banks.ensures.lines c.in_ok-put_copies.ensures.lines
    (c.in_ok-put_select.ensures ∙ ap (λ (ts : List ℕ). c.put_copies.new.out.items ++ select_line ts) c.items.ensures)
    (c.in_ok-put_cells.ensures.lines ∙ ap (λ xs. c.put_select.new.out.items ++ lines_of entry_line (map says.Cell xs)) c.items-2.ensures)
    (c.in_ok-put_words.ensures.lines ∙ ap (λ xs. c.put_cells.new.out.items ++ lines_of entry_line (map says.Word xs)) c.items-3.ensures)
    (c.in_ok-put_log.ensures.log ∙ ap (λ xs. c.put_words.new.out.items ++ log_text xs) c.items-4.ensures
    ∙ ap (λ t. c.put_words.new.out.items ++ t) (sym (lines_of-map entry_line says.Exchange c.args.saved.now.snapshot.log)))
    (c.in_ok-put_repairs.ensures.lines ∙ ap (λ xs. c.put_log.new.out.items ++ repairs_text xs) c.items-5.ensures
    ∙ ap (λ t. c.put_log.new.out.items ++ t) (sym (lines_of-map entry_line says.Repair c.args.saved.now.snapshot.repairs)))
    (c.in_ok-put_states.ensures.lines ∙ ap (λ xs. c.put_repairs.new.out.items ++ lines_of entry_line (map says.State xs)) c.items-6.ensures)
    (c.in_ok-put_unplugs.ensures.lines ∙ ap (λ xs. c.put_states.new.out.items ++ lines_of entry_line (map says.Unplug xs)) c.items-7.ensures)
    c.in_ok-put_script.ensures c.in_ok-put_orders.ensures.lines
    c.in_ok-put_text-2.ensures.text

pub returns-clause-short : goal.returns-clause-short
returns-clause-short c = λ bounded.
    whole_short c.args.saved.now c.requires.whole bounded (All-weaker IsPlaced (λ (p : Placed). IsAddress p.at) (λ p is. is.at) c.args.saved.now.snapshot.words (subst (All IsPlaced) c.items-3.ensures c.in_ok-put_words.ensures.placed)) _ _ _ _ _ _ _ _ _ _ _ _ _ _ _
    (c.in_ok-put_text.ensures.text ∙ ap (λ (t : List ℕ). t ++ codes "LVDC SAVE 1\n") c.requires.empty)
    c.in_ok-put_steps.ensures c.in_ok-put_count.ensures c.in_ok-put_banks.ensures.lines c.in_ok-put_copies.ensures.lines
    (c.in_ok-put_select.ensures ∙ ap (λ (ts : List ℕ). c.put_copies.new.out.items ++ select_line ts) c.items.ensures)
    (c.in_ok-put_cells.ensures.lines ∙ ap (λ xs. c.put_select.new.out.items ++ lines_of entry_line (map says.Cell xs)) c.items-2.ensures)
    (c.in_ok-put_words.ensures.lines ∙ ap (λ xs. c.put_cells.new.out.items ++ lines_of entry_line (map says.Word xs)) c.items-3.ensures)
    (c.in_ok-put_log.ensures.log ∙ ap (λ xs. c.put_words.new.out.items ++ log_text xs) c.items-4.ensures
    ∙ ap (λ t. c.put_words.new.out.items ++ t) (sym (lines_of-map entry_line says.Exchange c.args.saved.now.snapshot.log)))
    (c.in_ok-put_repairs.ensures.lines ∙ ap (λ xs. c.put_log.new.out.items ++ repairs_text xs) c.items-5.ensures
    ∙ ap (λ t. c.put_log.new.out.items ++ t) (sym (lines_of-map entry_line says.Repair c.args.saved.now.snapshot.repairs)))
    (c.in_ok-put_states.ensures.lines ∙ ap (λ xs. c.put_repairs.new.out.items ++ lines_of entry_line (map says.State xs)) c.items-6.ensures)
    (c.in_ok-put_unplugs.ensures.lines ∙ ap (λ xs. c.put_states.new.out.items ++ lines_of entry_line (map says.Unplug xs)) c.items-7.ensures)
    c.in_ok-put_script.ensures c.in_ok-put_orders.ensures.short
    c.in_ok-put_text-2.ensures.text

pub returns-clause-printed : goal.returns-clause-printed
returns-clause-printed c = λ deck.
    entries-printed c.args.saved.now c.requires.whole deck (record {
      banks = c.in_ok-put_banks.ensures.banks;
      copies = c.in_ok-put_copies.ensures.latches;
      cells = subst (All (λ (h : Held). h.cell < 2 ^ 28)) c.items-2.ensures c.in_ok-put_cells.ensures.cells;
      words = subst (All IsPlaced) c.items-3.ensures c.in_ok-put_words.ensures.placed;
      log = subst (All IsInRange) c.items-4.ensures c.in_ok-put_log.ensures.ranges;
      repairs = subst (All (λ (r : Repair). IsAddress r.at)) c.items-5.ensures c.in_ok-put_repairs.ensures.at;
      states = subst (All IsSupply) c.items-6.ensures c.in_ok-put_states.ensures.printed;
      unplugs = subst (All (λ (u : Unplug). u.time ≤ TIMES → IsUnplug u)) c.items-7.ensures c.in_ok-put_unplugs.ensures.printed;
      orders = c.in_ok-put_orders.ensures.full;
    })
