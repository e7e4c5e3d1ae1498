-- Each slot's cell is taken, but for that of the word 0.
use Rattle.std.proofs.Common.{◌≡◌, ◌/◌, ◌%◌, ◌<◌, ◌∷◌, [], ◌++◌, get_or, sym, ap, ◌∙◌, arith, add-one}
use Rattle.lvdc_word.specs.Cell.{code_of}
use Rattle.lvdc_map.specs.Address.{Spot, spot_at}
use Rattle.lvdc_twin.specs.Store.{Store}
use Rattle.lvdc_twin.specs.declared.held.Held.{Held}
use Rattle.lvdc_twin.proofs.Holding.{differs, same_as, gathers-other, gathers-more}
use Rattle.lvdc_twin.proofs.twins.Twins.gather.Goals as goal
use Rattle.lvdc_twin.proofs.twins.Twins.gather.Goals.{then-ne+in_ok-push, else-ne}

pub loop-slot-init : goal.loop-slot-init
loop-slot-init c before = before

pub loop-slot-preserved : goal.loop-slot-preserved
loop-slot-preserved c =
    let n = c.loop-slot.slot in
    let cells = c.args.self.now.cells in
    let small : n < 32768 = omega (arith, c.loop-slot-test.true, c.requires) in
    let here : c.at-cell.result ≡ get_or cells n 0 = c.at-cell.ensures.value 0 ∙ ap (λ (t : Store). get_or t.cells n 0) c.self.view_is in
    let zero_cell : c.encode-zero.result ≡ code_of 0 = c.encode-zero.ensures in
    rw add-one (elim c.if-ne.branch [
      | then-ne+in_ok-push w ↦
          let h : Held = record { twin = n / 16384; at = spot_at (n % 16384); cell = c.at-cell.result } in
          let now : c.if-ne.held.items ≡ c.loop-slot.held.items ++ h ∷ [] =
          ap (λ v. v.items) w.held-is ∙ w.in_ok-push.ensures.items
          ∙ ap (λ (at : Spot). c.loop-slot.held.items ++ record { twin = n / 16384; at = at; cell = c.at-cell.result } ∷ []) w.numbered.ensures in
          rw now (λ before. gathers-more cells n c.loop-slot.held.items h
          (record { twin = omega (arith, small); pair = omega (arith, small); sector = omega arith; loc = omega arith })
          (record { pair = omega (arith, small); sector = omega arith; loc = omega arith })
          (omega arith) here (λ same. differs c.at-cell.result c.encode-zero.result w.if-ne.ensures (same ∙ sym zero_cell)) (c.loop-slot.invariant before))
      | else-ne w ↦
          let now : c.if-ne.held.items ≡ c.loop-slot.held.items = ap (λ v. v.items) w.held-is in
          rw now (λ before. gathers-other cells n c.loop-slot.held.items (sym here ∙ same_as c.at-cell.result c.encode-zero.result w.if-ne.ensures ∙ zero_cell)
          (c.loop-slot.invariant before))
    ])
