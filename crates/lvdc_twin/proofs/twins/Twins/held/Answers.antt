-- A sector in which nothing was put has the cell of the word 0 alone.
use Rattle.std.proofs.Common.{◌≡◌, ℕ, ◌+◌, ◌*◌, ◌<◌, true, get_or, sym, ap, subst, ◌∙◌, arith, rules}
use Rattle.lvdc_word.specs.Cell.{code_of}
use Rattle.lvdc_twin.specs.Cells.{Gathers}
use Rattle.lvdc_twin.specs.Store.{Store}
use Rattle.lvdc_twin.proofs.Holding.{gathers-others}
use Rattle.lvdc_twin.proofs.twins.Twins.held.Goals as goal
use Rattle.lvdc_twin.proofs.twins.Twins.held.Goals.{then-not-is_blank+in_ok-gather, else-not-is_blank}

pub loop-sector-preserved : goal.loop-sector-preserved
loop-sector-preserved c =
    let cells = c.args.self.now.cells in
    let sector = c.loop-sector.sector in
    let next : 256 * sector + 256 ≡ 256 * (sector + 1) = omega arith in
    elim c.if-not-is_blank.branch [
      | then-not-is_blank+in_ok-gather w ↦
          subst (λ (n : ℕ). Gathers cells n c.if-not-is_blank.held.items) next
          (subst (λ v. Gathers cells (256 * sector + 256) v.items) (sym w.held-is) (w.in_ok-gather.ensures c.loop-sector.invariant))
      | else-not-is_blank w ↦
          let blank : c.is_blank.result ≡ true = search rules in
          let none : (i : ℕ) → i < 256 → get_or cells (256 * sector + i) 0 ≡ code_of 0 =
          λ i less. ap (λ (t : Store). get_or t.cells (256 * sector + i) 0) (sym c.self.view_is)
          ∙ c.is_blank.ensures blank (256 * sector + i) 0 (omega (arith, less, c.loop-sector-test.true)) (omega (arith, less)) ∙ c.self.invariant.1 in
          subst (λ (n : ℕ). Gathers cells n c.if-not-is_blank.held.items) next
          (subst (λ v. Gathers cells (256 * sector + 256) v.items) (sym w.held-is) (gathers-others 256 cells (256 * sector) c.loop-sector.held.items none c.loop-sector.invariant))
    ]
