-- In a sector in which nothing was put each word is 0.
use Rattle.std.proofs.Common.{◌≡◌, ℕ, ◌+◌, ◌*◌, ◌<◌, true, get_or, sym, ap, subst, ◌∙◌, arith, rules}
use Rattle.lvdc_fault.specs.Ledger.{Intended, GathersWords}
use Rattle.lvdc_fault.proofs.Placing.{words-others}
use Rattle.lvdc_fault.proofs.ledger.Ledger.placed.Goals as goal
use Rattle.lvdc_fault.proofs.ledger.Ledger.placed.Goals.{then-not-is_blank+in_ok-gather, else-not-is_blank}

pub loop-sector-preserved : goal.loop-sector-preserved
loop-sector-preserved c =
    let i = c.args.self.now in
    let sector = c.loop-sector.sector in
    let next : 256 * sector + 256 ≡ 256 * (sector + 1) = omega arith in
    elim c.if-not-is_blank.branch [
      | then-not-is_blank+in_ok-gather w ↦
          subst (λ (n : ℕ). GathersWords i.banks i.words n c.if-not-is_blank.placed.items) next
          (subst (λ v. GathersWords i.banks i.words (256 * sector + 256) v.items) (sym w.placed-is) (w.in_ok-gather.ensures c.loop-sector.invariant))
      | else-not-is_blank w ↦
          let blank : c.is_blank.result ≡ true = search rules in
          let none : (k : ℕ) → k < 256 → get_or i.words (256 * sector + k) 0 ≡ 0 =
          λ k less. ap (λ (l : Intended). get_or l.words (256 * sector + k) 0) (sym c.self.view_is)
          ∙ c.is_blank.ensures blank (256 * sector + k) (omega (arith, less, c.loop-sector-test.true)) (omega (arith, less)) in
          subst (λ (n : ℕ). GathersWords i.banks i.words n c.if-not-is_blank.placed.items) next
          (subst (λ v. GathersWords i.banks i.words (256 * sector + 256) v.items) (sym w.placed-is)
          (words-others 256 i.banks i.words (256 * sector) c.loop-sector.placed.items none c.loop-sector.invariant))
    ]
