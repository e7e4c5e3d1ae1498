use Rattle.std.proofs.Common.{◌≡◌, ℕ, ◌<◌, ◌≤◌, List, length, sym, subst, arith}
use Rattle.lvdc_forces.specs.Parts.{total_of, IsRightAt}
use Rattle.lvdc_forces.specs.Shares.{share_of}
use Rattle.lvdc_forces.specs.declared.part.Part.{Part}
use Rattle.lvdc_forces.proofs.PartLaws.{totals_right}
use Rattle.lvdc_forces.proofs.forces.Forces.renew.Goals as goal

known-from : (c : goal.After-self-3-1) → (t : ℕ) → c.args.step ≤ t → t < c.renew_all-self.result → IsRightAt c.args.script.now t c.of_parts-self.result
known-from c t low high =
    let script = c.args.script.now in
    let parts : List Part = c.renew_all-self.new.parts.items in
    let whole = c.requires.fit.whole in
    let right = c.renew_all-self.ensures.right c.requires.fit.parts in
    let same = c.renew_all-self.ensures.length in
    c.of_parts-self.ensures script t c.requires.events
    (λ n h. subst (λ (ps : List Part). total_of ps n (length ps) ≡ share_of script t n) (sym c.deref.ensures.value)
    (totals_right parts script t n (omega (arith, whole, same))
    (λ k below. right k (omega (arith, below, same)) n t h low (omega (arith, high, c.renew_all-self.ensures.until k (omega (arith, below, same)))))))

pub returns-clause-fit : goal.returns-clause-fit
returns-clause-fit c =
    let right = c.renew_all-self.ensures.right c.requires.fit.parts in
    let same = c.renew_all-self.ensures.length in
    record {
      whole = omega (arith, c.requires.fit.whole, same);
      few = omega (arith, c.requires.fit.few, same);
      parts = λ k below. right k (omega (arith, below, same));
      known = known-from c;
    }

pub returns-clause-known : goal.returns-clause-known
returns-clause-known c = known-from c c.args.step (omega arith) c.renew_all-self.ensures.later
