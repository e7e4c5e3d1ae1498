-- The counts of one module after another.
use Rattle.std.proofs.Common.{◌≡◌, ◌≤◌, [], All, refl, sym, ap, ◌∙◌, subst, rules}
use Rattle.lvdc_model.specs.Listing.{counts_of}
use Rattle.lvdc_logic.specs.Counts.{counts_in}
use Rattle.lvdc_logic.specs.Logic.{LogicState, DifferedAtMost}
use Rattle.lvdc_logic.proofs.Differing.{at_most}
use Rattle.lvdc_logic.proofs.Listed.{all_counts, AreThrees, NoneCounted, MoreCounted, counts-back, seven-appended, listed-most}
use Rattle.lvdc_logic.proofs.logic.Logic.counts.Goals as goal

-- the list of the counts
items-are : (c : goal.In_ok-extend_from_slice-7) → c.extend_from_slice-7.new.self.items ≡ all_counts (counts_in c.self.inside.counts)
items-are c =
    let t = c.self.inside.counts in
    rw (
      c.in_ok-extend_from_slice-7.ensures.items,
      c.in_ok-extend_from_slice-6.ensures.items,
      c.in_ok-extend_from_slice-5.ensures.items,
      c.in_ok-extend_from_slice-4.ensures.items,
      c.in_ok-extend_from_slice-3.ensures.items,
      c.in_ok-extend_from_slice-2.ensures.items,
      c.in_ok-extend_from_slice.ensures.items,
      c.in_ok-counts.ensures.items,
    ) (seven-appended t.timer t.locator t.decoder t.selector t.accumulator t.multiplier t.exchange)

pub returns-clause-counts : goal.returns-clause-counts
returns-clause-counts c =
    let t = c.self.inside.counts in
    let threes : AreThrees 7 (counts_in t) =
    MoreCounted (search rules) (MoreCounted (search rules) (MoreCounted (search rules) (MoreCounted (search rules) (MoreCounted (search rules) (MoreCounted (search rules) (MoreCounted (search rules) NoneCounted)))))) in
    ap counts_of (items-are c) ∙ counts-back 7 (counts_in t) [] 0 threes refl ∙ ap (λ (l : LogicState). l.counts) c.self.view_is

pub returns-clause-most : goal.returns-clause-most
returns-clause-most c most h =
    let before = subst (DifferedAtMost most) (ap (λ (l : LogicState). l.counts) (sym c.self.view_is)) h in
    subst (All (λ n. n ≤ most)) (sym (items-are c)) (listed-most most (counts_in c.self.inside.counts) (at_most most (counts_in c.self.inside.counts) before))
