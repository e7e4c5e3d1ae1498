use Rattle.std.proofs.Common.{length, take, All, sym, subst, ap, arith}
use Rattle.lvdc_text.specs.Lines.{IsWithin}
use Rattle.lvdc_text.proofs.Bounds.{lines_of-within, length-lines_of}
use Rattle.lvdc_campaign_deck.proofs.Split.{fewer-from, before_from, end_before_from}
use Rattle.lvdc_campaign_deck.proofs.layout.before_campaign.Goals as goal

pub slice_bounds-result-count : goal.slice_bounds-result-count
slice_bounds-result-count c = fewer-from c.args.bytes.now c.args.lines.now c.args.from.now c.requires.from

pub returns-clause-lines : goal.returns-clause-lines
returns-clause-lines c = before_from c.args.bytes.now c.args.lines.now c.args.from.now c.requires.lines c.requires.from

pub returns-clause-within : goal.returns-clause-within
returns-clause-within c = λ line rest e.
    let same = before_from c.args.bytes.now c.args.lines.now c.args.from.now c.requires.lines c.requires.from line rest e in
    subst (All (IsWithin (take line.start c.args.bytes.now))) (sym same) (lines_of-within (take line.start c.args.bytes.now))

pub returns-clause-few : goal.returns-clause-few
returns-clause-few c = λ line rest e.
    let same = before_from c.args.bytes.now c.args.lines.now c.args.from.now c.requires.lines c.requires.from line rest e in
    omega (arith, ap length same, length-lines_of (take line.start c.args.bytes.now))

pub returns-clause-end : goal.returns-clause-end
returns-clause-end c = end_before_from c.args.bytes.now c.args.lines.now c.args.from.now c.requires.lines c.requires.from
