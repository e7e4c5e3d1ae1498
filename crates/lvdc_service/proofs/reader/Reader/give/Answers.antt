use Rattle.std.proofs.Common.{◌≡◌, ◌-◌, length, sym, ap, ◌∙◌, drop, min, arith}
use Rattle.lvdc_service.proofs.Windows.{range_behind, range_length, dropped_min}
use Rattle.lvdc_service.proofs.reader.Reader.give.Goals as goal

pub returns-clause-kept : goal.returns-clause-kept
returns-clause-kept c =
    let i = c.self.inside in
    let held : length c.args.self.now ≡ i.end - i.at = ap length (sym c.self.view_is) ∙ range_length i.bytes i.at i.end c.self.invariant.0 (omega (arith, c.self.told, c.self.invariant)) in
    let size : c.min-count.result ≡ min c.args.most (length c.args.self.now) = c.min-count.ensures ∙ ap (min c.args.most) (sym held) in
    range_behind i.bytes i.at i.end c.min-count.result (omega (arith, c.self.invariant, c.min-count.ensures))
    ∙ ap (drop c.min-count.result) c.self.view_is ∙ dropped_min c.args.self.now c.args.most c.min-count.result size
