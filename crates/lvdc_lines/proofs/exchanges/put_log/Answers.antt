use Rattle.std.proofs.Common.{◌≤◌, All, length, subst}
use Rattle.std.proofs.lemmas.List.{take_all}
use Rattle.std.proofs.lemmas.List.Elements.{All-more}
use Rattle.lvdc_plain.specs.declared.records.Exchange.{Exchange}
use Rattle.lvdc_lines.specs.Noted.{exchange_line, IsInRange}
use Rattle.lvdc_lines.proofs.LineLists.{lines_of_more, lines_of_done}
use Rattle.lvdc_lines.proofs.exchanges.put_log.Goals as goal

pub loop-exchange-preserved : goal.loop-exchange-preserved
loop-exchange-preserved c =
    let short = λ (e : Exchange). length (exchange_line e) ≤ 39 in
    record {
      lines = lines_of_more exchange_line c.loop-exchange.exchange-index c.args.log.now c.exchange-item.result c.loop-exchange.out.items c.put_exchange_line.new.out.items _
          c.loop-exchange-test.true c.exchange-item.is c.in_ok-put_exchange_line.ensures.line c.loop-exchange.invariant.lines;
      short = All-more short c.args.log.now c.loop-exchange.exchange-index c.exchange-item.result c.loop-exchange-test.true c.loop-exchange.invariant.short
          (subst short c.exchange-item.is c.in_ok-put_exchange_line.ensures.short);
      ranges = All-more IsInRange c.args.log.now c.loop-exchange.exchange-index c.exchange-item.result c.loop-exchange-test.true c.loop-exchange.invariant.ranges
          (subst IsInRange c.exchange-item.is c.in_ok-put_exchange_line.ensures.ranges);
    }

pub returns-clause-log : goal.returns-clause-log
returns-clause-log c =
    lines_of_done exchange_line c.loop-exchange.exchange-index c.args.log.now c.loop-exchange.out.items _ c.loop-exchange-test.false
    c.loop-exchange.invariant.lines

pub returns-clause-short : goal.returns-clause-short
returns-clause-short c =
    subst (All (λ (e : Exchange). length (exchange_line e) ≤ 39)) (take_all c.loop-exchange.exchange-index c.args.log.now c.loop-exchange-test.false)
    c.loop-exchange.invariant.short

pub returns-clause-ranges : goal.returns-clause-ranges
returns-clause-ranges c =
    subst (All IsInRange) (take_all c.loop-exchange.exchange-index c.args.log.now c.loop-exchange-test.false) c.loop-exchange.invariant.ranges
