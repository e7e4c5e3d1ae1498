use Rattle.std.proofs.Common.{◌≡◌, ◌≤◌, ◌++◌, All, drop, take, length}
use Rattle.lvdc_plain.specs.declared.records.Exchange.{Exchange}
use Rattle.lvdc_lines.specs.Noted.{exchange_line, IsInRange, lines_of}
use Rattle.lvdc_lines.proofs.exchanges.put_log.Given as goal

abbrev pub invariant-loop-exchange : goal.invariant-loop-exchange
invariant-loop-exchange l = record {
  lines : l.out.items ++ lines_of exchange_line (drop l.exchange-index l.log) ≡ l.initial.out.items ++ lines_of exchange_line l.log;
  short : All (λ (e : Exchange). length (exchange_line e) ≤ 39) (take l.exchange-index l.log);
  ranges : All IsInRange (take l.exchange-index l.log);
}
