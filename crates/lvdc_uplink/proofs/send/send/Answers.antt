use Rattle.std.proofs.Common.{arith}
use Rattle.lvdc_uplink.proofs.Steps.{no_line}
use Rattle.lvdc_uplink.proofs.Sending.{link-sent, text-sent, link-done, text-done}
use Rattle.lvdc_uplink.proofs.send.send.Goals as goal

pub part-requires : goal.part-requires
part-requires c = c.requires _ _ c.loop-line-test.true

pub loop-line-preserved : goal.loop-line-preserved
loop-line-preserved c =
    let sent = c.in_ok-send_line.ensures in
    record {
      link = link-sent c.args.bytes.now c.args.lines.now c.loop-line.line-index no_line c.part.result.now c.loop-line-test.true c.part.ensures c.loop-line.uplink c.send_line.new.uplink sent.link
          _ c.loop-line.invariant.link;
      text = text-sent c.args.bytes.now c.args.lines.now c.loop-line.line-index no_line c.part.result.now c.loop-line-test.true c.part.ensures c.loop-line.uplink c.send_line.new.uplink sent.link
          c.loop-line.out.items c.send_line.new.out.items _ sent.text c.loop-line.invariant.text;
      short = omega (arith, c.loop-line.invariant.short, sent.short);
    }

pub returns-clause-link : goal.returns-clause-link
returns-clause-link c = link-done c.args.bytes.now c.args.lines.now c.loop-line.line-index c.loop-line-test.false c.loop-line.uplink _ c.loop-line.invariant.link

pub returns-clause-text : goal.returns-clause-text
returns-clause-text c =
    text-done c.args.bytes.now c.args.lines.now c.loop-line.line-index c.loop-line-test.false c.loop-line.uplink c.loop-line.out.items _ c.loop-line.invariant.text
