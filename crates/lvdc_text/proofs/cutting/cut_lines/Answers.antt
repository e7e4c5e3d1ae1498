use Rattle.std.proofs.Common.{◌≡◌, ◌+◌, ◌-◌, length, take, drop, get_or, true, not, is_ok, sym, ap, arith, ◌==◌}
use Rattle.std.proofs.ResultArms.{chosen}
use Rattle.std.proofs.lemmas.Bool.Decides.{nat_tests}
use Rattle.lvdc_text.specs.Lines.{is_line_feed}
use Rattle.lvdc_text.proofs.FirstParts.{goes_on, one_more, none_more, line_ended, line_open, no_line}
use Rattle.lvdc_text.proofs.cutting.cut_lines.Goals as goal
use Rattle.lvdc_text.proofs.cutting.cut_lines.Goals.{then-byte-eq10+in_ok-push, else-byte-eq10, then-start-bytes+in_ok-push-2, else-start-bytes}

pub loop-at-preserved : goal.loop-at-preserved
loop-at-preserved c =
    elim c.if-byte-eq10.branch [
      | then-byte-eq10+in_ok-push w ↦
          let pushed = chosen _ _ _ _ w.push.ensures.items (ap is_ok w.in_ok-push.was) in
          let kept = w.length_without_cr.ensures.kept in
          let ended = line_ended c.loop-at.number c.loop-at.start c.loop-at.at c.args.bytes.now c.loop-at.lines.items _ c.loop-at.invariant.in_order c.loop-at-test.true c.loop-at.invariant.open_line w.if-byte-eq10.true c.loop-at.invariant.split in
          record {
            in_order = omega arith;
            numbered = omega arith;
            open_line = rw w.start-is (none_more (goes_on is_line_feed) (c.loop-at.at + 1) (drop (c.loop-at.at + 1) c.args.bytes.now));
            split = cc;
          }
      | else-byte-eq10 w ↦
          let inside : not (get_or c.args.bytes.now c.loop-at.at 0 == 10) ≡ true = grind (arith, nat_tests) in
          record {
            in_order = omega arith;
            numbered = omega arith;
            open_line = rw w.start-is (one_more (goes_on is_line_feed) c.loop-at.start c.loop-at.at c.args.bytes.now c.loop-at.invariant.in_order c.loop-at-test.true c.loop-at.invariant.open_line inside);
            split = cc;
          }
    ]

pub returns : goal.returns
returns c =
    let done : c.loop-at.at ≡ length c.args.bytes.now = omega arith in
    elim c.if-start-bytes.branch [
      | then-start-bytes+in_ok-push-2 w ↦
          let pushed = chosen _ _ _ _ w.push-then-start-bytes.ensures.items (ap is_ok w.in_ok-push-2.was) in
          let open_line = ap (λ n. take (n - c.loop-at.start) (drop c.loop-at.start c.args.bytes.now)) (sym done) in
          let last = line_open c.loop-at.number c.loop-at.start c.args.bytes.now c.loop-at.lines.items _ w.if-start-bytes.true (cc) c.loop-at.invariant.split in
          cc
      | else-start-bytes w ↦
          let last = no_line c.loop-at.number c.loop-at.start c.args.bytes.now c.loop-at.lines.items _ w.if-start-bytes.false c.loop-at.invariant.split in
          cc
    ]
