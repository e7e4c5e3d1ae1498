use Rattle.std.proofs.Common.{rules, ◌<◌, ◌∙◌, length, sym, arith}
use Rattle.std.proofs.lemmas.Bool.Decides.{nat_tests}
use Rattle.lvdc_map.specs.Memory.{memory_of}
use Rattle.lvdc_text.specs.declared.cutting.Line.{Line}
use Rattle.lvdc_listing.proofs.Steps.{at_comment, at_end, at_item, at_other}
use Rattle.lvdc_listing.proofs.rows.put_lines.Goals as goal
use Rattle.lvdc_listing.proofs.rows.put_lines.Goals.{then-listed-items+in_ok-put_row+else-not-is_comment, else-listed-items+then-item-line+in_ok-field+in_ok-put_row-2, else-listed-items+else-item-line+in_ok-put_row-3}

-- what an index past the end reads
abbrev no_line : Line
no_line = record { number = 0; start = 0; end = 0 }

pub returns-then-not-is_comment : goal.returns-then-not-is_comment
returns-then-not-is_comment c =
    at_end (memory_of c.args.assembly.now.words) c.args.assembly.now c.args.bytes.now c.args.lines.now c.loop-line.line-index c.loop-line.listed no_line c.part-text.result.now
    c.loop-line.out.items c.put_row.new.out.items _ c.loop-line-test.true c.part-text.ensures c.loop-line.invariant.rows
    c.items-items.result.now c.items-items.ensures.items c.items-items.ensures.stand (omega (arith, c.if-listed-items.true))
    (sym c.is_comment.ensures ∙ c.if-not-is_comment.true) c.in_ok-put_row.ensures

pub loop-line-preserved : goal.loop-line-preserved
loop-line-preserved c =
    elim c.if-listed-items.branch [
      | then-listed-items+in_ok-put_row+else-not-is_comment w ↦
          rw (w.out-is, w.listed-is) (record {
            rows = at_comment (memory_of c.args.assembly.now.words) c.args.assembly.now c.args.bytes.now c.args.lines.now c.loop-line.line-index c.loop-line.listed no_line c.part-text.result.now
                c.loop-line.out.items w.put_row.new.out.items _ c.loop-line-test.true c.part-text.ensures c.loop-line.invariant.rows
                c.items-items.result.now c.items-items.ensures.items c.items-items.ensures.stand (omega (arith, w.if-listed-items.true))
                (sym w.is_comment.ensures ∙ w.if-not-is_comment.false) w.in_ok-put_row.ensures;
            listed = c.loop-line.invariant.listed;
          })
      | else-listed-items+then-item-line+in_ok-field+in_ok-put_row-2 w ↦
          let left : c.loop-line.listed < length c.items-items.result.now = omega (arith, c.loop-line.invariant.listed, w.if-listed-items.false) in
          rw (w.out-is, w.listed-is) (record {
            rows = at_item (memory_of c.args.assembly.now.words) c.args.assembly.now c.args.bytes.now c.args.lines.now c.loop-line.line-index c.loop-line.listed no_line c.part-text.result.now
                c.loop-line.out.items w.put_row-then-item-line.new.out.items _ c.loop-line-test.true c.part-text.ensures c.loop-line.invariant.rows
                c.items-items.result.now c.items-items.ensures.items c.items-items.ensures.stand
                w.index-items-listed.result (search rules) left w.spot.result w.deref.result.now (grind (arith, nat_tests, w.if-item-line.true)) w.spot.ensures.value
                (w.deref.ensures.value ∙ w.in_ok-field.ensures (memory_of c.args.assembly.now.words) c.requires.memory) w.in_ok-put_row-2.ensures;
            listed = omega (arith, left);
          })
      | else-listed-items+else-item-line+in_ok-put_row-3 w ↦
          let left : c.loop-line.listed < length c.items-items.result.now = omega (arith, c.loop-line.invariant.listed, w.if-listed-items.false) in
          rw (w.out-is, w.listed-is) (record {
            rows = at_other (memory_of c.args.assembly.now.words) c.args.assembly.now c.args.bytes.now c.args.lines.now c.loop-line.line-index c.loop-line.listed no_line c.part-text.result.now
                c.loop-line.out.items w.put_row-else-item-line.new.out.items _ c.loop-line-test.true c.part-text.ensures c.loop-line.invariant.rows
                c.items-items.result.now c.items-items.ensures.items c.items-items.ensures.stand
                w.index-items-listed.result (search rules) left (grind (arith, nat_tests, w.if-item-line.false)) w.in_ok-put_row-3.ensures;
            listed = c.loop-line.invariant.listed;
          })
    ]

pub part-text-requires : goal.part-text-requires
part-text-requires c = c.requires.within _ _ c.loop-line-test.true
