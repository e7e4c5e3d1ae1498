use Rattle.std.proofs.Common.{get_or, ◌++◌, ◌∙◌, ap}
use Rattle.std.proofs.lemmas.List.{get_or_default}
use Rattle.lvdc_save.specs.Lines.{number_after}
use Rattle.lvdc_lines.proofs.LineLists.{lines_of_more, lines_of_done}
use Rattle.lvdc_save.proofs.parts.put_twins.Goals as goal

pub loop-twin-preserved : goal.loop-twin-preserved
loop-twin-preserved c =
    let twin = get_or c.args.twins.now c.loop-twin.twin-index 0 in
    lines_of_more number_after c.loop-twin.twin-index c.args.twins.now twin c.loop-twin.out.items c.put_number.new.out.items _
    c.loop-twin-test.true (get_or_default c.args.twins.now c.loop-twin.twin-index 0 twin c.loop-twin-test.true) (c.in_ok-put_number.ensures ∙ ap (λ n. c.loop-twin.out.items ++ number_after n) c.from.ensures) c.loop-twin.invariant

pub returns : goal.returns
returns c = lines_of_done number_after c.loop-twin.twin-index c.args.twins.now c.loop-twin.out.items _ c.loop-twin-test.false c.loop-twin.invariant
