use Rattle.std.proofs.Common.{Vec, Global, ◌≡◌, ℕ, ◌≤◌, true, false, List, [], ◌∷◌, ◌++◌, length, get_or, All, sym, ap, subst, ◌∙◌, arith}
use Rattle.std.proofs.lemmas.Bool.Decides.{nat_tests}
use Rattle.std.proofs.lemmas.List.Elements.{All-push}
use Rattle.lvdc_text.specs.Lines.{IsWithin, part_of, is_long, is_comment}
use Rattle.lvdc_text.specs.declared.cutting.Line.{Line}
use Rattle.lvdc_text.specs.declared.comment.TheConstants.{LONGEST_LINE}
use Rattle.lvdc_deck.proofs.Steps.{no_line, commands-long, commands-skipped, commands-more, commands-done}
use Rattle.lvdc_deck.proofs.commands.commands_in.Goals as goal
use Rattle.lvdc_deck.proofs.commands.commands_in.Goals.{then-not-is_comment+in_ok-push, else-not-is_comment}

short-line : (text : List ℕ) → is_long text ≡ false → length text ≤ LONGEST_LINE
short-line text e = grind (arith, nat_tests)

pub returns-then-is_long-clause-refusal : goal.returns-then-is_long-clause-refusal
returns-then-is_long-clause-refusal c =
    λ known. commands-long c.args.bytes.now c.loop-line.commands.items c.args.lines.now c.loop-line.line-index no_line _ c.loop-line.invariant.so_far c.loop-line-test.true
    (ap is_long (sym c.part-text.ensures) ∙ sym c.is_long.ensures ∙ c.if-is_long.true)

pub loop-line-preserved : goal.loop-line-preserved
loop-line-preserved c =
    let line : Line = get_or c.args.lines.now c.loop-line.line-index no_line in
    let Short : Line → Type 0 = λ l. length (part_of c.args.bytes.now l) ≤ LONGEST_LINE in
    let long : is_long (part_of c.args.bytes.now line) ≡ false = ap is_long (sym c.part-text.ensures) ∙ sym c.is_long.ensures ∙ c.if-is_long.false in
    let said : is_comment (part_of c.args.bytes.now line) ≡ c.is_comment.result = ap is_comment (sym c.part-text.ensures) ∙ sym c.is_comment.ensures in
    elim c.if-not-is_comment.branch [
      | then-not-is_comment+in_ok-push w ↦
          let skipped : is_comment (part_of c.args.bytes.now line) ≡ false = cc in
          let made : c.if-not-is_comment.commands.items ≡ c.loop-line.commands.items ++ line ∷ [] =
          ap (λ (v : Vec Line Global). v.items) w.commands-is ∙ w.in_ok-push.ensures.items in
          record {
            so_far = commands-more c.args.bytes.now c.loop-line.commands.items c.args.lines.now c.loop-line.line-index no_line _ c.loop-line.invariant.so_far c.loop-line-test.true long skipped
                c.if-not-is_comment.commands.items made;
            within = subst (All (IsWithin c.args.bytes.now)) (sym made)
                (All-push (IsWithin c.args.bytes.now) c.loop-line.commands.items line c.loop-line.invariant.within (c.requires c.loop-line.line-index no_line c.loop-line-test.true));
            short = subst (All Short) (sym made)
                (All-push Short c.loop-line.commands.items line c.loop-line.invariant.short (short-line (part_of c.args.bytes.now line) long));
          }
      | else-not-is_comment w ↦
          let skipped : is_comment (part_of c.args.bytes.now line) ≡ true = cc in
          let same : c.if-not-is_comment.commands.items ≡ c.loop-line.commands.items = ap (λ (v : Vec Line Global). v.items) w.commands-is in
          record {
            so_far = rw same (commands-skipped c.args.bytes.now c.loop-line.commands.items c.args.lines.now c.loop-line.line-index no_line _ c.loop-line.invariant.so_far c.loop-line-test.true long skipped);
            within = rw same c.loop-line.invariant.within;
            short = rw same c.loop-line.invariant.short;
          }
    ]

pub returns-clause-commands : goal.returns-clause-commands
returns-clause-commands c =
    commands-done c.args.bytes.now c.loop-line.commands.items c.args.lines.now c.loop-line.line-index no_line _ c.loop-line.invariant.so_far c.loop-line-test.false
