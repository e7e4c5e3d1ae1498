use Rattle.std.proofs.Common.{◌≡◌, ◌≤◌, length, map, All, ap, ◌∙◌, sym, subst, arith}
use Rattle.std.proofs.lemmas.Result.{IfOk-weaker}
use Rattle.lvdc_text.specs.Lines.{lines_of, texts_of, part_of, IsWithin}
use Rattle.lvdc_text.proofs.Bounds.{lines_of-within, length-lines_of}
use Rattle.lvdc_text.proofs.Texts.{texts-lines_of}
use Rattle.lvdc_text.proofs.cutting.lines.Goals as goal

pub returns-clause-within : goal.returns-clause-within
returns-clause-within c = IfOk-weaker c.cut_lines.result (λ v. v.items ≡ lines_of c.args.bytes.now) (λ v. All (IsWithin c.args.bytes.now) v.items) (λ v e. subst (All (IsWithin c.args.bytes.now)) (sym e) (lines_of-within c.args.bytes.now)) c.cut_lines.ensures

pub returns-clause-few : goal.returns-clause-few
returns-clause-few c = IfOk-weaker c.cut_lines.result (λ v. v.items ≡ lines_of c.args.bytes.now) (λ v. length v.items ≤ length c.args.bytes.now) (λ v e. omega (arith, ap length e, length-lines_of c.args.bytes.now)) c.cut_lines.ensures

pub returns-clause-texts : goal.returns-clause-texts
returns-clause-texts c = IfOk-weaker c.cut_lines.result (λ v. v.items ≡ lines_of c.args.bytes.now) (λ v. map (part_of c.args.bytes.now) v.items ≡ texts_of c.args.bytes.now) (λ v e. ap (map (part_of c.args.bytes.now)) e ∙ texts-lines_of c.args.bytes.now) c.cut_lines.ensures
