use Rattle.std.proofs.Common.{◌≡◌, arith, ap, sym, subst, length}
use Rattle.lvdc_source.specs.declared.block.Block.TheVariants as kind
use Rattle.lvdc_source.specs.declared.item.Item.{Item}
use Rattle.lvdc_asm.specs.Data.{SetsData}
use Rattle.lvdc_asm.specs.Hop.{Plan}
use Rattle.lvdc_asm.specs.Lines.{HasOperand}
use Rattle.lvdc_asm.proofs.Naming.{SetsData-item}
use Rattle.lvdc_asm.proofs.Lining.{HasOperand-item}
use Rattle.lvdc_asm.proofs.lines.Assembler.put_lines.Goals as goal

pub put_line-requires-clause-number : goal.put_line-requires-clause-number
put_line-requires-clause-number c =
    let same : length c.loop-number.self.places.layout.spots ≡ length c.args.self.now.places.layout.spots = ap (λ (plan : Plan). length plan.spots) c.loop-number.invariant.plan in
    omega arith

pub put_line-requires-clause-operand : goal.put_line-requires-clause-operand
put_line-requires-clause-operand c =
    subst (λ (item : Item). HasOperand item.body) (sym c.index-items-number.is)
    (HasOperand-item kind.Nowhere c.args.items.now c.loop-number.number c.index-items-number.result c.requires.program c.loop-number-test.true)

pub after-assumed-requires : goal.after-assumed-requires
after-assumed-requires c =
    subst (λ (item : Item). SetsData item.body) (sym c.index-items-number.is)
    (SetsData-item kind.Nowhere c.args.items.now c.loop-number.number c.index-items-number.result c.requires.program c.loop-number-test.true)
