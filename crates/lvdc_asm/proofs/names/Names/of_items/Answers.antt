use Rattle.std.proofs.Common.{subst, sym}
use Rattle.lvdc_source.specs.declared.block.Block.TheVariants as kind
use Rattle.lvdc_source.specs.declared.item.Item.{Item}
use Rattle.lvdc_asm.specs.Data.{SetsData}
use Rattle.lvdc_asm.proofs.Naming.{SetsData-item}
use Rattle.lvdc_asm.proofs.names.Names.of_items.Goals as goal

pub after-assumed-requires : goal.after-assumed-requires
after-assumed-requires c =
    subst (λ (item : Item). SetsData item.body) (sym c.index-items-number.is)
    (SetsData-item kind.Nowhere c.args.items.now c.loop-number.number c.index-items-number.result c.requires c.loop-number-test.true)
