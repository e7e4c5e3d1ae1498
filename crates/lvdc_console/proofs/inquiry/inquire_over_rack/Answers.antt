use Rattle.std.proofs.Common.{refl}
use Rattle.std.proofs.lemmas.Result.{IfOk-weaker}
use Rattle.lvdc_console.specs.Rack.{rack}
use Rattle.lvdc_console.proofs.Inquiring.{inquired_over_rack, is_inquired, is_unfailed}
use Rattle.lvdc_console.proofs.inquiry.inquire_over_rack.Goals as goal

pub returns-clause-never_fails : goal.returns-clause-never_fails
returns-clause-never_fails c =
    is_unfailed rack c.args.inquiry c.args.bytes.now c.inquire.result
    (inquired_over_rack _ _ c.args.inquiry c.args.bytes.now c.inquire.result _ _ rack c.is_whole.ensures.rack c.is_whole.ensures.never_fail
    (IfOk-weaker c.inquire.result _ _ (λ reply free study. free study refl) c.inquire.ensures.unfailed) c.inquire.ensures.reply c.inquire.ensures.holds)

pub returns-clause-inquired : goal.returns-clause-inquired
returns-clause-inquired c =
    is_inquired rack c.args.inquiry c.args.bytes.now c.inquire.result
    (inquired_over_rack _ _ c.args.inquiry c.args.bytes.now c.inquire.result _ _ rack c.is_whole.ensures.rack c.is_whole.ensures.never_fail
    (IfOk-weaker c.inquire.result _ _ (λ reply free study. free study refl) c.inquire.ensures.unfailed) c.inquire.ensures.reply c.inquire.ensures.holds)
