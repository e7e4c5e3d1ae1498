use Rattle.std.proofs.Common.{ap}
use Rattle.lvdc_command_asm.specs.Answers as source
use Rattle.lvdc_uplink.specs.Answers as patch
use Rattle.lvdc_command_asm.specs.Expanded as expand
use Rattle.lvdc_uplink.specs.Input.{request_of}
use Rattle.lvdc_cli.specs.Commands.{command_answer}
use Rattle.lvdc_cli.proofs.Commands.{replied, campaign_replied, whatever, source_settled, patch_settled, expand_settled}
use Rattle.lvdc_reply.proofs.Statuses.{if_ok_both}
use Rattle.lvdc_cli.proofs.join.join.Goals as goal

pub returns-in-Run-clause-reply : goal.returns-in-Run-clause-reply
returns-in-Run-clause-reply g c = rw c.in-Run.is c.run_job.ensures.reply

pub returns-in-Soak-clause-reply : goal.returns-in-Soak-clause-reply
returns-in-Soak-clause-reply g c = rw c.in-Soak.is c.run_job-in-Soak.ensures.reply

pub returns-in-Assemble-clause-reply : goal.returns-in-Assemble-clause-reply
returns-in-Assemble-clause-reply g c =
    let r = source.assembly_in c.args.bytes.now in
    replied _ _ c.args.command c.args.bytes.now c.args.devices.now.items c.assemble_bytes.result (source.status_of r) (source.text_of c.in-Assemble.product c.args.bytes.now r)
    (λ devices. ap (λ command. command_answer command c.args.bytes.now devices) c.in-Assemble.is) (source_settled r) c.assemble_bytes.ensures.status c.assemble_bytes.ensures.text

pub returns-in-Campaign-clause-reply : goal.returns-in-Campaign-clause-reply
returns-in-Campaign-clause-reply g c =
    campaign_replied _ _ c.args.command c.args.bytes.now c.args.devices.now.items c.campaign_bytes.result c.in-Campaign.is
    c.campaign_bytes.ensures.status c.campaign_bytes.ensures.text

pub returns-in-Uplink-clause-reply : goal.returns-in-Uplink-clause-reply
returns-in-Uplink-clause-reply g c =
    let r = request_of c.args.bytes.now in
    replied _ _ c.args.command c.args.bytes.now c.args.devices.now.items c.patch_bytes.result (patch.status_of r) (patch.text_of r)
    (λ devices. ap (λ command. command_answer command c.args.bytes.now devices) c.in-Uplink.is) (patch_settled r) c.patch_bytes.ensures.status c.patch_bytes.ensures.text

pub returns-in-Debug-clause-reply : goal.returns-in-Debug-clause-reply
returns-in-Debug-clause-reply g c = rw c.in-Debug.is c.debug_bytes.ensures.reply

pub returns-in-Save-clause-reply : goal.returns-in-Save-clause-reply
returns-in-Save-clause-reply g c = rw c.in-Save.is c.save_bytes.ensures.reply

pub returns-in-Resume-clause-reply : goal.returns-in-Resume-clause-reply
returns-in-Resume-clause-reply g c = rw c.in-Resume.is c.resume_saved.ensures.reply

pub returns-in-Expand-clause-reply : goal.returns-in-Expand-clause-reply
returns-in-Expand-clause-reply g c =
    let f = c.in-Expand.form in
    let r = expand.expansion_in c.args.bytes.now in
    replied _ _ c.args.command c.args.bytes.now c.args.devices.now.items c.expand_bytes.result (expand.status_by f r) (expand.text_by f c.args.bytes.now r)
    (λ devices. ap (λ command. command_answer command c.args.bytes.now devices) c.in-Expand.is) (expand_settled f r) c.expand_bytes.ensures.status c.expand_bytes.ensures.text

pub returns-in-Soak-clause-room : goal.returns-in-Soak-clause-room
returns-in-Soak-clause-room g c = rw c.in-Soak.is c.run_job-in-Soak.ensures.room

pub returns-in-Soak-clause-holds : goal.returns-in-Soak-clause-holds
returns-in-Soak-clause-holds g c = rw c.in-Soak.is (whatever c.run_job-in-Soak.result (λ reply. tt))

pub returns-in-Uplink-clause-holds : goal.returns-in-Uplink-clause-holds
returns-in-Uplink-clause-holds g c = rw c.in-Uplink.is c.patch_bytes.ensures.heard

pub returns-in-Resume-clause-holds : goal.returns-in-Resume-clause-holds
returns-in-Resume-clause-holds g c =
    rw c.in-Resume.is (if_ok_both c.resume_saved.result _ _ _ (λ reply halves reordered. (halves, reordered)) c.resume_saved.ensures.halves c.resume_saved.ensures.any_order)
