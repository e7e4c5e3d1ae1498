use Rattle.lvdc_uplink.specs.Input.{request_of}
use Rattle.lvdc_uplink.proofs.Listening.{reply-heard}
use Rattle.lvdc_uplink.proofs.reply.patch_bytes.Goals as goal

pub returns-clause-heard : goal.returns-clause-heard
returns-clause-heard c =
    reply-heard c.lines_are_heard.ensures.heard c.lines_are_heard.ensures.held c.doubled_changes_nothing.ensures (request_of c.args.bytes.now) c.patch.result c.patch.ensures.text
