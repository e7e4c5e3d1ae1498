use Rattle.std.proofs.Common.{map, refl}
use Rattle.lvdc_reply.proofs.Statuses.{on_err}
use Rattle.lvdc_cli.specs.Alike.{renewed}
use Rattle.lvdc_cli.proofs.Wholes.{whole-run, whole-reordered}
use Rattle.lvdc_cli.proofs.resumed.resume_saved.Goals as goal

pub returns-clause-reply : goal.returns-clause-reply
returns-clause-reply g c = c.in_ok-reply.ensures.reply

pub returns-clause-room : goal.returns-clause-room
returns-clause-room g c = c.in_ok-reply.ensures.room

pub returns-clause-halves : goal.returns-clause-halves
returns-clause-halves g c = λ number deck_bytes before h alike unfailed.
    whole-run deck_bytes before _ c.args.bytes.now _ (c.saved_tells_run.ensures number deck_bytes before _ c.args.bytes.now h alike)
    c.in_ok-reply.ensures.goes_on unfailed

pub returns-clause-any_order : goal.returns-clause-any_order
returns-clause-any_order g c = λ number deck_bytes before h alike unfailed.
    whole-reordered deck_bytes before (map renewed before) _ c.args.bytes.now _
    (c.saved_tells_run.ensures number deck_bytes before (map renewed before) c.args.bytes.now h (record { devices = alike.devices; first = refl }))
    alike.first c.in_ok-reply.ensures.reordered unfailed

pub returns-in_err-reply-clause-unanswered : goal.returns-in_err-reply-clause-unanswered
returns-in_err-reply-clause-unanswered g c = on_err _ c.in_err-reply.ensures.unanswered
