use Rattle.std.proofs.Common.{◌≡◌, ℕ, List, refl, subst, ◌∙◌}
use Rattle.lvdc_text.specs.Streams.{SinkState}
use Rattle.lvdc_service.specs.declared.due.Due.{Due}
use Rattle.lvdc_service.specs.Served.{reply_with, bad_frame_reply}
use Rattle.lvdc_service.specs.Turns.{due_status, due_text, due_reply, IsPart, IsFinished, reply_cut, ended, bad_frame, read_fault}
use Rattle.lvdc_service.proofs.service.turn.Goals as goal

part_of_due : (before after : SinkState) (due : Due) (status : ℕ) (text : List ℕ) → status ≡ due_status due → text ≡ due_text due → IsPart before after (reply_with status text) → IsPart before after (due_reply due)
part_of_due before after due status text e f p =
    subst (λ (t : List ℕ). IsPart before after (reply_with (due_status due) t)) f (subst (λ s. IsPart before after (reply_with s text)) e p)

finished_with : (before after : SinkState) (number status : ℕ) (text : List ℕ) → text ≡ (bad_frame_reply number).text → IsFinished before after (reply_with 2 text) status → IsFinished before after (bad_frame_reply number) status
finished_with before after number status text e f = subst (λ (t : List ℕ). IsFinished before after (reply_with 2 t) status) e f

pub returns-in-Request : goal.returns-in-Request
returns-in-Request g c =
    reply_cut c.in-Request.due c.in-Request.ensures
    (part_of_due _ _ c.in-Request.due c.status.result c.text.result.now c.status.ensures c.text.ensures (rw c.if-write_reply.false at c.write_reply.ensures))

pub returns-in-Ended : goal.returns-in-Ended
returns-in-Ended g c = ended c.in-Ended.ensures refl

pub returns-in-BadFrame : goal.returns-in-BadFrame
returns-in-BadFrame g c =
    bad_frame c.finish.result c.in-BadFrame.ensures (finished_with _ _ c.args.number c.finish.result c.as_slice.result.now (c.as_slice.ensures.value ∙ c.bad_frame.ensures) c.finish.ensures)

pub returns : goal.returns
returns g c = read_fault c.finish-in-ReadFault.result c.in-ReadFault.ensures c.finish-in-ReadFault.ensures
