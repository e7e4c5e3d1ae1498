use Rattle.lvdc_service.specs.Turns.{whole, part}
use Rattle.lvdc_service.proofs.service.finish.Goals as goal

pub returns-then-write_reply : goal.returns-then-write_reply
returns-then-write_reply g c = whole (rw c.if-write_reply.true at c.write_reply.ensures)

pub returns-else-write_reply : goal.returns-else-write_reply
returns-else-write_reply g c = part (rw c.if-write_reply.false at c.write_reply.ensures)
