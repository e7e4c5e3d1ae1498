use Rattle.lvdc_uplink.specs.Messages.{message_of}
use Rattle.lvdc_uplink.proofs.Repeating.{line-repeats}
use Rattle.lvdc_uplink.proofs.laws.repeated_changes_nothing.Goals as goal

pub returns-clause-answer : goal.returns-clause-answer
returns-clause-answer c link text ack = line-repeats link (message_of text) ack
