-- What a study's reply tells where no device failed.
use Rattle.std.proofs.Common.{◌≡◌, ◌≢◌, ℕ, List}
use Rattle.lvdc_port.specs.Device.{Device}
use Rattle.lvdc_reply.specs.Answer.{Answer}
use Rattle.lvdc_command_study.specs.Replies as study
use Rattle.lvdc_console.specs.Replies.{inquiry_answer}
use Rattle.lvdc_console.specs.declared.words.Inquiry.TheVariants.{Study}

-- it is the answer of the definition
pub studied : {bytes : List ℕ} {devices : List Device} {told : Answer} → study.IsStudyReply bytes devices told → told.status ≢ 10
    → told ≡ inquiry_answer Study bytes devices
studied (study.answered is) free = is
studied (study.failed step port fails ten) free = absurd (free ten)
