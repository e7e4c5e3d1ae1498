use Rattle.lvdc_save_read.proofs.SavedAgain.{says_itself}
use Rattle.lvdc_save_read.proofs.laws.entries_say_the_state.Goals as goal

pub returns : goal.returns
returns c devices s g next = says_itself devices s g next
