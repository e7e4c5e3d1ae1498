use Rattle.std.proofs.Common.{◌+◌, length, ◌∙◌}
use Rattle.lvdc_save.specs.Saved.{entries_of}
use Rattle.lvdc_save_read.proofs.laws.printed_is_read_back.Goals as goal

pub returns : goal.returns
returns c devices s printed g =
    c.lines_are_read_back.ensures.saved devices s printed ∙ c.entries_say_the_state.ensures devices s g (length (entries_of s) + 1)
