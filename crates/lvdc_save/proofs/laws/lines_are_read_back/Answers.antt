use Rattle.std.proofs.Common.{sym, ap, ◌∙◌, codes}
use Rattle.std.proofs.lemmas.List.{append_cancel_right}
use Rattle.lvdc_save.specs.Entries.{entry_of}
use Rattle.lvdc_save.specs.Saved.{entries_of, saved_text}
use Rattle.lvdc_save.specs.Reading.{nothing_said}
use Rattle.lvdc_save.proofs.EntryLines.{entry_text, entry-spelled}
use Rattle.lvdc_save.proofs.EntriesBack.{entry-back}
use Rattle.lvdc_save.proofs.LinesBack.{told-entries, count-entries, saved-entries}
use Rattle.lvdc_save.proofs.laws.lines_are_read_back.Goals as goal

pub returns-clause-line : goal.returns-clause-line
returns-clause-line c entry text is line =
    ap entry_of (append_cancel_right text (entry_text entry) (codes "\n") (sym line ∙ entry-spelled entry is)) ∙ entry-back entry is

pub returns-clause-count : goal.returns-clause-count
unfolding saved_text
returns-clause-count c saved all = count-entries (entries_of saved) all

pub returns-clause-told : goal.returns-clause-told
unfolding saved_text
returns-clause-told c devices saved all = told-entries devices nothing_said (entries_of saved) all

pub returns-clause-saved : goal.returns-clause-saved
unfolding saved_text
returns-clause-saved c devices saved all = saved-entries devices (entries_of saved) all
