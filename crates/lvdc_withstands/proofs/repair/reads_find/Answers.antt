use Rattle.lvdc_laws_voted.specs.Laws.{DeviceWords}
use Rattle.lvdc_withstands.proofs.Admitted.{parts}
use Rattle.lvdc_withstands.proofs.Noted.{notes-findings}
use Rattle.lvdc_withstands.proofs.repair.reads_find.Goals as goal

pub returns : goal.returns
returns c o count ok h alone =
    let words : DeviceWords = record { answer = c.words_stay.ensures.answer; exchange = c.words_stay.ensures.exchange; unplug = c.words_stay.ensures.unplug } in
    notes-findings c.ports_match.ensures words c.times_keep_words.ensures c.banks_are_held.ensures.there c.banks_are_held.ensures.duplex o count ok
    (c.guarded_run.ensures o ok) (parts o count h) alone c.survivor_is_read.ensures.one c.survivor_is_read.ensures.two (c.step_begun.ensures o ok) c.stopped_run_stays.ensures
