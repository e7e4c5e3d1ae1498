use Rattle.std.proofs.Common.{◌*◌, arith}
use Rattle.lvdc_laws_voted.specs.Laws.{DeviceWords}
use Rattle.lvdc_withstands.proofs.Admitted.{parts, step-admissible, none-bad, recovered-in, recovered-after}
use Rattle.lvdc_withstands.proofs.repair.repair_masks.Goals as goal

pub returns : goal.returns
returns c o count ok h =
    let ports = c.ports_match.ensures in
    let words : DeviceWords = record { answer = c.words_stay.ensures.answer; exchange = c.words_stay.ensures.exchange; unplug = c.words_stay.ensures.unplug } in
    let keep = c.times_keep_words.ensures in
    let banks = c.banks_are_held.ensures.there in
    let duplex = c.banks_are_held.ensures.duplex in
    let p = parts o count h in
    let comes = c.guarded_run.ensures o ok 0 in
    record {
      steps = step-admissible ports words keep banks duplex o count ok comes p;
      verdict = none-bad ports words keep banks duplex o count ok comes p (3 * count) (omega arith);
      words = recovered-in ports words keep banks duplex o count ok comes p;
      words_after = recovered-after ports words keep banks duplex o count ok comes p;
    }
