-- A sector in which every word is 0 and known has no line.
use Rattle.std.proofs.Common.{◌<◌, arith}
use Rattle.std.proofs.lemmas.Bool.{not-false}
use Rattle.lvdc_map.specs.Address.{spot_at}
use Rattle.lvdc_machine.specs.Resumed.{state_from}
use Rattle.lvdc_report.proofs.Blanks.{address, number-back, shown-blank}
use Rattle.lvdc_report.proofs.words.has_words.Goals as goal

pub returns : goal.returns
returns c blank o first n ds s number inside =
    let small : number < 32768 = omega (arith, inside, c.requires) in
    shown-blank c.args.machine.now.banks o (state_from c.args.machine.now.end c.args.machine.now.mode o first n) number
    (c.is_blank.ensures.told (not-false c.is_blank.result blank) o first n ds s (spot_at number) (address number small)
    (omega (arith, inside, number-back number)))
