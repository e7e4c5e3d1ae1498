use Rattle.lvdc_text.specs.Lines.{lines_of, numbered}
use Rattle.lvdc_asm.specs.Assembly.{assembly_of}
use Rattle.lvdc_command_run.specs.Trials.{trial_of}
use Rattle.lvdc_cli.proofs.Printed.{prints-image}
use Rattle.lvdc_cli.proofs.laws.source_is_printed.Goals as goal

pub returns : goal.returns
returns c = λ bytes own devices other deck source means begins same.
    prints-image (trial_of devices deck) own other (assembly_of (numbered own (lines_of own))) (c.source_is_loaded.ensures.alone bytes own devices deck source means begins same)
