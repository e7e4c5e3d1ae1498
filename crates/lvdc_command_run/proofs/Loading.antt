-- A run starts with the words of its deck's image.
use Rattle.std.proofs.Common.{List, Result, Ok, Err, ap}
use Rattle.lvdc_port.specs.Device.{Device}
use Rattle.lvdc_image.specs.Image.{Contents}
use Rattle.lvdc_asm.specs.Assembly.{Assembled}
use Rattle.lvdc_asm.specs.declared.fault.AsmFault.{AsmFault}
use Rattle.lvdc_deck.specs.Loading.{IsImageBy}
use Rattle.lvdc_deck.specs.declared.deck.Deck.{Deck}
use Rattle.lvdc_command_run.specs.Trials.{trial_of}
use Rattle.lvdc_command_run.specs.Loaded.{StartsWith}

pub run-loads : (devices : List Device) (deck : Deck) (assembly : Result Assembled AsmFault) → IsImageBy deck.image assembly → StartsWith (trial_of devices deck) assembly
run-loads devices deck (Ok assembled) is = ap (λ (image : Contents). image.words) is
run-loads devices deck (Err fault) is = absurd is
