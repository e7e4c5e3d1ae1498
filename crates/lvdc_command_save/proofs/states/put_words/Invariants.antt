use Rattle.std.proofs.Common.{◌-◌, length}
use Rattle.lvdc_command_save.proofs.HeldWords.{HasWords}
use Rattle.lvdc_command_save.proofs.states.put_words.Given as goal

abbrev pub invariant-loop-word : goal.invariant-loop-word
invariant-loop-word g l =
    HasWords l.port ((goal.PortDevice-dyn g (l.device.vtable, l.device.value)).device_of l.device.value).state l.initial.states.items l.before l.states.items

abbrev pub decreases-loop-word : goal.decreases-loop-word
decreases-loop-word g l =
    length ((goal.PortDevice-dyn g (l.device.vtable, l.device.value)).device_of l.device.value).state - (length l.states.items - l.before)
