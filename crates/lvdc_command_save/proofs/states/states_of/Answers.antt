use Rattle.std.proofs.Common.{arith}
use Rattle.lvdc_command_save.proofs.HeldWords.{port-more, all-ports}
use Rattle.lvdc_command_save.proofs.states.states_of.Goals as goal

pub loop-port-preserved : goal.loop-port-preserved
loop-port-preserved g c = port-more _ c.loop-port.port c.loop-port.states.items c.put_state.new.states.items c.loop-port.invariant c.in_ok-put_state.ensures

pub returns : goal.returns
returns g c = all-ports _ c.loop-port.port c.loop-port.states.items c.loop-port.invariant (omega arith)
