use Rattle.std.proofs.Common.{sym, ◌∙◌, rules}
use Rattle.lvdc_machine.specs.Resumed.{state_from}
use Rattle.lvdc_machine.proofs.Calls.{answers-still, answers-made, leaves-kept}
use Rattle.lvdc_machine.proofs.HandedOut.{told-ended}
use Rattle.lvdc_machine.proofs.Resuming.{stands-kept}
use Rattle.lvdc_machine.proofs.machine.Machine.told_phase.Goals as goal

pub returns-in-Some-clause-steps : goal.returns-in-Some-clause-steps
returns-in-Some-clause-steps g c =
    let end = sym c.ended.ensures ∙ c.in-Some.is in
    record {
      stands = λ o r t h. stands-kept o r t 1 _ _ _ end h;
      answers = answers-still (λ b. (goal.PortDevice-dyn g (b.vtable, b.value)).device_of b.value) (λ b. (goal.PortDevice-dyn g (b.vtable, b.value)).faults b.value) c.args.self.now c.args.devices.now.items _ end;
      leaves = leaves-kept (λ b. (goal.PortDevice-dyn g (b.vtable, b.value)).device_of b.value) (λ b. (goal.PortDevice-dyn g (b.vtable, b.value)).spare b.value) 1 c.args.self.now c.args.devices.now.items c.requires.fit;
    }

pub returns-in-Some-clause-told : goal.returns-in-Some-clause-told
returns-in-Some-clause-told g c = λ o r t h.
    told-ended o c.args.self.now.mode c.args.self.now.end _ (state_from c.args.self.now.end c.args.self.now.mode o r t) _
    (sym c.ended.ensures ∙ c.in-Some.is) h.shows.end

pub returns-in-None-clause-steps : goal.returns-in-None-clause-steps
returns-in-None-clause-steps g c = record {
  stands = c.advance.ensures.stands;
  answers = answers-made (λ b. (goal.PortDevice-dyn g (b.vtable, b.value)).device_of b.value) (λ b. (goal.PortDevice-dyn g (b.vtable, b.value)).faults b.value) c.args.self.now c.advance.new.self c.args.devices.now.items c.advance.new.devices.items _
      (search rules) (search rules) c.advance.ensures.cause c.advance.ensures.through;
  leaves = c.advance.ensures.leaves;
}
