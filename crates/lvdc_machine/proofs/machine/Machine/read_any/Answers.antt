use Rattle.std.proofs.Common.{◌∙◌, ap}
use Rattle.std.specs.declared.option.Option.TheVariants.{Some}
use Rattle.lvdc_plain.specs.declared.records.Stop.TheVariants as stops
use Rattle.lvdc_model.specs.Twins.{after_read}
use Rattle.lvdc_model.specs.declared.outcome.Outcome.TheVariants.{Stopped}
use Rattle.lvdc_machine.proofs.Arms.{shows-read, shows-lost}
use Rattle.lvdc_machine.proofs.HandedOut.{read-told, lost-told}
use Rattle.lvdc_machine.proofs.Noting.{read-noted}
use Rattle.lvdc_machine.proofs.machine.Machine.read_any.Goals as goal

pub make-requires-clause-may : goal.make-requires-clause-may
make-requires-clause-may c =
    let may = rw (← c.self.view_is) at c.requires.may in record { begun = may.begun; left = may.left; right = may.right }

pub make-requires-clause-noted : goal.make-requires-clause-noted
make-requires-clause-noted c =
    rw c.repair_of-repair.ensures
    (read-noted _ c.self.inside.steps c.in-Ok.read.repaired c.args.at c.in-Ok.read.switched c.in-Ok.ensures.repaired (rw (← c.self.view_is) at c.requires.there))

pub returns-in-Ok-clause-shows : goal.returns-in-Ok-clause-shows
returns-in-Ok-clause-shows c = λ o v ds h.
    let s = rw (← c.self.view_is) at h in
    let begun = (rw (← c.self.view_is) at c.requires.may).begun ∙ ap Some s.steps in
    let holds = rw begun at s.memory in
    shows-read v c.args.at c.read.result c.in-Ok.read c.self.inside.steps c.repair_of-repair.result (c.read.ensures.answer o v.steps v.twins v.intended holds)
    c.in-Ok.is s.steps c.repair_of-repair.ensures
    (c.make.ensures.shows o (record v { twins = after_read o v.steps v.twins c.args.at c.in-Ok.read }) ds (record {
      banks = s.banks;
      script = s.script;
      unplugs = s.unplugs;
      copies = s.copies;
      memory = rw begun (c.in-Ok.ensures.after o v.steps v.twins v.intended holds);
      left = s.left;
      log = s.log;
      repairs = s.repairs;
      counts = s.counts;
      steps = s.steps;
      end = s.end;
    }))

pub returns-in-Err-clause-shows : goal.returns-in-Err-clause-shows
returns-in-Err-clause-shows c = λ o v ds h.
    let s = rw (← c.self.view_is) at h in
    let begun = (rw (← c.self.view_is) at c.requires.may).begun ∙ ap Some s.steps in
    let holds = rw begun at s.memory in
    shows-lost v c.args.at c.read.result _ (c.read.ensures.answer o v.steps v.twins v.intended holds) c.in-Err.is (record {
      banks = s.banks;
      script = s.script;
      unplugs = s.unplugs;
      copies = s.copies;
      memory = rw c.in-Err.ensures.unchanged s.memory;
      left = s.left;
      log = s.log;
      repairs = s.repairs;
      counts = s.counts;
      steps = s.steps;
      end = ap (λ step. Some (Stopped step (stops.Memory c.args.at))) s.steps;
    })

pub returns-in-Ok-clause-told : goal.returns-in-Ok-clause-told
returns-in-Ok-clause-told c = λ o v ds h.
    let s = rw (← c.self.view_is) at h in
    let begun = (rw (← c.self.view_is) at c.requires.may).begun ∙ ap Some s.steps in
    read-told c.args.wanted c.args.at c.in-Ok.read (c.read.ensures.answer o v.steps v.twins v.intended (rw begun at s.memory)) c.in-Ok.is s.steps
    c.repair_of-repair.ensures

pub returns-in-Err-clause-told : goal.returns-in-Err-clause-told
returns-in-Err-clause-told c = λ o v ds h.
    let s = rw (← c.self.view_is) at h in
    let begun = (rw (← c.self.view_is) at c.requires.may).begun ∙ ap Some s.steps in
    lost-told c.args.wanted c.args.at _ v.steps (c.read.ensures.answer o v.steps v.twins v.intended (rw begun at s.memory)) c.in-Err.is
