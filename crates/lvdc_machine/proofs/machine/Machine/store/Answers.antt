use Rattle.std.proofs.Common.{◌∙◌, ap}
use Rattle.std.specs.declared.option.Option.TheVariants.{Some}
use Rattle.lvdc_map.specs.Memory.{stored}
use Rattle.lvdc_model.specs.Twins.{after_store}
use Rattle.lvdc_machine.proofs.machine.Machine.store.Goals as goal

pub make-requires-clause-may : goal.make-requires-clause-may
make-requires-clause-may c =
    let may = rw (← c.self.view_is) at c.requires.may in record { begun = may.begun; left = may.left; right = may.right }

pub returns-clause-shows : goal.returns-clause-shows
returns-clause-shows c = λ o v ds h.
    let s = rw (← c.self.view_is) at h in
    let begun = (rw (← c.self.view_is) at c.requires.may).begun ∙ ap Some s.steps in
    rw c.nothing.ensures at (c.make.ensures.shows o (record v { twins = after_store o v.steps c.args.at c.args.word v.twins; intended = stored v.intended c.args.at c.args.word }) ds (record {
      banks = s.banks;
      script = s.script;
      unplugs = s.unplugs;
      copies = s.copies;
      memory = rw begun (c.store.ensures.after o v.steps v.twins v.intended (rw begun at s.memory));
      left = s.left;
      log = s.log;
      repairs = s.repairs;
      counts = s.counts;
      steps = s.steps;
      end = s.end;
    }))
