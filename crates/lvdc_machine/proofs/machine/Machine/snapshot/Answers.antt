-- A machine that judges has what a snapshot needs to be whole.
use Rattle.std.proofs.Common.{◌≡◌, ◌%◌, List, refl, sym, ◌∙◌, subst}
use Rattle.lvdc_vote.specs.Copies.{Copies}
use Rattle.lvdc_machine.specs.View.{bus_of_votes}
use Rattle.lvdc_machine.proofs.Again.{whole-log, phase-begins}
use Rattle.lvdc_machine.proofs.machine.Machine.snapshot.Goals as goal

pub returns-clause-whole : goal.returns-clause-whole
returns-clause-whole c = λ judges.
    let times : c.self.inside.steps % 3 ≡ 0 = rw (← c.self.view_is) at c.requires.times in
    let none = rw (← c.self.view_is) at c.requires.going in
    let mode = rw (← c.self.view_is) at judges in
    let copies = c.in_ok-latches.ensures.copies in
    record {
      latches = c.in_ok-latches.ensures.latches;
      counts = c.in_ok-latches.ensures.differed;
      pairs = c.in_ok-selected.ensures.pairs;
      most = c.in_ok-latches.ensures.most c.self.inside.steps c.self.invariant.differed;
      twins = c.in_ok-selected.ensures.twins;
      times = times;
      phase = subst (λ (cs : List Copies). (bus_of_votes cs).timer.phase % 4 ≡ 0) (sym copies)
          (phase-begins c.self.inside.mode _ c.self.inside.steps mode times c.self.invariant.timed);
      stop = subst (λ (cs : List Copies). (bus_of_votes cs).exchange.stop % 4 ≡ 0) (sym copies) (c.self.invariant.going none);
      cells_rise = c.in_ok-selected.ensures.held.rising;
      cells_differ = c.in_ok-selected.ensures.held.others;
      places = c.in_ok-selected.ensures.held.places;
      words_rise = c.in_ok-selected.ensures.placed.rising;
      words_differ = c.in_ok-selected.ensures.placed.others;
      there = rw (← c.self.invariant.banks) c.in_ok-selected.ensures.there;
      log = rw (c.in_ok-log.ensures.log, c.deref.ensures.value) (whole-log c.self.inside.steps _ times c.self.invariant.logged);
      repairs = rw (c.in_ok-log.ensures.repairs, c.deref-2.ensures.value) c.self.invariant.noted;
    }

pub returns-clause-means : goal.returns-clause-means
returns-clause-means c = λ o v ds h.
    let s = rw (← c.self.view_is) at h in
    let none = rw (← c.self.view_is) at c.requires.going in
    record {
      copies = sym (c.in_ok-latches.ensures.copies ∙ s.copies);
      counts = sym (c.in_ok-latches.ensures.counts ∙ s.counts);
      cells = c.in_ok-selected.ensures.cells o _ v.twins v.intended s.memory;
      selected = sym (c.in_ok-selected.ensures.selected ∙ s.memory.twins.selected);
      words = c.in_ok-selected.ensures.words o _ v.twins v.intended s.memory;
      log = sym (c.in_ok-log.ensures.log ∙ c.deref.ensures.value ∙ s.log);
      repairs = sym (c.in_ok-log.ensures.repairs ∙ c.deref-2.ensures.value ∙ s.repairs);
      steps = sym s.steps;
      end = sym s.end ∙ none;
    }

pub returns-clause-banks : goal.returns-clause-banks
returns-clause-banks c = rw (← c.self.view_is) refl

pub returns-clause-steps : goal.returns-clause-steps
returns-clause-steps c = rw (← c.self.view_is) refl

pub returns-clause-addresses : goal.returns-clause-addresses
returns-clause-addresses c = c.in_ok-selected.ensures.placed.addresses
