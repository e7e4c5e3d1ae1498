use Rattle.lvdc_laws_voted.proofs.Whole.{opens}
use Rattle.lvdc_laws_voted.proofs.laws_of_a_step.Goals as goal

pub returns-clause-steps : goal.returns-clause-steps
returns-clause-steps c =
    record {
      votes = c.copies_agree.ensures.votes;
      copies = c.copies_agree.ensures.latch;
      damage = c.damage_keeps.ensures;
      read = c.read_recovers.ensures.read;
      holders = c.read_recovers.ensures.holders;
      store = c.store_keeps.ensures;
      idle = c.idle_keeps.ensures;
      ports = c.ports_match.ensures;
      devices = record { answer = c.words_stay.ensures.answer; exchange = c.words_stay.ensures.exchange; unplug = c.words_stay.ensures.unplug };
      banks = c.banks_are_held.ensures.there;
      stopped = c.stopped_run_stays.ensures;
      phases = c.phases_stand.ensures;
    }

pub returns-clause-opens : goal.returns-clause-opens
returns-clause-opens c = opens c.start_stands.ensures.stands
