use Rattle.lvdc_command_run.proofs.perform.run_deck.Goals as goal

pub returns-in-Guarded-clause-run : goal.returns-in-Guarded-clause-run
returns-in-Guarded-clause-run g c = rw c.in-Guarded.is c.run_guarded.ensures.run

pub returns-in-Guarded-clause-unreported : goal.returns-in-Guarded-clause-unreported
returns-in-Guarded-clause-unreported g c = rw c.in-Guarded.is c.run_guarded.ensures.unreported

pub returns-in-Through-clause-run : goal.returns-in-Through-clause-run
returns-in-Through-clause-run g c = rw c.in-Through.is c.run_through.ensures.run

pub returns-in-Through-clause-unreported : goal.returns-in-Through-clause-unreported
returns-in-Through-clause-unreported g c = rw c.in-Through.is c.run_through.ensures.unreported

pub returns-in-Plain-clause-run : goal.returns-in-Plain-clause-run
returns-in-Plain-clause-run g c = rw c.in-Plain.is c.run_plain.ensures.run

pub returns-in-Plain-clause-unreported : goal.returns-in-Plain-clause-unreported
returns-in-Plain-clause-unreported g c = rw c.in-Plain.is c.run_plain.ensures.unreported
