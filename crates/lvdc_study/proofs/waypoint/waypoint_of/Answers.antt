use Rattle.lvdc_study.proofs.Waypointed.{whole-without, means-without}
use Rattle.lvdc_study.proofs.waypoint.waypoint_of.Goals as goal

pub returns-clause-whole : goal.returns-clause-whole
returns-clause-whole c =
    rw (c.from_vec.ensures, c.new.ensures.items) (whole-without c.in_ok-snapshot.snapshot (c.in_ok-snapshot.ensures.whole c.requires.mode))

pub returns-clause-means : goal.returns-clause-means
returns-clause-means c = λ o v ds shows.
    rw (c.from_vec.ensures, c.new.ensures.items) (means-without c.in_ok-snapshot.snapshot v (c.in_ok-snapshot.ensures.means o v ds shows))
