use Rattle.std.proofs.Common.{ap}
use Rattle.lvdc_save.specs.Reading.{saved_in}
use Rattle.lvdc_save_read.proofs.reading.Reading.into_whole.Goals as goal

pub returns : goal.returns
returns c =
    rw (
      c.from_vec.ensures,
      c.from_vec-2.ensures,
      c.from_vec-3.ensures,
      c.from_vec-4.ensures,
      c.from_vec-5.ensures,
      c.from_vec-6.ensures,
      c.from_vec-7.ensures,
      c.from_vec-8.ensures,
      c.from_vec-9.ensures,
    ) (ap saved_in c.self.view_is)
