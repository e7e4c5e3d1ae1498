-- What is true of a log and of the repairs that a machine has noted.
use Rattle.std.specs.Prelude.{◌≡◌, ℕ, ◌≤◌, ◌<◌, true, List, All, AllPairs}
use Rattle.lvdc_map.specs.Banks.{is_there}
use Rattle.lvdc_plain.specs.declared.records.Exchange.{Exchange}
use Rattle.lvdc_model.specs.declared.repair.Repair.{Repair}

-- a log whose times never fall, and are below this one
pub record IsLog (times : ℕ) (log : List Exchange) : Type 0 where
  pub below : All (λ line. line.time < times) log
  pub order : AllPairs (λ before after. before.time ≤ after.time) log

-- a repair of this step, of one of two twins, at an address that is there
pub record IsRepairOfStep (banks step : ℕ) (repair : Repair) : Type 0 where
  pub dated : repair.step ≡ step
  pub twin : repair.twin < 2
  pub there : is_there banks repair.at ≡ true

-- repairs whose steps rise and are below this one; each is of one of two twins, at an address that is there
pub record AreRepairs (banks steps : ℕ) (repairs : List Repair) : Type 0 where
  pub below : All (λ repair. repair.step < steps) repairs
  pub order : AllPairs (λ before after. before.step < after.step) repairs
  pub twins : All (λ repair. repair.twin < 2) repairs
  pub there : All (λ repair. is_there banks repair.at ≡ true) repairs
