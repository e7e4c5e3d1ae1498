-- A machine that goes on, and then goes on again.
use Rattle.std.proofs.Common.{◌≡◌, ℕ, ◌+◌, ◌≤◌, List, map, IsSome, refl, sym, ap, subst, ◌∙◌, arith}
use Rattle.lvdc_port.specs.Device as device
use Rattle.lvdc_plain.specs.Lists.{AreFit}
use Rattle.lvdc_model.specs.Trial.{Trial}
use Rattle.lvdc_model.specs.Voted.{Voted}
use Rattle.lvdc_model.specs.declared.outcome.Outcome.{Outcome}
use Rattle.lvdc_machine.specs.Calls.{LeavesAfterSteps, Answers}
use Rattle.lvdc_machine.specs.Resumed.{StandsFrom}
use Rattle.lvdc_machine.specs.Room.{exchanges_to_come}
use Rattle.lvdc_machine.specs.Steps.{Keeps}
use Rattle.lvdc_machine.specs.View.{View}
use Rattle.lvdc_debug.proofs.Going.{cause_on}
use Rattle.lvdc_trace.specs.Going.{GoesOn, GoesPart}

-- what two calls keep
keeps_then : (first m after : View) → Keeps first m → Keeps m after → Keeps first after
keeps_then first m after p q = record {
  banks = q.banks ∙ p.banks;
  script = q.script ∙ p.script;
  unplugs = q.unplugs ∙ p.unplugs;
  limit = q.limit ∙ p.limit;
  mode = q.mode ∙ p.mode;
  pace = q.pace ∙ p.pace;
}

module _ {B : Type 0} (device_of : B → device.Device) (spare faults : B → ℕ) where
  -- no step is made
  pub goes_not : (m : View) (xs : List B) → AreFit device_of spare (exchanges_to_come m) xs → GoesOn device_of spare faults 0 m m xs xs
  goes_not m xs fit = record {
    stands = λ o first n s. let same : n ≡ n + 0 = omega arith in subst (λ (k : ℕ). StandsFrom o first k m (map device_of xs)) same s;
    leaves = record {
      keeps = record { banks = refl; script = refl; unplugs = refl; limit = refl; mode = refl; pace = refl };
      most = omega arith;
      left = λ port h. h;
      fit = fit;
    };
    kept = λ some. (refl, refl);
    cause = λ first h. h;
  }

  -- a call that makes steps
  pub goes_call : (steps : ℕ) (end : Outcome) (before after : View) (old new : List B)
      → ((o : Trial) (first : Voted) (n : ℕ) → StandsFrom o first n before (map device_of old) → StandsFrom o first (n + steps) after (map device_of new))
      → Answers device_of faults end before after old new → LeavesAfterSteps device_of spare steps before after old new
      → GoesOn device_of spare faults steps before after old new
  goes_call steps end before after old new stands answers leaves = record {
    stands = stands;
    leaves = leaves;
    kept = answers.kept;
    cause = λ first h.
        cause_on device_of faults first before.end after.end old new leaves.left
        (λ some. let kept = answers.kept some in (ap (λ (v : View). v.end) kept.0, kept.1))
        (λ none. rw answers.answer at (answers.cause none)) h;
  }

  -- one after the other
  pub goes_then : (a b : ℕ) (first m after : View) (xs ys zs : List B) → GoesOn device_of spare faults a first m xs ys
      → GoesOn device_of spare faults b m after ys zs → GoesOn device_of spare faults (a + b) first after xs zs
  goes_then a b first m after xs ys zs p q = record {
    stands = λ o v n s.
        let same : n + a + b ≡ n + (a + b) = omega arith in
        subst (λ (k : ℕ). StandsFrom o v k after (map device_of zs)) same (q.stands o v (n + a) (p.stands o v n s));
    leaves = record {
      keeps = keeps_then first m after p.leaves.keeps q.leaves.keeps;
      most = let one = p.leaves.most in let two = q.leaves.most in omega (arith, one, two);
      left = λ port h. p.leaves.left port (q.leaves.left port h);
      fit = q.leaves.fit;
    };
    kept = λ some.
        let one = p.kept some in
        let two = q.kept (subst (λ (v : View). IsSome v.end) (sym one.0) some) in
        (two.0 ∙ one.0, two.1 ∙ one.1);
    cause = λ counts h. q.cause counts (p.cause counts h);
  }

  -- so many steps, by another name
  pub goes_as : (a b : ℕ) (before after : View) (old new : List B) → a ≡ b → GoesOn device_of spare faults a before after old new
      → GoesOn device_of spare faults b before after old new
  goes_as a b before after old new same g = subst (λ (k : ℕ). GoesOn device_of spare faults k before after old new) same g

  -- all of so many steps are some of them
  pub goes_whole : (a most : ℕ) (before after : View) (old new : List B) → a ≤ most → GoesOn device_of spare faults a before after old new
      → GoesPart device_of spare faults most before after old new
  goes_whole a most before after old new few g = record { steps = a; few = few; goes = g }

  -- some steps more
  pub part_then : (a b most : ℕ) (first m after : View) (xs ys zs : List B) → a + b ≤ most → GoesOn device_of spare faults a first m xs ys
      → GoesPart device_of spare faults b m after ys zs → GoesPart device_of spare faults most first after xs zs
  part_then a b most first m after xs ys zs within p q = record {
    steps = a + q.steps;
    few = let few = q.few in omega (arith, few, within);
    goes = goes_then a q.steps first m after xs ys zs p q.goes;
  }
