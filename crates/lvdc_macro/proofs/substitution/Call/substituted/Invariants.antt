use Rattle.std.proofs.Common.{◌≡◌, ◌≤◌, ◌-◌, ◌++◌, map, length, drop}
use Rattle.lvdc_macro.specs.Substitution.{substituted}
use Rattle.lvdc_macro.proofs.substitution.Call.substituted.Given as goal

abbrev pub invariant-loop-at : goal.invariant-loop-at
invariant-loop-at l = record {
  within : l.at ≤ length l.text;
  so_far : l.out.items ++ substituted l.self.number (map (λ a. a.now) l.self.arguments.items) (drop l.at l.text) ≡ substituted l.self.number (map (λ a. a.now) l.self.arguments.items) l.text;
}

abbrev pub decreases-loop-at : goal.decreases-loop-at
decreases-loop-at l = length l.text - l.at
