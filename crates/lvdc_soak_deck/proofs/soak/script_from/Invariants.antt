use Rattle.std.proofs.Common.{◌≡◌, ◌-◌, ◌*◌, ◌++◌, length, All}
use Rattle.lvdc_fault.specs.Events.{IsEvent}
use Rattle.lvdc_soak_deck.specs.Soak.{events_from}
use Rattle.lvdc_soak_deck.proofs.soak.script_from.Given as goal

abbrev pub invariant-loop-k : goal.invariant-loop-k
invariant-loop-k l = record {
  script : l.script ++ events_from (2048 - l.k) l.k l.generator ≡ events_from 2048 0 l.fn.generator;
  count : length l.script ≡ 2 * l.k;
  events : All IsEvent l.script;
}
