-- Every cell is the code of 0, nothing is stuck or dead, and twin 0 is selected.
use Rattle.std.proofs.Common.{ℕ, ◌+◌, ◌*◌, false, refl, arith}
use Rattle.lvdc_twin.specs.Store.{slot_of}
use Rattle.lvdc_twin.proofs.Loading.{get_or-same}
use Rattle.lvdc_twin.proofs.Places.{slot-small}
use Rattle.lvdc_twin.proofs.twins.Twins.blank.Goals as goal

pub returns : goal.returns
returns c =
    record {
      banks_are = refl;
      cells = λ twin two place here. c.in_ok-zeros.ensures.zero (slot_of twin place) (slot-small twin place two here);
      stuck = λ twin place. c.in_ok-nothing_stuck.ensures.nothing (slot_of twin place);
      dead = λ twin pair. get_or-same 8 (twin * 4 + pair) false;
      selected = refl;
    }

pub invariant_of-result : goal.invariant_of-result
invariant_of-result c = (
  record {
    whole = record {
      cells = c.in_ok-zeros.ensures.length;
      stuck = c.in_ok-nothing_stuck.ensures.length;
      dead = refl;
      pairs = refl;
      selected = λ pair. omega (arith, get_or-same {X = ℕ} 4 pair 0);
    };
    bare = λ _. record {
      stuck = λ twin place. c.in_ok-nothing_stuck.ensures.nothing (slot_of twin place);
      dead = λ twin pair. get_or-same 8 (twin * 4 + pair) false;
    };
  },
  c.in_ok-zeros.ensures.blank,
  c.in_ok-nothing_stuck.ensures.blank,
)
