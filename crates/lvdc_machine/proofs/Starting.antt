-- A machine before its first step.
use Rattle.std.proofs.Common.{◌≡◌, ℕ, ◌%◌, List, [], ◌∷◌, map, Result, Ok, Err, refl, sym, ap, ◌∙◌, subst}
use Rattle.std.specs.Prelude.{slice_index, IfOk}
use Rattle.std.specs.declared.option.Option.{Option}
use Rattle.std.specs.declared.option.Option.TheVariants.{None}
use Rattle.lvdc_map.specs.Hop.{HopConstant}
use Rattle.lvdc_port.specs.Device as device
use Rattle.lvdc_port.specs.Devices.{HasSpare, AreDistinct}
use Rattle.lvdc_plain.specs.Lists.{AreFit}
use Rattle.lvdc_vote.specs.Copies.{Copies}
use Rattle.lvdc_vote.proofs.Votes.{majority_of-first}
use Rattle.lvdc_modules.specs.Rows.{start_latches}
use Rattle.lvdc_model.specs.Known.{last_begun}
use Rattle.lvdc_model.specs.Trial.{Trial}
use Rattle.lvdc_model.specs.Voted.{voted_start, thrice}
use Rattle.lvdc_model.specs.declared.outcome.Outcome.{Outcome}
use Rattle.lvdc_machine.specs.declared.mode.Mode.{Mode}
use Rattle.lvdc_machine.specs.declared.mode.Mode.TheVariants.{Guarded, Through}
use Rattle.lvdc_machine.specs.declared.mode.Pace.{Pace}
use Rattle.lvdc_machine.specs.declared.mode.Pace.TheVariants.{ByTime}
use Rattle.lvdc_machine.specs.Calls.{IsFresh}
use Rattle.lvdc_machine.specs.Room.{pace_of, exchanges_left, exchanges_to_come, IsInTime}
use Rattle.lvdc_machine.specs.Shows.{Shows}
use Rattle.lvdc_machine.specs.Stands.{Stands, EndsAs, state_by}
use Rattle.lvdc_machine.specs.View.{View, bus_of_votes}

-- it stands at the start
pub stands-start : (o : Trial) (m : View) (ds : List device.Device) → Shows o m ds (voted_start o) → m.on_memory.last ≡ None → m.end ≡ None → m.steps ≡ 0
    → Stands o 0 m ds
stands-start o m ds s last none first =
    record {
      shows = subst (λ (e : Option Outcome). Shows o m ds (state_by e m.mode o 0)) (sym none) s;
      begun = last ∙ sym (λ i. last_begun (none i) (first i));
      ends = subst (λ (e : Option Outcome). EndsAs e o 0 m.mode m.steps) (sym none) first;
    }

-- a machine with room by times judges
pub judges-by : (mode : Mode) → pace_of mode ≡ ByTime → mode ≡ Guarded
judges-by Guarded e = refl
judges-by Through e = absurd (cc e)

-- the votes of TIMER are 0
pub starts-in-time : (mode : Mode) (start : HopConstant) (copies : List Copies) → copies ≡ map thrice (start_latches start) → IsInTime mode copies 0
starts-in-time Guarded start copies is =
    rw is (record {
      sized = record { one = refl; two = refl; three = refl };
      votes = ap (λ ws. slice_index ws 0 % 4) (majority_of-first (0 ∷ 0 ∷ []) (0 ∷ 0 ∷ []) refl);
    })
starts-in-time Through start copies is = tt

-- the vote is against a stop
pub starts-going : (start : HopConstant) (copies : List Copies) → copies ≡ map thrice (start_latches start) → (bus_of_votes copies).exchange.stop % 4 ≡ 0
starts-going start copies is = rw is (ap (λ ws. slice_index ws 0 % 4) (majority_of-first (0 ∷ 0 ∷ []) (0 ∷ 0 ∷ []) refl))

-- the devices are fit for a machine that was just made, where they have room for all exchanges of its mode
pub fresh-fit : {B : Type 0} (device_of : B → device.Device) (spare : B → ℕ) {mode : Mode} {pace : Pace} {limit steps : ℕ} {m : View}
    → IsFresh mode pace limit steps m → (devices : List B) → AreDistinct (map device_of devices)
    → HasSpare spare (exchanges_left pace steps limit) devices → AreFit device_of spare (exchanges_to_come m) devices
fresh-fit device_of spare fresh devices distinct room = record {
  distinct = distinct;
  room = rw (fresh.pace_is, fresh.steps_are, fresh.limit_is) room;
}

-- what is said of a result that is given follows from what else is said of it
pub if-ok-weaker : {A E : Type 0} (r : Result A E) (P Q : A → Type 0) → ((x : A) → P x → Q x) → IfOk r P → IfOk r Q
if-ok-weaker (Ok x) P Q weaker h = weaker x h
if-ok-weaker (Err e) P Q weaker h = tt
