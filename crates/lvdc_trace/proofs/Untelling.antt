-- A machine that was made ready and has gone on gives the answer that is due.
use Rattle.std.proofs.Common.{◌≡◌, ℕ, ◌+◌, ◌-◌, ◌*◌, ◌≤◌, List, true, map, refl, sym, ap, subst, ◌∙◌, arith}
use Rattle.std.specs.declared.option.Option.{Option}
use Rattle.std.specs.declared.option.Option.TheVariants.{None, Some}
use Rattle.lvdc_port.specs.Device as device
use Rattle.lvdc_port.specs.Devices.{has_port, count_at}
use Rattle.lvdc_model.specs.declared.outcome.Outcome.{Outcome}
use Rattle.lvdc_model.specs.declared.outcome.Outcome.TheVariants.{Done, Stopped, Inadmissible, Device}
use Rattle.lvdc_model.specs.Trial.{Trial}
use Rattle.lvdc_model.specs.Voted.{Voted, voted_start}
use Rattle.lvdc_machine.specs.Calls.{Begins}
use Rattle.lvdc_machine.specs.Resumed.{state_from, EndsFrom, FailedFrom, StandsFrom}
use Rattle.lvdc_machine.specs.Steps.{run_from}
use Rattle.lvdc_machine.specs.View.{View, answer_of_end}
use Rattle.lvdc_machine.specs.declared.mode.Mode.{Mode}
use Rattle.lvdc_deck.specs.declared.deck.Deck.{Deck}
use Rattle.lvdc_reply.specs.Answer.{Answer, answer_with}
use Rattle.lvdc_reply.specs.Replies.{Quiet, RoseAt, OthersQuiet}
use Rattle.lvdc_debug.specs.Standing.{CausedSince}
use Rattle.lvdc_command_run.specs.Accounts.{end_status}
use Rattle.lvdc_command_run.specs.Ready.{AreSupplied}
use Rattle.lvdc_command_run.specs.Trials.{trial_of}
use Rattle.lvdc_trace.specs.declared.window.Window.{Window}
use Rattle.lvdc_trace.specs.Going.{IsAt, GoesOn, GoesPart, text_by}
use Rattle.lvdc_trace.specs.Traces.{steps_asked, text_from}
use Rattle.lvdc_trace.specs.Answers.{answer_from, broken_from}
use Rattle.lvdc_trace.specs.Replies.{IsTraced, made, failed, IsAmid, IsUntold, supplying, amid}

-- a machine that was made of a deck stands at the start of its trial
pub at-start : (o : Trial) (mode : Mode) (count : ℕ) (start : View) (ds : List device.Device) → Begins o mode count start ds
    → IsAt o (voted_start o) mode (3 * count) start ds
at-start o mode count start ds begins = record {
  stands = begins.stands;
  mode_is = begins.fresh.mode_is;
  left_is = let limit = begins.fresh.limit_is in let steps = begins.fresh.steps_are in omega (arith, limit, steps);
  going = begins.fresh.end;
}

-- want of memory while the machine was made
pub unmade : {B : Type 0} (device_of : B → device.Device) (faults : B → ℕ) (mode : Mode) (w : Window) (deck : Deck) (old ready : List B)
    → ((port : ℕ) → count_at device_of faults port ready ≡ count_at device_of faults port old)
    → AreSupplied deck (map device_of old) (map device_of ready) → IsUntold device_of faults mode w deck old ready
unmade device_of faults mode w deck old ready still part = supplying part.count part.devices (λ port left. still port)

-- or on the way
pub amid-deck : {B : Type 0} (device_of : B → device.Device) (faults : B → ℕ) (mode : Mode) (w : Window) (deck : Deck) (old new : List B)
    → IsAmid device_of faults mode w (trial_of (map device_of old) deck) (voted_start (trial_of (map device_of old) deck)) (3 * deck.count) old new
    → IsUntold device_of faults mode w deck old new
amid-deck device_of faults mode w deck old new is = amid is

module _ {B : Type 0} (device_of : B → device.Device) (spare faults : B → ℕ) (mode : Mode) (w : Window) (o : Trial) (begin : Voted) (left : ℕ) (old ready : List B)
    (still : (port : ℕ) → has_port device_of port ready ≡ true → count_at device_of faults port ready ≡ count_at device_of faults port old)
    (start m : View) (new : List B) (at : IsAt o begin mode left start (map device_of ready)) where
  -- where the machine then stands
  stands-at : (steps : ℕ) → GoesOn device_of spare faults steps start m ready new → StandsFrom o begin steps m (map device_of new)
  stands-at steps goes =
      let none : 0 + steps ≡ steps = omega arith in
      subst (λ (k : ℕ). StandsFrom o begin k m (map device_of new)) none (goes.stands o begin 0 at.stands)

  -- and in which mode
  same-mode : (steps : ℕ) → GoesOn device_of spare faults steps start m ready new → m.mode ≡ mode
  same-mode steps goes = goes.leaves.keeps.mode ∙ at.mode_is

  -- an end has its cause since before
  caused : (steps : ℕ) → GoesOn device_of spare faults steps start m ready new
      → CausedSince device_of faults (λ port. count_at device_of faults port old) m.end new
  caused steps goes =
      let none : None ≡ start.end = sym at.going in
      goes.cause (λ port. count_at device_of faults port old)
      (subst (λ (e : Option Outcome). CausedSince device_of faults (λ port. count_at device_of faults port old) e ready) none still)

  -- the devices that it leaves are those of its state
  leaves : (steps : ℕ) → GoesOn device_of spare faults steps start m ready new → map device_of new ≡ (state_from m.end mode o begin steps).devices
  leaves steps goes =
      (stands-at steps goes).shows.left ∙ ap (λ (k : Mode). (state_from m.end k o begin steps).devices) (same-mode steps goes)

  -- want of memory on the way
  pub untold : GoesPart device_of spare faults (steps_asked w (3 * start.limit - start.steps)) start m ready new
      → IsAmid device_of faults mode w o begin left old new
  untold part = record {
    end = m.end;
    steps = part.steps;
    few = subst (λ (n : ℕ). part.steps ≤ steps_asked w n) at.left_is part.few;
    devices = leaves part.steps part.goes;
    cause = caused part.steps part.goes;
  }

  module _ (gone : GoesOn device_of spare faults (steps_asked w (3 * start.limit - start.steps)) start m ready new) (status : ℕ) (text : List ℕ)
      (s : status ≡ end_status (answer_of_end m.end)) (t : text ≡ text_by m.end start.mode o begin (3 * start.limit - start.steps) w) where
    goes : GoesOn device_of spare faults (steps_asked w left) start m ready new
    goes = subst (λ (n : ℕ). GoesOn device_of spare faults (steps_asked w n) start m ready new) at.left_is gone

    abbrev asked : ℕ
    asked = steps_asked w left

    written : text ≡ text_by m.end mode o begin left w
    written = let k = at.mode_is in let n = at.left_is in t ∙ (λ i. text_by m.end (k i) o begin (n i) w)

    ends : m.end ≡ (state_from m.end mode o begin asked).end
    ends = (stands-at asked goes).shows.end ∙ ap (λ (k : Mode). (state_from m.end k o begin asked).end) (same-mode asked goes)

    -- where no device failed
    by_whole : (end : Option Outcome) → m.end ≡ end → state_from end mode o begin asked ≡ run_from mode o begin asked
        → text_by end mode o begin left w ≡ text_from mode o begin left w
        → Quiet device_of faults old new → IsTraced device_of faults mode w o begin left old new (answer_with status text (map device_of new))
    by_whole end is state told quiet =
        let at : state_from m.end mode o begin asked ≡ run_from mode o begin asked = ap (λ (e : Option Outcome). state_from e mode o begin asked) is ∙ state in
        let last : m.end ≡ (run_from mode o begin asked).end = ends ∙ ap (λ (v : Voted). v.end) at in
        let st = s ∙ ap (λ (e : Option Outcome). end_status (answer_of_end e)) last in
        let tx = written ∙ ap (λ (e : Option Outcome). text_by e mode o begin left w) is ∙ told in
        let rest = leaves asked goes ∙ ap (λ (v : Voted). v.devices) at in
        let due : answer_from mode o begin left w ≡ answer_with status text (map device_of new) = λ i. answer_with (sym st i) (sym tx i) (sym rest i) in
        subst (λ (a : Answer). IsTraced device_of faults mode w o begin left old new a) due (made quiet)

    -- where one did
    by_failed : (step port : ℕ) → m.end ≡ Some (Device step port) → RoseAt device_of faults port old new → OthersQuiet device_of faults port old new
        → IsTraced device_of faults mode w o begin left old new (answer_with status text (map device_of new))
    by_failed step port is rose others =
        let x : FailedFrom o begin asked mode step port =
        subst (λ (k : Mode). FailedFrom o begin asked k step port) (same-mode asked goes)
        (subst (λ (e : Option Outcome). EndsFrom e o begin asked m.mode m.steps) is (stands-at asked goes).ends) in
        let st = s ∙ ap (λ (e : Option Outcome). end_status (answer_of_end e)) is in
        let tx = written ∙ ap (λ (e : Option Outcome). text_by e mode o begin left w) is in
        let rest = leaves asked goes ∙ ap (λ (e : Option Outcome). (state_from e mode o begin asked).devices) is in
        let due : broken_from mode o begin w step port ≡ answer_with status text (map device_of new) = λ i. answer_with (sym st i) (sym tx i) (sym rest i) in
        subst (λ (a : Answer). IsTraced device_of faults mode w o begin left old new a) due (failed step port x rose others)

    by_end : (end : Option Outcome) → m.end ≡ end → CausedSince device_of faults (λ port. count_at device_of faults port old) end new
        → EndsFrom end o begin asked m.mode m.steps → IsTraced device_of faults mode w o begin left old new (answer_with status text (map device_of new))
    by_end None is c e = by_whole None is refl refl c
    by_end (Some Done) is c e = absurd e
    by_end (Some (Stopped step stop)) is c e = by_whole (Some (Stopped step stop)) is refl refl c
    by_end (Some (Inadmissible verdict)) is c e = by_whole (Some (Inadmissible verdict)) is refl refl c
    by_end (Some (Device step port)) is c e = by_failed step port is c.rose c.others

    pub traced_is : IsTraced device_of faults mode w o begin left old new (answer_with status text (map device_of new))
    traced_is = by_end m.end refl (caused asked goes) (stands-at asked goes).ends

-- the same of a window by another name
module _ {B : Type 0} (device_of : B → device.Device) (faults : B → ℕ) (mode : Mode) (o : Trial) (begin : Voted) (left : ℕ) (old new : List B) (u w : Window)
    (same : u ≡ w) where
  pub traced-as : (due : Answer) → IsTraced device_of faults mode u o begin left old new due → IsTraced device_of faults mode w o begin left old new due
  traced-as due is = subst (λ (k : Window). IsTraced device_of faults mode k o begin left old new due) same is

  pub amid-as : IsAmid device_of faults mode u o begin left old new → IsAmid device_of faults mode w o begin left old new
  amid-as is = subst (λ (k : Window). IsAmid device_of faults mode k o begin left old new) same is
