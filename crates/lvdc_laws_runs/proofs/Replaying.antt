-- The devices of a run are what the exchanges of its log have made of the first ones, and what was taken away since.
use Rattle.std.proofs.Common.{◌≡◌, ℕ, zero, suc, ◌+◌, ◌-◌, ◌/◌, ◌%◌, ◌≤◌, Bool, true, false, cond, List, [], ◌∷◌, ◌++◌, refl, sym, ap, ◌∙◌, subst, arith, Result, Ok, Err}
use Rattle.std.specs.Prelude.{◌==◌}
use Rattle.std.specs.declared.option.Option.{Option}
use Rattle.std.specs.declared.option.Option.TheVariants.{None, Some}
use Rattle.std.proofs.lemmas.Bool.{ne_eqb}
use Rattle.lvdc_map.specs.Address.{Spot}
use Rattle.lvdc_port.specs.Device.{Device}
use Rattle.lvdc_port.specs.Devices.{after_exchange}
use Rattle.lvdc_port.specs.declared.requests.PortRequest.{PortRequest}
use Rattle.lvdc_port.specs.declared.requests.PortRequest.TheVariants.{Read, Write}
use Rattle.lvdc_twin.specs.declared.both_bad.BothBad.{BothBad}
use Rattle.lvdc_twin.specs.declared.read_out.ReadOut.{ReadOut}
use Rattle.lvdc_modules.specs.declared.wanted.Wanted.{Wanted}
use Rattle.lvdc_modules.specs.declared.wanted.Wanted.TheVariants as wanted
use Rattle.lvdc_plain.specs.Run.{plugged}
use Rattle.lvdc_plain.specs.declared.records.Exchange.{Exchange}
use Rattle.lvdc_plain.specs.declared.records.Unplug.{Unplug}
use Rattle.lvdc_fault.specs.declared.verdict.Verdict.{Verdict}
use Rattle.lvdc_fault.specs.declared.verdict.Verdict.TheVariants.{Admissible, Logic, Memory}
use Rattle.lvdc_model.specs.declared.outcome.Outcome.{Outcome}
use Rattle.lvdc_model.specs.Trial.{Trial}
use Rattle.lvdc_model.specs.Twins.{read_answer}
use Rattle.lvdc_model.specs.Voted.{Voted}
use Rattle.lvdc_model.specs.Exchanges.{begin_step, reading, exchanges, wished, voted_step}
use Rattle.lvdc_model.specs.Judging.{judged}
use Rattle.lvdc_model.specs.Runs.{through_by, through, judged_by, guarded_by, guarded}

-- ---- what a log makes of devices

-- devices as the last line of a log left them, and how many times had been begun by then
record Left : Type 0 where
  begun : ℕ
  devices : List Device

-- the devices so many times on: those of each time are taken away
abbrev on : List Unplug → ℕ → ℕ → List Device → List Device
on unplugs begun zero devices = devices
on unplugs begun (suc more) devices = plugged unplugs (begun + more) (on unplugs begun more devices)

-- the devices once so many times are begun
abbrev on-to : List Unplug → ℕ → Left → List Device
on-to unplugs begun left = on unplugs left.begun (begun - left.begun) left.devices

-- the request of a line
abbrev asked : Bool → ℕ → ℕ → PortRequest
asked true port word = Read port
asked false port word = Write port word

-- one line more
abbrev one-more : List Unplug → Exchange → Left → Left
one-more unplugs line left =
    record { begun = suc line.time; devices = after_exchange (asked line.reading line.port line.word) (on-to unplugs (suc line.time) left) }

abbrev replayed : List Unplug → List Exchange → Left → Left
replayed unplugs [] left = left
replayed unplugs (line ∷ lines) left = replayed unplugs lines (one-more unplugs line left)

replayed-more : (unplugs : List Unplug) (lines : List Exchange) (line : Exchange) (left : Left)
    → replayed unplugs (lines ++ line ∷ []) left ≡ one-more unplugs line (replayed unplugs lines left)
replayed-more unplugs [] line left = refl
replayed-more unplugs (first ∷ rest) line left = replayed-more unplugs rest line (one-more unplugs first left)

-- one time more is begun
on-next : (unplugs : List Unplug) (left : Left) (begun : ℕ) → left.begun ≤ begun → on-to unplugs (suc begun) left ≡ plugged unplugs begun (on-to unplugs begun left)
on-next unplugs left begun le =
    let more : suc begun - left.begun ≡ suc (begun - left.begun) = omega (arith, le) in
    let time : left.begun + (begun - left.begun) ≡ begun = omega (arith, le) in
    ap (λ n. on unplugs left.begun n left.devices) more
    ∙ ap (λ n. plugged unplugs n (on unplugs left.begun (begun - left.begun) left.devices)) time

-- none is to be taken away yet
on-none : (unplugs : List Unplug) (left : Left) (begun : ℕ) → begun ≡ left.begun → on-to unplugs begun left ≡ left.devices
on-none unplugs left begun e =
    let none : begun - left.begun ≡ 0 = omega (arith, e) in ap (λ n. on unplugs left.begun n left.devices) none

-- ---- a run

module _ (o : Trial) where
  abbrev left-by : Voted → Left
  left-by v = replayed o.opening.unplugs v.log (record { begun = 0; devices = o.opening.devices })

  -- once so many times are begun, the devices are those of the log
  record Replays (begun : ℕ) (v : Voted) : Type 0 where
    few : (left-by v).begun ≤ begun
    devices : v.devices ≡ on-to o.opening.unplugs begun (left-by v)

  -- a step is begun
  begins : (v : Voted) → Replays ((v.steps + 2) / 3) v → Replays (suc (v.steps / 3)) (begin_step o v)
  begins v h = by_phase (v.steps % 3) refl
    where
      left : Left
      left = left-by v

      by_phase : (phase : ℕ) → v.steps % 3 ≡ phase → Replays (suc (v.steps / 3)) (begin_step o v)
      by_phase zero first =
          let times : (v.steps + 2) / 3 ≡ v.steps / 3 = omega (arith, first) in
          let few : left.begun ≤ v.steps / 3 = subst (λ n. left.begun ≤ n) times h.few in
          record {
            few = omega (arith, few);
            devices =
                ap (λ n. cond (n == 0) (plugged o.opening.unplugs (v.steps / 3) v.devices) v.devices) first
                ∙ ap (plugged o.opening.unplugs (v.steps / 3)) (h.devices ∙ ap (λ n. on-to o.opening.unplugs n left) times)
                ∙ sym (on-next o.opening.unplugs left (v.steps / 3) few);
          }
      by_phase (suc phase) later =
          let times : (v.steps + 2) / 3 ≡ suc (v.steps / 3) = omega (arith, later) in
          let more : (v.steps % 3 == 0) ≡ false = ne_eqb (v.steps % 3) 0 (λ e. omega (arith, later, e)) in
          record {
            few = subst (λ n. left.begun ≤ n) times h.few;
            devices =
                ap (λ b. cond b (plugged o.opening.unplugs (v.steps / 3) v.devices) v.devices) more
                ∙ h.devices ∙ ap (λ n. on-to o.opening.unplugs n left) times;
          }

  -- a line of the time that was begun
  one-line : (begun : ℕ) (v u : Voted) (line : Exchange) → Replays begun v → suc line.time ≡ begun → u.log ≡ v.log ++ line ∷ []
      → u.devices ≡ after_exchange (asked line.reading line.port line.word) v.devices → Replays begun u
  one-line begun v u line h time log devices =
      let left : left-by u ≡ one-more o.opening.unplugs line (left-by v) =
      ap (λ (l : List Exchange). replayed o.opening.unplugs l (record { begun = 0; devices = o.opening.devices })) log
      ∙ replayed-more o.opening.unplugs v.log line (record { begun = 0; devices = o.opening.devices }) in
      record {
        few = subst (λ (l : Left). l.begun ≤ begun) (sym left) (omega (arith, time));
        devices =
            devices
            ∙ ap (after_exchange (asked line.reading line.port line.word)) (h.devices ∙ ap (λ n. on-to o.opening.unplugs n (left-by v)) (sym time))
            ∙ sym (on-none o.opening.unplugs (one-more o.opening.unplugs line (left-by v)) begun (sym time))
            ∙ ap (on-to o.opening.unplugs begun) (sym left);
      }

  -- it has made so many steps, unless it has ended, and its devices are those of its log
  record Goes (steps : ℕ) (v : Voted) : Type 0 where
    steps_are : v.steps ≡ steps
    replays : Replays ((steps + 2) / 3) v

  abbrev GoesOn : ℕ → Voted → Type 0
  GoesOn steps v = v.end ≡ None → Goes steps v

  module _ (u : Voted) (h : Replays (suc (u.steps / 3)) u) where
    here : Replays ((suc u.steps + 2) / 3) u
    here = let times : suc (u.steps / 3) ≡ (suc u.steps + 2) / 3 = omega arith in subst (λ n. Replays n u) times h

    -- a step that leaves log and devices
    left-alone : (v : Voted) → v.steps ≡ suc u.steps → v.log ≡ u.log → v.devices ≡ u.devices → Goes (suc u.steps) v
    left-alone v steps log devices = record {
      steps_are = steps;
      replays = record {
        few = subst (λ (l : List Exchange). (replayed o.opening.unplugs l (record { begun = 0; devices = o.opening.devices })).begun ≤ (suc u.steps + 2) / 3) (sym log) here.few;
        devices =
            devices ∙ here.devices
            ∙ ap (λ (l : List Exchange). on-to o.opening.unplugs ((suc u.steps + 2) / 3) (replayed o.opening.unplugs l (record { begun = 0; devices = o.opening.devices }))) (sym log);
      };
    }

    reads : (r : Result ReadOut BothBad) (at : Spot) → GoesOn (suc u.steps) (reading r o u at)
    reads (Err bad) at going = absurd (cc (going))
    reads (Ok r) at going = left-alone (reading (Ok r) o u at) refl refl refl

    makes : (w : Wanted) → GoesOn (suc u.steps) (exchanges o u w)
    makes wanted.Nothing going = left-alone (exchanges o u wanted.Nothing) refl refl refl
    makes (wanted.Fetch at) going = reads (read_answer o u.steps u.twins at) at going
    makes (wanted.Operand at) going = reads (read_answer o u.steps u.twins at) at going
    makes (wanted.Store at word) going = left-alone (exchanges o u (wanted.Store at word)) refl refl refl
    makes (wanted.PortRead port) going =
        let times : suc (u.steps / 3) ≡ (suc u.steps + 2) / 3 = omega arith in
        record { steps_are = refl; replays = one-line ((suc u.steps + 2) / 3) u (exchanges o u (wanted.PortRead port)) _ here times refl refl }
    makes (wanted.PortWrite port word) going =
        let times : suc (u.steps / 3) ≡ (suc u.steps + 2) / 3 = omega arith in
        record { steps_are = refl; replays = one-line ((suc u.steps + 2) / 3) u (exchanges o u (wanted.PortWrite port word)) _ here times refl refl }

  -- ---- one step

  made-goes : (v : Voted) (n : ℕ) → Goes n v → GoesOn (suc n) (voted_step o (begin_step o v))
  made-goes v n h going =
      let replays : Replays ((v.steps + 2) / 3) v = subst (λ m. Replays ((m + 2) / 3) v) (sym h.steps_are) h.replays in
      subst (λ m. Goes (suc m) (voted_step o (begin_step o v))) h.steps_are
      (makes (begin_step o v) (begins v replays) (wished o (begin_step o v)) going)

  through-goes : (v : Voted) (n : ℕ) (end : Option Outcome) → v.end ≡ end → GoesOn n v → GoesOn (suc n) (through_by end o v)
  through-goes v n (Some e) is h going = let both : Some e ≡ None = sym is ∙ going in absurd (cc (both))
  through-goes v n None is h going = made-goes v n (h is) going

  judged-goes : (v : Voted) (n : ℕ) → Goes n v → (verdict : Verdict) → GoesOn (suc n) (judged_by verdict o (begin_step o v))
  judged-goes v n h Admissible going = made-goes v n h going
  judged-goes v n h (Logic step m) going = absurd (cc (going))
  judged-goes v n h (Memory step at) going = absurd (cc (going))

  guarded-goes : (v : Voted) (n : ℕ) (end : Option Outcome) → v.end ≡ end → GoesOn n v → GoesOn (suc n) (guarded_by end o v)
  guarded-goes v n (Some e) is h going = let both : Some e ≡ None = sym is ∙ going in absurd (cc (both))
  guarded-goes v n None is h going = judged-goes v n (h is) (judged o v.steps) going

  -- ---- whole runs

  start : Replays 0 (through o 0)
  start = record { few = omega arith; devices = refl }

  through-replays : (n : ℕ) → GoesOn n (through o n)
  through-replays zero going = record { steps_are = refl; replays = start }
  through-replays (suc n) going = through-goes (through o n) n (through o n).end refl (through-replays n) going

  guarded-replays : (n : ℕ) → GoesOn n (guarded o n)
  guarded-replays zero going = record { steps_are = refl; replays = start }
  guarded-replays (suc n) going = guarded-goes (guarded o n) n (guarded o n).end refl (guarded-replays n) going

-- a run that has not ended has made all its steps
pub all-steps : (o : Trial) (n : ℕ) → (through o n).end ≡ None → (through o n).steps ≡ n
all-steps o n going = (through-replays o n going).steps_are

-- two runs of an opening that have one log and have not ended have the same devices
pub devices-alike : (o other : Trial) → o.opening ≡ other.opening → (n : ℕ) → (through o n).end ≡ None → (guarded other n).end ≡ None
    → (through o n).log ≡ (guarded other n).log → (through o n).devices ≡ (guarded other n).devices
devices-alike o other opening n one two log =
    let mine = (through-replays o n one).replays in
    let its = (guarded-replays other n two).replays in
    mine.devices
    ∙ (λ i. on-to (opening i).unplugs ((n + 2) / 3) (replayed (opening i).unplugs (log i) (record { begun = 0; devices = (opening i).devices })))
    ∙ sym its.devices
