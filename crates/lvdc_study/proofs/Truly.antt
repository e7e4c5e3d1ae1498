-- The run through every fault of a trial beside one from a state that is alike but for devices and log: where what that one has read follows
-- from its log, the two come to states that are alike so.
use Rattle.std.proofs.Common.{◌≡◌, ℕ, zero, suc, ◌+◌, ◌/◌, ◌%◌, ◌^◌, ◌≤◌, true, false, cond, ◌==◌, List, [], ◌∷◌, ◌++◌, refl, sym, ap, ◌∙◌, subst, append_assoc, arith, Result, Ok, Err}
use Rattle.std.proofs.lemmas.List.{append-nil}
use Rattle.std.proofs.lemmas.Bool.{ne_eqb}
use Rattle.std.specs.declared.option.Option.{Option}
use Rattle.std.specs.declared.option.Option.TheVariants.{None, Some}
use Rattle.lvdc_port.specs.Device.{Device}
use Rattle.lvdc_port.specs.Devices.{exchange_word}
use Rattle.lvdc_port.specs.declared.requests.PortRequest.TheVariants.{Read}
use Rattle.lvdc_twin.specs.declared.both_bad.BothBad.{BothBad}
use Rattle.lvdc_twin.specs.declared.read_out.ReadOut.{ReadOut}
use Rattle.lvdc_map.specs.Address.{Spot}
use Rattle.lvdc_modules.specs.declared.wanted.Wanted.{Wanted}
use Rattle.lvdc_modules.specs.declared.wanted.Wanted.TheVariants as wanted
use Rattle.lvdc_plain.specs.Run.{plugged}
use Rattle.lvdc_plain.specs.declared.records.Exchange.{Exchange}
use Rattle.lvdc_model.specs.declared.outcome.Outcome.{Outcome}
use Rattle.lvdc_model.specs.Exchanges.{begin_step, reading, exchanges, wished}
use Rattle.lvdc_model.specs.Runs.{after_steps, through_by, through_step}
use Rattle.lvdc_model.specs.Trial.{Trial}
use Rattle.lvdc_model.specs.Twins.{read_answer}
use Rattle.lvdc_model.specs.Voted.{Voted}
use Rattle.lvdc_laws_voted.specs.Leaves.{devices_after}
use Rattle.lvdc_study.specs.Waypoints.{apart}
use Rattle.lvdc_study.proofs.Alongside.{line-of, exchange-log, exchange-apart, alike-is}
use Rattle.lvdc_study.proofs.Answering.{Left, on-to, on-next, line-at, AllFollow, follow-at, start, left-by, Begun, begun-more}

-- ---- one exchange

line-is : (w : Wanted) (u : Voted) → line-of w u ≡ line-at w u.devices (u.steps / 3)
line-is (wanted.PortRead port) u = refl
line-is (wanted.PortWrite port word) u = refl
line-is (wanted.Store at word) u = refl
line-is (wanted.Fetch at) u = refl
line-is (wanted.Operand at) u = refl
line-is wanted.Nothing u = refl

-- the devices that an exchange leaves; and it counts its step, unless it ends the run
record Leaves (w : Wanted) (u after : Voted) : Type 0 where
  devices : after.devices ≡ devices_after w u.devices
  steps : after.end ≡ None → after.steps ≡ suc u.steps

read-leaves : (r : Result ReadOut BothBad) (o : Trial) (u : Voted) (at : Spot) → (u.devices ≡ (reading r o u at).devices) × ((reading r o u at).end ≡ None → (reading r o u at).steps ≡ suc u.steps)
read-leaves (Err bad) o u at = (refl, λ none. absurd (cc (none)))
read-leaves (Ok r) o u at = (refl, λ none. refl)

exchange-leaves : (w : Wanted) (o : Trial) (u : Voted) → Leaves w u (exchanges o u w)
exchange-leaves (wanted.PortRead port) o u = record { devices = refl; steps = λ none. refl }
exchange-leaves (wanted.PortWrite port word) o u = record { devices = refl; steps = λ none. refl }
exchange-leaves (wanted.Store at word) o u = record { devices = refl; steps = λ none. refl }
exchange-leaves (wanted.Fetch at) o u =
    let r = read-leaves (read_answer o u.steps u.twins at) o u at in record { devices = sym r.0; steps = r.1 }
exchange-leaves (wanted.Operand at) o u =
    let r = read-leaves (read_answer o u.steps u.twins at) o u at in record { devices = sym r.0; steps = r.1 }
exchange-leaves wanted.Nothing o u = record { devices = refl; steps = λ none. refl }

-- ---- a run

-- the run through every fault from a state, after so many steps
abbrev pub through-from : Trial → Voted → ℕ → Voted
through-from o v n = after_steps (through_step o) v n

-- the line that a step notes
abbrev pub noted-line : Option Outcome → Trial → Voted → List Exchange
noted-line (Some e) o v = []
noted-line None o v = line-of (wished o (begin_step o v)) (begin_step o v)

pub noted-log : (end : Option Outcome) (o : Trial) (v : Voted) → (through_by end o v).log ≡ v.log ++ noted-line end o v
noted-log (Some e) o v = sym (append-nil v.log)
noted-log None o v = exchange-log (wished o (begin_step o v)) o (begin_step o v)

module _ (o : Trial) where
  abbrev Here : ℕ → List Exchange → List Device → Type 0
  Here begun log now = Begun o.opening.unplugs o.opening.devices begun log now

  abbrev first : Left
  first = start o.opening.unplugs o.opening.devices

  -- a step is begun
  begins : (v : Voted) → Here ((v.steps + 2) / 3) v.log v.devices → Here (suc (v.steps / 3)) v.log (begin_step o v).devices
  begins v h = by_phase (v.steps % 3) refl
    where
      left : Left
      left = left-by o.opening.unplugs o.opening.devices v.log

      by_phase : (phase : ℕ) → v.steps % 3 ≡ phase → Here (suc (v.steps / 3)) v.log (begin_step o v).devices
      by_phase zero is =
          let times : (v.steps + 2) / 3 ≡ v.steps / 3 = omega (arith, is) in
          let few : left.begun ≤ v.steps / 3 = subst (λ n. left.begun ≤ n) times h.few in
          record {
            few = omega (arith, few);
            are =
                ap (λ n. cond (n == 0) (plugged o.opening.unplugs (v.steps / 3) v.devices) v.devices) is
                ∙ ap (plugged o.opening.unplugs (v.steps / 3)) (h.are ∙ ap (λ n. on-to o.opening.unplugs n left) times)
                ∙ sym (on-next o.opening.unplugs left (v.steps / 3) few);
          }
      by_phase (suc phase) is =
          let times : (v.steps + 2) / 3 ≡ suc (v.steps / 3) = omega (arith, is) in
          let more : (v.steps % 3 == 0) ≡ false = ne_eqb (v.steps % 3) 0 (λ e. omega (arith, is, e)) in
          record {
            few = subst (λ n. left.begun ≤ n) times h.few;
            are =
                ap (λ b. cond b (plugged o.opening.unplugs (v.steps / 3) v.devices) v.devices) more
                ∙ h.are ∙ ap (λ n. on-to o.opening.unplugs n left) times;
          }

  -- a state of the true run is alike: its log has these lines before those of the other one, and its devices are those of its log
  pub record Truly (early : List Exchange) (v w : Voted) : Type 0 where
    pub same : apart v ≡ apart w
    pub log : v.log ≡ early ++ w.log
    pub here : Here ((v.steps + 2) / 3) v.log v.devices

  module _ (early : List Exchange) (u : Voted) (devices : List Device) (log : List Exchange) (before : u.log ≡ early ++ log) (h : Here (suc (u.steps / 3)) u.log u.devices) where
    abbrev x : Voted
    x = record u { devices = devices; log = log }

    -- the next line that follows from the log is that of the true run
    line-follows : (w : Wanted) (behind : List Exchange) → AllFollow o.opening.unplugs first ((early ++ log) ++ (line-of w x ++ behind)) → line-of w u ≡ line-of w x
    line-follows (wanted.PortRead port) behind all =
        let word = follow-at o.opening.unplugs (early ++ log) first _ behind all refl in
        ap (λ (word : ℕ). record { time = u.steps / 3; port = port; reading = true; word = word } ∷ [])
        (ap (exchange_word (Read port) (u.steps / 3 % 2 ^ 26))
        (h.are ∙ ap (λ (l : List Exchange). on-to o.opening.unplugs (suc (u.steps / 3)) (left-by o.opening.unplugs o.opening.devices l)) before) ∙ sym word)
    line-follows (wanted.PortWrite port word) behind all = refl
    line-follows (wanted.Store at word) behind all = refl
    line-follows (wanted.Fetch at) behind all = refl
    line-follows (wanted.Operand at) behind all = refl
    line-follows wanted.Nothing behind all = refl

    exchange-truly : (w : Wanted) (behind : List Exchange) → AllFollow o.opening.unplugs first ((early ++ log) ++ (line-of w x ++ behind))
        → (exchanges o u w).end ≡ None → Truly early (exchanges o u w) (exchanges o x w)
    exchange-truly w behind all going =
        let lines = line-follows w behind all in
        let leaves = exchange-leaves w o u in
        let noted : (exchanges o u w).log ≡ u.log ++ line-at w u.devices (u.steps / 3) = exchange-log w o u ∙ ap (λ (l : List Exchange). u.log ++ l) (line-is w u) in
        let made = leaves.steps going in
        let begun : suc (u.steps / 3) ≡ ((exchanges o u w).steps + 2) / 3 = omega (arith, made) in
        record {
          same = exchange-apart o u devices log w lines;
          log =
              exchange-log w o u ∙ (λ i. before i ++ lines i) ∙ append_assoc early log (line-of w x) ∙ ap (λ (l : List Exchange). early ++ l) (sym (exchange-log w o x));
          here =
              subst (λ (n : ℕ). Here n (exchanges o u w).log (exchanges o u w).devices) begun
              (subst (λ (l : List Exchange). Here (suc (u.steps / 3)) l (exchanges o u w).devices) (sym noted)
              (subst (Here (suc (u.steps / 3)) (u.log ++ line-at w u.devices (u.steps / 3))) (sym leaves.devices)
              (begun-more o.opening.unplugs o.opening.devices w (u.steps / 3) u.log u.devices h)));
        }

  -- one step
  step-truly : (early : List Exchange) (v w : Voted) (behind : List Exchange) → Truly early v w
      → AllFollow o.opening.unplugs first ((early ++ w.log) ++ (noted-line None o w ++ behind)) → (through_by None o w).end ≡ None
      → Truly early (through_by None o v) (through_by None o w)
  step-truly early v w behind h all going =
      let is : record v { devices = w.devices; log = w.log } ≡ w = alike-is v w h.same in
      let x : Voted = record v { devices = w.devices; log = w.log } in
      let all_there : AllFollow o.opening.unplugs first ((early ++ w.log) ++ (noted-line None o x ++ behind)) =
      subst (λ (y : Voted). AllFollow o.opening.unplugs first ((early ++ w.log) ++ (noted-line None o y ++ behind))) (sym is) all in
      let u = begin_step o v in
      let z = begin_step o x in
      let lines = line-follows early u z.devices w.log h.log (begins v h.here) (wished o u) behind all_there in
      let same : apart (through_by None o v) ≡ apart (through_by None o w) =
      exchange-apart o u z.devices w.log (wished o u) lines ∙ ap (λ (y : Voted). apart (through_by None o y)) is in
      subst (λ (y : Voted). Truly early (through_by None o v) (through_by None o y)) is
      (exchange-truly early u z.devices w.log h.log (begins v h.here) (wished o u) behind all_there (ap (λ (y : Voted). y.end) same ∙ going))

  -- a run that has not ended had not ended a step before
  going-before : (w : Voted) (end : Option Outcome) → w.end ≡ end → (through_by end o w).end ≡ None → w.end ≡ None
  going-before w None is going = is
  going-before w (Some e) is going = going

  pub truly : (early : List Exchange) (v w : Voted) → Truly early v w → (n : ℕ) → (through-from o w n).end ≡ None → (behind : List Exchange)
      → AllFollow o.opening.unplugs first (early ++ ((through-from o w n).log ++ behind)) → Truly early (through-from o v n) (through-from o w n)
  truly early v w h zero going behind all = h
  truly early v w h (suc n) going behind all =
      let a = through-from o v n in
      let r = through-from o w n in
      let none : r.end ≡ None = going-before r r.end refl going in
      let next : through_by r.end o r ≡ through_by None o r = ap (λ (e : Option Outcome). through_by e o r) none in
      let noted : (through-from o w (suc n)).log ≡ r.log ++ noted-line None o r = ap (λ (x : Voted). x.log) next ∙ noted-log None o r in
      let whole : early ++ ((through-from o w (suc n)).log ++ behind) ≡ early ++ (r.log ++ (noted-line None o r ++ behind)) =
      ap (λ (l : List Exchange). early ++ l) (ap (λ (l : List Exchange). l ++ behind) noted ∙ append_assoc r.log (noted-line None o r) behind) in
      let all_on : AllFollow o.opening.unplugs first (early ++ (r.log ++ (noted-line None o r ++ behind))) = subst (AllFollow o.opening.unplugs first) whole all in
      let before = truly early v w h n none (noted-line None o r ++ behind) all_on in
      let mine : a.end ≡ None = ap (λ (x : Voted). x.end) before.same ∙ none in
      let there : AllFollow o.opening.unplugs first ((early ++ r.log) ++ (noted-line None o r ++ behind)) =
      subst (AllFollow o.opening.unplugs first) (sym (append_assoc early r.log (noted-line None o r ++ behind))) all_on in
      let step = step-truly early a r behind before there (ap (λ (x : Voted). x.end) (sym next) ∙ going) in
      subst (λ (x : Voted). Truly early (through-from o v (suc n)) x) (sym next)
      (subst (λ (x : Voted). Truly early x (through_by None o r)) (sym (ap (λ (e : Option Outcome). through_by e o a) mine)) step)
