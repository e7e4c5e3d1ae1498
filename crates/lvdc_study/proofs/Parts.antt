-- The first difference, by what is compared of the machines.
use Rattle.std.proofs.Common.{◌≡◌, ℕ, ◌*◌, Bool, ◌∙◌}
use Rattle.std.specs.declared.option.Option.{Option}
use Rattle.lvdc_map.specs.Address.{Spot}
use Rattle.lvdc_plain.specs.View as plain_view
use Rattle.lvdc_model.specs.Runs.{through}
use Rattle.lvdc_model.specs.Trial.{Trial, plain_at}
use Rattle.lvdc_machine.specs.Shows.{Shows}
use Rattle.lvdc_machine.specs.View as view
use Rattle.lvdc_machine.specs.declared.mode.Mode.TheVariants.{Through}
use Rattle.lvdc_report.specs.Report.{visible_in}
use Rattle.lvdc_report.specs.Voted as report
use Rattle.lvdc_runs.specs.Ran.{HasRun, HasRunPlainly}
use Rattle.lvdc_runs.specs.Same.{are_same_registers, end_in, is_same_end}
use Rattle.lvdc_study.specs.Outcomes.{time_of_difference, address_of_difference, difference_by, first_difference}

module _ (o : Trial) (times : ℕ) (m : view.View) (h : HasRun Through o times m) (shown : Shows o m h.left (through o (3 * times)))
    (p : plain_view.View) (g : HasRunPlainly o.opening times p) where
  visible-voted : view.visible_of m ≡ report.visible_of (through o (3 * times))
  visible-voted =
      let copies = shown.copies in
      let steps = shown.steps in
      λ i. view.registers_on (view.bus_of_votes (copies i)) (steps i)

  visible-plain : plain_view.visible_of p ≡ visible_in (plain_at o times)
  visible-plain =
      let s = g.shows in
      λ i. record { place = s.place i; a = s.a i; pq = s.pq i; saver = s.saver i; times = s.times i }

  pub told : (ends : Bool) (time : Option ℕ) (registers : Bool) (at : Option Spot)
      → ends ≡ is_same_end m.end p.end → time ≡ time_of_difference m.log p.log
      → registers ≡ are_same_registers (view.visible_of m) (plain_view.visible_of p)
      → at ≡ address_of_difference o.opening.banks (through o (3 * times)).intended (plain_at o times).memory
      → difference_by ends time registers at ≡ first_difference o times
  told ends time registers at e t r a =
      let end-voted = shown.end in
      let end-plain = g.end in
      let log-voted = shown.log in
      let log-plain = g.shows.log in
      let ends-are : ends ≡ is_same_end (through o (3 * times)).end (end_in (plain_at o times)) = e ∙ (λ i. is_same_end (end-voted i) (end-plain i)) in
      let time-is : time ≡ time_of_difference (through o (3 * times)).log (plain_at o times).log = t ∙ (λ i. time_of_difference (log-voted i) (log-plain i)) in
      let registers-are : registers ≡ are_same_registers (report.visible_of (through o (3 * times))) (visible_in (plain_at o times)) =
      r ∙ (λ i. are_same_registers (visible-voted i) (visible-plain i)) in
      λ i. difference_by (ends-are i) (time-is i) (registers-are i) (a i)
