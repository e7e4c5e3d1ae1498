-- A row, by what the runs of its script came to.
use Rattle.std.proofs.Common.{◌≡◌, ℕ, ◌*◌, ◌≤◌, Bool, true, false, List, [], ◌∷◌, replicate, refl, sym, subst, ◌∙◌}
use Rattle.std.specs.declared.option.Option.{Option}
use Rattle.std.specs.declared.option.Option.TheVariants.{None}
use Rattle.lvdc_port.specs.Device.{Device}
use Rattle.lvdc_plain.specs.Run.{Opening, IsOpening}
use Rattle.lvdc_plain.specs.View as plain_view
use Rattle.lvdc_fault.specs.declared.named.Named.{Named}
use Rattle.lvdc_fault.specs.declared.verdict.Verdict.{Verdict}
use Rattle.lvdc_fault.specs.declared.verdict.Verdict.TheVariants.{Admissible}
use Rattle.lvdc_withstands.specs.Form.{masks}
use Rattle.lvdc_model.specs.declared.repair.Repair.{Repair}
use Rattle.lvdc_model.specs.Judging.{first_bad}
use Rattle.lvdc_model.specs.Runs.{through}
use Rattle.lvdc_model.specs.Trial.{Trial}
use Rattle.lvdc_withstands.specs.Withstood.{Masked}
use Rattle.lvdc_machine.specs.Shows.{Shows}
use Rattle.lvdc_machine.specs.View.{View}
use Rattle.lvdc_machine.specs.declared.mode.Mode.TheVariants.{Guarded, Through}
use Rattle.lvdc_runs.specs.Scripts.{trial_under}
use Rattle.lvdc_runs.specs.Ran.{HasRun, HasRunPlainly}
use Rattle.lvdc_runs.specs.Window.{IsWindow, TellsAll}
use Rattle.lvdc_study.specs.declared.difference.Difference.{Difference}
use Rattle.lvdc_study.specs.declared.program.Program.{Program}
use Rattle.lvdc_study.specs.Outcomes.{first_difference}
use Rattle.lvdc_study.specs.Rejoins.{TellsMisled, TellsRejoined}
use Rattle.lvdc_study.specs.Waypoints.{HasReplayed}
use Rattle.lvdc_study.specs.Study.{opening_over, row_with, row_of, IsSame}

row-is : (opening : Opening) (times : ℕ) (named : Named) (verdict : Verdict) (difference : Option Difference) (counts : List (List ℕ)) (repairs : List Repair) (form : Bool)
    → verdict ≡ first_bad (trial_under opening named.script) times → difference ≡ first_difference (trial_under opening named.script) times
    → counts ≡ (through (trial_under opening named.script) (3 * times)).counts → repairs ≡ (through (trial_under opening named.script) (3 * times)).repairs
    → form ≡ masks named.script opening.banks times → row_with named.name verdict difference counts repairs form ≡ row_of opening times named
row-is opening times named verdict difference counts repairs form v d c r f = λ i. row_with named.name (v i) (d i) (c i) (r i) (f i)

-- where a machine has judged the times in which the events of a script act, and its verdict is Admissible
pub admissible-row : (p : Program) (devices : List Device) (named : Named) (judged : View) (times : ℕ) → IsWindow named.script times p.count
    → HasRun Guarded (trial_under (opening_over p devices) named.script) times judged
    → (verdict : Verdict) → ((o : Trial) (times : ℕ) → HasRun Guarded o times judged → verdict ≡ first_bad o times)
    → (form : Bool) → form ≡ masks named.script p.banks p.count → verdict ≡ Admissible
    → ((o : Trial) (times : ℕ) → IsOpening o.opening → first_bad o times ≡ Admissible → IsSame o times)
    → ((o : Trial) (times count : ℕ) → IsOpening o.opening → IsWindow o.script times count → first_bad o times ≡ Admissible → TellsAll o times count)
    → ((o : Trial) (times : ℕ) (m : View) → HasRun Guarded o times m → first_bad o times ≡ Admissible
    → (m.counts ≡ (through o (3 * times)).counts) × (m.repairs ≡ (through o (3 * times)).repairs))
    → row_with named.name verdict None judged.counts judged.repairs form ≡ row_of (opening_over p devices) p.count named
admissible-row p devices named judged times window run verdict tells form is_form admitted same tells-all done =
    let o = trial_under (opening_over p devices) named.script in
    let good = sym (tells o times run) ∙ admitted in
    let all = tells-all o times p.count run.opening window good in
    let counted = done o times judged run good in
    row-is (opening_over p devices) p.count named verdict None judged.counts judged.repairs form (admitted ∙ sym all.admissible)
    (sym (same o p.count run.opening all.admissible).difference) (counted.0 ∙ all.counts) (counted.1 ∙ all.repairs) is_form

-- where no event is in the run
pub idle-row : (p : Program) (devices : List Device) (named : Named) (form : Bool) (times : ℕ) → times ≡ 0 → IsWindow named.script times p.count
    → IsOpening (opening_over p devices) → form ≡ masks named.script p.banks p.count
    → ((o : Trial) (times : ℕ) → IsOpening o.opening → first_bad o times ≡ Admissible → IsSame o times)
    → ((o : Trial) (times count : ℕ) → IsOpening o.opening → IsWindow o.script times count → first_bad o times ≡ Admissible → TellsAll o times count)
    → row_with named.name Admissible None (replicate 7 (0 ∷ 0 ∷ 0 ∷ [])) [] form ≡ row_of (opening_over p devices) p.count named
idle-row p devices named form times none window opens is_form same tells-all =
    let o = trial_under (opening_over p devices) named.script in
    let all = tells-all o 0 p.count opens (subst (λ (times : ℕ). IsWindow named.script times p.count) none window) refl in
    row-is (opening_over p devices) p.count named Admissible None (replicate 7 (0 ∷ 0 ∷ 0 ∷ [])) [] form (sym all.admissible)
    (sym (same o p.count opens all.admissible).difference) all.counts all.repairs is_form

-- where a script masks by form, and a machine has replayed the times in which its events act
pub replayed-row : (p : Program) (devices : List Device) (named : Named) (made : View) (times lines : ℕ) → IsWindow named.script times p.count
    → IsOpening (opening_over p devices) → masks named.script p.banks p.count ≡ true
    → HasReplayed (trial_under (opening_over p devices) named.script) times lines made
    → ((o : Trial) (times : ℕ) → IsOpening o.opening → first_bad o times ≡ Admissible → IsSame o times)
    → ((o : Trial) (count : ℕ) → IsOpening o.opening → masks o.script o.opening.banks count ≡ true → Masked o count)
    → ((o : Trial) (times count : ℕ) → IsOpening o.opening → IsWindow o.script times count → first_bad o times ≡ Admissible → TellsAll o times count)
    → ((o : Trial) (times lines : ℕ) (m : View) → IsOpening o.opening → HasReplayed o times lines m → first_bad o times ≡ Admissible
    → (m.counts ≡ (through o (3 * times)).counts) × (m.repairs ≡ (through o (3 * times)).repairs))
    → ((o : Trial) (times count : ℕ) → times ≤ count → first_bad o count ≡ Admissible → first_bad o times ≡ Admissible)
    → row_with named.name Admissible None made.counts made.repairs true ≡ row_of (opening_over p devices) p.count named
replayed-row p devices named made times lines window opens form h same masked tells-all counted early =
    let o = trial_under (opening_over p devices) named.script in
    let whole = (masked o p.count opens form).verdict in
    let good = early o times p.count window.within whole in
    let all = tells-all o times p.count opens window good in
    let told = counted o times lines made opens h good in
    row-is (opening_over p devices) p.count named Admissible None made.counts made.repairs true (sym whole) (sym (same o p.count opens whole).difference)
    (told.0 ∙ all.counts) (told.1 ∙ all.repairs) (sym form)

-- where a script doesn't mask by form, and a machine tells what its run comes to
pub misled-row : (p : Program) (devices : List Device) (named : Named) (said : Verdict) (m : View) → masks named.script p.banks p.count ≡ false
    → TellsMisled (trial_under (opening_over p devices) named.script) p.count said m
    → row_with named.name said None m.counts m.repairs false ≡ row_of (opening_over p devices) p.count named
misled-row p devices named said m form h =
    row-is (opening_over p devices) p.count named said None m.counts m.repairs false h.verdict (sym h.rejoined.difference) h.rejoined.counts h.rejoined.repairs (sym form)

-- a machine has judged a script over these devices, and this is what it tells of the verdict; and whether the script masks by form is this
module _ (p : Program) (devices : List Device) (named : Named) (judged : View) (run : HasRun Guarded (trial_under (opening_over p devices) named.script) p.count judged)
    (verdict : Verdict) (tells : (o : Trial) (times : ℕ) → HasRun Guarded o times judged → verdict ≡ first_bad o times)
    (form : Bool) (is_form : form ≡ masks named.script p.banks p.count) where
  abbrev o : Trial
  o = trial_under (opening_over p devices) named.script

  -- the machine has gone through every fault
  pub through-row : (m : View) → HasRun Through o p.count m
      → ((o : Trial) (times : ℕ) (m : View) (h : HasRun Through o times m) → Shows o m h.left (through o (3 * times)))
      → (plain : plain_view.View) → HasRunPlainly (opening_over p devices) p.count plain
      → (difference : Option Difference)
      → ((o : Trial) (times : ℕ) → HasRun Through o times m → HasRunPlainly o.opening times plain → difference ≡ first_difference o times)
      → row_with named.name verdict difference m.counts m.repairs form ≡ row_of (opening_over p devices) p.count named
  through-row m gone shows plain ran difference differs =
      let shown = shows o p.count m gone in
      row-is (opening_over p devices) p.count named verdict difference m.counts m.repairs form (tells o p.count run) (differs o p.count gone ran)
      shown.counts shown.repairs is_form

  -- a machine has gone through faults until its run had rejoined the plain run
  pub rejoined-row : (m : View) → TellsRejoined o p.count m → row_with named.name verdict None m.counts m.repairs form ≡ row_of (opening_over p devices) p.count named
  rejoined-row m h =
      row-is (opening_over p devices) p.count named verdict None m.counts m.repairs form (tells o p.count run) (sym h.difference) h.counts h.repairs is_form

  -- a script that masks by form is admissible
  pub form-admits : ((o : Trial) (count : ℕ) → IsOpening o.opening → masks o.script o.opening.banks count ≡ true → Masked o count)
      → form ≡ true → verdict ≡ Admissible
  form-admits law masking = tells o p.count run ∙ (law o p.count run.opening (sym is_form ∙ masking)).verdict
