use Rattle.std.proofs.Common.{◌≡◌, ◌*◌, ◌/◌, [], refl, sym, ap, ◌∙◌, arith}
use Rattle.std.proofs.lemmas.List.{nil_from_length}
use Rattle.lvdc_plain.specs.Run.{run}
use Rattle.lvdc_model.specs.Runs.{guarded}
use Rattle.lvdc_model.specs.Voted.{Voted}
use Rattle.lvdc_runs.specs.Scripts.{trial_under}
use Rattle.lvdc_runs.specs.Stations.{fault_free_at}
use Rattle.lvdc_study.proofs.laws.quiet_waypoints_are_stations.Goals as goal

pub returns : goal.returns
returns c = λ p count w at none.
    let o = trial_under p [] in
    let s = w.snapshot.steps in
    let t = s / 3 in
    let times = at.whole.times in
    let all : 3 * t ≡ s = omega (arith, times) in
    let v = fault_free_at p s in
    let free : v ≡ guarded o s = c.judges_alone.ensures o at.opening s in
    let shows = c.guarded_times.ensures o at.opening t (c.no_faults_no_verdict.ensures o at.opening refl (3 * t)) in
    let plain : v.log ≡ (run p t).plain.log = ap (λ (x : Voted). x.log) (free ∙ ap (guarded o) (sym all)) ∙ shows.log in
    let empty : v.log ≡ [] = plain ∙ nil_from_length (run p t).plain.log (sym at.lines ∙ none) in
    let same = at.same in
    let means = at.means in
    record {
      opening = at.opening;
      whole = at.whole;
      within = at.within;
      banks = at.banks;
      means = record {
        copies = sym (ap (λ (x : Voted). x.copies) same) ∙ means.copies;
        counts = sym (ap (λ (x : Voted). x.counts) same) ∙ means.counts;
        cells = λ twin small place is. ap (λ (x : Voted). x.twins.cells twin place) (sym same) ∙ means.cells twin small place is;
        selected = sym (ap (λ (x : Voted). x.twins.selected) same) ∙ means.selected;
        words = λ x is. ap (λ (u : Voted). u.intended x) (sym same) ∙ means.words x is;
        log = empty ∙ sym at.log;
        repairs = sym (ap (λ (x : Voted). x.repairs) same) ∙ means.repairs;
        steps = sym (ap (λ (x : Voted). x.steps) same) ∙ means.steps;
        end = sym (ap (λ (x : Voted). x.end) same) ∙ means.end;
      };
    }
