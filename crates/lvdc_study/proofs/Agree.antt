-- Where no difference is told, the run is the same as the plain run, and the other way round.
use Rattle.std.proofs.Common.{◌≡◌, ℕ, zero, suc, ◌*◌, min, Bool, true, false, ◌&&◌, is_none, List, [], ◌∷◌, refl, ap, ◌∙◌}
use Rattle.std.specs.Bool.{if◌then◌else◌}
use Rattle.std.specs.declared.option.Option.{Option}
use Rattle.std.specs.declared.option.Option.TheVariants.{None, Some}
use Rattle.lvdc_map.specs.Address.{Spot, spot_at}
use Rattle.lvdc_map.specs.Memory.{Memory}
use Rattle.lvdc_plain.specs.declared.records.Exchange.{Exchange}
use Rattle.lvdc_model.specs.Runs.{through}
use Rattle.lvdc_model.specs.Trial.{Trial, plain_at}
use Rattle.lvdc_report.specs.Report.{visible_in}
use Rattle.lvdc_report.specs.Voted.{visible_of}
use Rattle.lvdc_runs.specs.Same.{is_same}
use Rattle.lvdc_runs.specs.Same.{are_same_registers, is_same_exchange, is_same_log, end_in, is_same_end, is_same_word, are_same_below}
use Rattle.lvdc_study.specs.Outcomes.{time_of_difference, least_by, least_below, address_of_difference, difference_by, first_difference}

pub none-is : {A : Type 0} (o : Option A) → is_none o ≡ true → o ≡ None
none-is None e = refl
none-is (Some a) e = absurd (cc (e))

log-agrees : (xs ys : List Exchange) → is_none (time_of_difference xs ys) ≡ is_same_log xs ys
log-agrees [] [] = refl
log-agrees [] (y ∷ ys) = refl
log-agrees (x ∷ xs) [] = refl
log-agrees (x ∷ xs) (y ∷ ys) = by_line (is_same_exchange x y) (log-agrees xs ys)
  where
    by_line : (same : Bool) → is_none (time_of_difference xs ys) ≡ is_same_log xs ys
        → is_none (if same then time_of_difference xs ys else Some (min x.time y.time)) ≡ (same && is_same_log xs ys)
    by_line true later = later
    by_line false later = refl

least-agrees : (least : Option Spot) (same : Bool) (at : Spot) → is_none (least_by least same at) ≡ (is_none least && same)
least-agrees (Some earlier) same at = refl
least-agrees None true at = refl
least-agrees None false at = refl

words-agree : (banks : ℕ) (one other : Memory) (n : ℕ) → is_none (least_below banks one other n) ≡ are_same_below banks one other n
unfolding least_below are_same_below
words-agree banks one other zero = refl
words-agree banks one other (suc n) =
    least-agrees (least_below banks one other n) (is_same_word banks one other (spot_at n)) (spot_at n)
    ∙ ap (λ b. b && is_same_word banks one other (spot_at n)) (words-agree banks one other n)

parts-agree : (ends : Bool) (time : Option ℕ) (registers : Bool) (at : Option Spot)
    → is_none (difference_by ends time registers at) ≡ (ends && registers && is_none time && is_none at)
parts-agree false time registers at = refl
parts-agree true (Some time) true at = refl
parts-agree true (Some time) false at = refl
parts-agree true None false at = refl
parts-agree true None true (Some at) = refl
parts-agree true None true None = refl

pub none-same : (o : Trial) (times : ℕ) → is_none (first_difference o times) ≡ is_same o times
none-same o times =
    let v = through o (3 * times) in
    let p = plain_at o times in
    let log = log-agrees v.log p.log in
    let words = words-agree o.opening.banks v.intended p.memory 32768 in
    parts-agree (is_same_end v.end (end_in p)) (time_of_difference v.log p.log) (are_same_registers (visible_of v) (visible_in p))
    (address_of_difference o.opening.banks v.intended p.memory)
    ∙ (λ i. is_same_end v.end (end_in p) && are_same_registers (visible_of v) (visible_in p) && log i && words i)
