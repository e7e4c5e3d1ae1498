-- What is noted of a step comes after what was noted before.
use Rattle.std.proofs.Common.{◌≡◌, ℕ, zero, suc, ◌+◌, ◌/◌, ◌≤◌, ◌<◌, Bool, true, List, [], ◌∷◌, ◌++◌, All, drop, slice_get, refl, sym, ap, ◌∙◌, append_assoc, arith}
use Rattle.std.specs.Prelude.{AllPairs, IfSome}
use Rattle.std.specs.declared.option.Option.{Option}
use Rattle.std.specs.declared.option.Option.TheVariants.{None, Some}
use Rattle.std.proofs.lemmas.List.{drop_more}
use Rattle.std.proofs.lemmas.List.Elements.{All-nil, All-push}
use Rattle.std.proofs.lemmas.Option.{slice_get_within, get_or_from_slice_get}
use Rattle.std.proofs.lemmas.List.Kept.{AllPairs-cons}
use Rattle.lvdc_map.specs.Address.{Spot}
use Rattle.lvdc_map.specs.Banks.{is_there}
use Rattle.lvdc_plain.specs.declared.records.Exchange.{Exchange}
use Rattle.lvdc_model.specs.Exchanges.{stop_of}
use Rattle.lvdc_model.specs.declared.outcome.Outcome.{Outcome}
use Rattle.lvdc_model.specs.declared.repair.Repair.{Repair}
use Rattle.lvdc_snapshot.specs.Notes.{IsLog, IsRepairOfStep, AreRepairs}
use Rattle.lvdc_machine.specs.Steps.{noted, repair_noted}

-- one item more, that all others stand in the relation to
pairs-push : {X : Type 0} (R : X → X → Type 0) (xs : List X) (x : X) → All (λ y. R y x) xs → AllPairs R xs → AllPairs R (xs ++ x ∷ [])
pairs-push R [] x last h = λ i j d less within. absurd (omega (arith, less, within))
pairs-push R (y ∷ ys) x last h =
    AllPairs-cons R y (ys ++ x ∷ [])
    (All-push (R y) ys x (λ k d less. h 0 (suc k) d (omega arith) (omega (arith, less))) (last 0 y (omega arith)))
    (pairs-push R ys x (λ k d less. last (suc k) d (omega (arith, less))) (λ i j d less within. h (suc i) (suc j) d (omega (arith, less)) (omega (arith, within))))

-- a line of this time keeps a log a log of the steps made
pub log-noted : (steps : ℕ) (log : List Exchange) (line : Option Exchange) → IfSome line (λ l. l.time ≡ steps / 3) → IsLog ((steps + 2) / 3) log
    → IsLog ((steps + 1 + 2) / 3) (noted log line)
log-noted steps log None dated h = record { below = λ k d less. let before = h.below k d less in omega (arith, before); order = h.order }
log-noted steps log (Some line) dated h = record {
  below = All-push (λ l. l.time < (steps + 1 + 2) / 3) log line (λ k d less. let before = h.below k d less in omega (arith, before)) (omega (arith, dated));
  order = pairs-push (λ before after. before.time ≤ after.time) log line (λ k d less. let before = h.below k d less in omega (arith, before, dated)) h.order;
}

-- a repair of this step keeps repairs those of the steps made
pub repairs-noted : (banks steps : ℕ) (repairs : List Repair) (repair : Option Repair) → IfSome repair (IsRepairOfStep banks steps) → AreRepairs banks steps repairs
    → AreRepairs banks (steps + 1) (noted repairs repair)
repairs-noted banks steps repairs None is h = record {
  below = λ k d less. let before = h.below k d less in omega (arith, before);
  order = h.order;
  twins = h.twins;
  there = h.there;
}
repairs-noted banks steps repairs (Some repair) is h =
    let dated = is.dated in
    record {
      below = All-push (λ r. r.step < steps + 1) repairs repair (λ k d less. let before = h.below k d less in omega (arith, before)) (omega (arith, dated));
      order = pairs-push (λ before after. before.step < after.step) repairs repair (λ k d less. let before = h.below k d less in omega (arith, before, dated)) h.order;
      twins = All-push (λ r. r.twin < 2) repairs repair h.twins is.twin;
      there = All-push (λ r. is_there banks r.at ≡ true) repairs repair h.there is.there;
    }

-- what a read notes
pub read-noted : (banks steps : ℕ) (twin : Option ℕ) (at : Spot) (switched : Bool) → IfSome twin (λ t. t < 2) → is_there banks at ≡ true
    → IfSome (repair_noted twin steps at switched) (IsRepairOfStep banks steps)
read-noted banks steps None at switched two there = tt
read-noted banks steps (Some twin) at switched two there = record { dated = refl; twin = two; there = there }

-- where no stop came, the vote is against one
pub goes-on : (k steps : ℕ) (end : Option Outcome) → end ≡ stop_of k steps → end ≡ None → k ≡ 0
goes-on zero steps end is none = refl
goes-on (suc zero) steps end is none = absurd (cc (is, none))
goes-on (suc (suc k)) steps end is none = absurd (cc (is, none))

-- ---- before the first step

-- an empty log is one
pub no-log : (times : ℕ) → IsLog times []
no-log times = record { below = All-nil (λ l. l.time < times); order = λ i j d less within. absurd (omega (arith, less, within)) }

-- no repairs are repairs of the steps made
pub no-repairs : (banks steps : ℕ) → AreRepairs banks steps []
no-repairs banks steps = record {
  below = All-nil (λ r. r.step < steps);
  order = λ i j d less within. absurd (omega (arith, less, within));
  twins = All-nil (λ r. r.twin < 2);
  there = All-nil (λ r. is_there banks r.at ≡ true);
}

-- one more item of the list
pub again-more : {A : Type 0} (whole so_far next : List A) (at : ℕ) (item : A) → slice_get whole at ≡ Some item → next ≡ so_far ++ item ∷ []
    → so_far ++ drop at whole ≡ whole → next ++ drop (at + 1) whole ≡ whole
again-more whole so_far next at item is made e =
    let front : drop at whole ≡ item ∷ drop (at + 1) whole =
    drop_more whole at item (slice_get_within whole at item is) ∙ ap (λ x. x ∷ drop (at + 1) whole) (get_or_from_slice_get whole at item item is) in
    ap (λ t. t ++ drop (at + 1) whole) made ∙ append_assoc so_far (item ∷ []) (drop (at + 1) whole) ∙ ap (λ t. so_far ++ t) (sym front) ∙ e
