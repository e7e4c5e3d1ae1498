-- One use of bytes after another.
use Rattle.std.proofs.Common.{◌≡◌, ℕ, List, [], ◌++◌, refl, sym, ap, ◌∙◌, append_assoc}
use Rattle.std.specs.declared.option.Option.{Option}
use Rattle.std.specs.Io.KnownBytes.{Consumes}
use Rattle.std.proofs.lemmas.List.{append-nil}
use Rattle.lvdc_text.proofs.Transfers.{consumes_none, consumes_more}
use Rattle.lvdc_service.specs.Reading.{Uses}

-- nothing was used, and nothing was taken
pub uses_none : (held : List ℕ) (left : Option (List ℕ)) → Uses held left held left []
uses_none held left = record { taken = []; consumed = consumes_none left; kept = append-nil held }

-- what was taken is held
pub uses_taken : {left now : Option (List ℕ)} (held_now : List ℕ) → Consumes left now held_now → Uses [] left held_now now []
uses_taken held_now took = record { taken = held_now; consumed = took; kept = refl }

-- what was held was used
pub uses_held : {held held_now : List ℕ} (left : Option (List ℕ)) (used : List ℕ) → held ≡ used ++ held_now → Uses held left held_now left used
uses_held {held} {held_now} left used e = record { taken = []; consumed = consumes_none left; kept = append-nil held ∙ e }

regroup : (held taken more used later now last : List ℕ) → held ++ taken ≡ used ++ now → now ++ more ≡ later ++ last → held ++ (taken ++ more) ≡ (used ++ later) ++ last
regroup held taken more used later now last e f =
    sym (append_assoc held taken more) ∙ ap (λ bytes. bytes ++ more) e ∙ append_assoc used now more ∙ ap (λ bytes. used ++ bytes) f ∙ sym (append_assoc used later last)

-- the bytes that were used first, and those that were used then
pub uses_more : {held now last used later : List ℕ} {left left_now left_last : Option (List ℕ)}
    → Uses held left now left_now used → Uses now left_now last left_last later → Uses held left last left_last (used ++ later)
uses_more {held} {now} {last} {used} {later} {left} {left_now} {left_last} a b = record {
  taken = a.taken ++ b.taken;
  consumed = consumes_more left left_now left_last a.taken b.taken a.consumed b.consumed;
  kept = regroup held a.taken b.taken used later now last a.kept b.kept;
}

-- none were used after these
pub uses_same : {held now last used : List ℕ} {left left_now left_last : Option (List ℕ)}
    → Uses held left now left_now used → Uses now left_now last left_last [] → Uses held left last left_last used
uses_same {held} {now} {last} {used} a b =
    let c = uses_more a b in
    record { taken = c.taken; consumed = c.consumed; kept = c.kept ∙ ap (λ (bytes : List ℕ). bytes ++ last) (append-nil used) }
