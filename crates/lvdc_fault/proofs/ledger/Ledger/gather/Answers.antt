-- Each address's word is taken, unless it is 0.
use Rattle.std.proofs.Common.{◌≡◌, ℕ, ◌<◌, ◌∷◌, [], ◌++◌, get_or, sym, ap, ◌∙◌, subst, arith, add-one}
use Rattle.lvdc_map.specs.Address.{Spot, spot_at, number_of}
use Rattle.lvdc_map.specs.declared.placed.Placed.{Placed}
use Rattle.lvdc_twin.proofs.Holding.{differs, same_as}
use Rattle.lvdc_fault.specs.Ledger.{Intended, NoneElsewhere}
use Rattle.lvdc_fault.proofs.Placing.{words-other, words-more}
use Rattle.lvdc_fault.proofs.ledger.Ledger.gather.Goals as goal
use Rattle.lvdc_fault.proofs.ledger.Ledger.gather.Goals.{then-ne+in_ok-push, else-ne}

pub loop-number-init : goal.loop-number-init
loop-number-init c before = before

pub loop-number-preserved : goal.loop-number-preserved
loop-number-preserved c =
    let n = c.loop-number.number in
    let i = c.args.self.now in
    let small : n < 32768 = omega (arith, c.loop-number-test.true, c.requires) in
    let at : c.numbered-at.result ≡ spot_at n = c.numbered-at.ensures in
    let same : number_of (spot_at n) ≡ n = omega arith in
    let here : c.word-word.result ≡ get_or i.words n 0 =
    c.word-word.ensures.value ∙ ap (λ (k : Spot). get_or c.self.inside.words (number_of k) 0) at
    ∙ ap (λ (k : ℕ). get_or c.self.inside.words k 0) same ∙ ap (λ (l : Intended). get_or l.words n 0) c.self.view_is in
    let elsewhere : NoneElsewhere i.banks i.words = subst (λ (l : Intended). NoneElsewhere l.banks l.words) c.self.view_is c.self.invariant in
    rw add-one (elim c.if-ne.branch [
      | then-ne+in_ok-push w ↦
          let p : Placed = record { at = spot_at n; word = c.word-word.result } in
          let now : c.if-ne.placed.items ≡ c.loop-number.placed.items ++ p ∷ [] =
          ap (λ v. v.items) w.placed-is ∙ w.in_ok-push.ensures.items
          ∙ ap (λ (k : Spot). c.loop-number.placed.items ++ record { at = k; word = c.word-word.result } ∷ []) at in
          rw now (λ before. words-more i.banks i.words n c.loop-number.placed.items p
          (record { pair = omega (arith, small); sector = omega arith; loc = omega arith })
          elsewhere same here (differs c.word-word.result 0 w.if-ne.ensures) (c.loop-number.invariant before))
      | else-ne w ↦
          let now : c.if-ne.placed.items ≡ c.loop-number.placed.items = ap (λ v. v.items) w.placed-is in
          rw now (λ before. words-other i.banks i.words n c.loop-number.placed.items (sym here ∙ same_as c.word-word.result 0 w.if-ne.ensures) (c.loop-number.invariant before))
    ])
