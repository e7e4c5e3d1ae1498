use Rattle.std.proofs.Common.{◌≡◌, ℕ, ◌+◌, ◌∙◌, Bool, true, false, refl, sym, ap, add-one, arith}
use Rattle.std.specs.Prelude.{◌||◌, not, ◌==◌}
use Rattle.lvdc_vote.specs.Numbers.{latches_of}
use Rattle.lvdc_logic.specs.Logic.{vote_at}
use Rattle.lvdc_trace.specs.Steps.{any_below}
use Rattle.lvdc_trace.proofs.votes.has_changed.Goals.{then-changed, else-changed}
use Rattle.lvdc_trace.proofs.votes.has_changed.Goals as goal

-- one number more, by what is so of those below it and of it
one-more : (so : ℕ → Bool) (n : ℕ) (below here : Bool) → any_below so n ≡ below → so n ≡ here → any_below so (n + 1) ≡ (below || here)
one-more so n below here b h = rw add-one (λ i. b i || h i)

pub loop-index-preserved : goal.loop-index-preserved
loop-index-preserved c = λ copies are.
    let so : ℕ → Bool = λ index. not (vote_at c.args.machine.now.copies c.args.number index == vote_at copies c.args.number index) in
    let before = c.loop-index.invariant copies are in
    elim c.if-changed.branch [
      | then-changed w ↦ w.changed-is ∙ w.if-changed.true ∙ sym (one-more so c.loop-index.index true (so c.loop-index.index) (sym before ∙ w.if-changed.true) refl)
      | else-changed w ↦ w.changed-is ∙ w.is_other-changed.ensures copies are
          ∙ sym (one-more so c.loop-index.index false (so c.loop-index.index) (sym before ∙ w.if-changed.false) refl)
    ]

pub returns : goal.returns
returns c = λ copies are.
    let all : c.loop-index.index ≡ latches_of c.args.number = omega (arith, c.loop-index-test.false, c.loop-index.auto.index-end, c.latches-index-end.ensures) in
    c.loop-index.invariant copies are
    ∙ ap (any_below (λ index. not (vote_at c.args.machine.now.copies c.args.number index == vote_at copies c.args.number index))) all
