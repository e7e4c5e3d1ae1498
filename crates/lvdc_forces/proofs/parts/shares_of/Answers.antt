use Rattle.std.proofs.Common.{◌≡◌, ℕ, ◌+◌, ◌-◌, ◌/◌, ◌%◌, ◌<◌, take, drop, replicate, sym, ap, subst, ◌∙◌, arith}
use Rattle.std.proofs.lemmas.Option.{slice_get_within, get_or_from_slice_get}
use Rattle.lvdc_fault.specs.Events.{IsEvent}
use Rattle.lvdc_forces.specs.Shares.{share_at, share_next, share_on}
use Rattle.lvdc_forces.specs.declared.shares.Share.{Share}
use Rattle.lvdc_forces.proofs.Joins.{share_more}
use Rattle.lvdc_forces.proofs.PartLaws.{none_yet}
use Rattle.lvdc_forces.proofs.parts.shares_of.Goals as goal

pub loop-position-init : goal.loop-position-init
loop-position-init c =
    record {
      from = omega arith;
      to = c.requires.order;
      shares = subst
          (λ (s : Share). (n : ℕ) → n < 21 → share_at (replicate 21 s) n
          ≡ share_on (take (c.args.from - c.args.from) (drop c.args.from c.args.script.now)) c.args.step (n / 3 + 1) (n % 3 + 1)) (sym c.none-shares.ensures)
          (none_yet c.args.script.now c.args.from c.args.step);
    }

pub add_event-requires : goal.add_event-requires
add_event-requires c =
    let e = c.event.result.now in
    let here = c.event.ensures in
    let position = c.loop-position.position in
    subst IsEvent (get_or_from_slice_get c.args.script.now position e e here) (c.requires.events position e (slice_get_within c.args.script.now position e here))

pub loop-position-preserved : goal.loop-position-preserved
loop-position-preserved c =
    let so_far = c.loop-position.invariant in
    let e = c.event.result.now in
    let step = c.args.step in
    record {
      from = omega (arith, so_far.from);
      to = omega (arith, c.loop-position-test.true);
      shares = λ n h.
          c.add_event.ensures.shares n h ∙ ap (λ (s : Share). share_next step (n / 3 + 1) (n % 3 + 1) s e) (so_far.shares n h)
          ∙ sym (share_more c.args.script.now c.args.from c.loop-position.position step (n / 3 + 1) (n % 3 + 1) e so_far.from c.event.ensures);
    }

pub returns : goal.returns
returns c n h =
    let end : c.loop-position.position ≡ c.args.to = omega (arith, c.loop-position.invariant.to, c.loop-position-test.false) in
    c.loop-position.invariant.shares n h
    ∙ ap (λ (p : ℕ). share_on (take (p - c.args.from) (drop c.args.from c.args.script.now)) c.args.step (n / 3 + 1) (n % 3 + 1)) end
