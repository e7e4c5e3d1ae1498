use Rattle.std.proofs.Common.{refl, sym, ◌∙◌}
use Rattle.std.specs.Option.{option_map}
use Rattle.std.specs.Prelude.{unwrap_or}
use Rattle.lvdc_vote.proofs.Differences.{kept_none, kept_one, kept_two, kept_three, meant_kept, latched_words, sized_beside}
use Rattle.lvdc_vote.proofs.triple.Triple.settle.Goals as goal

pub keep-requires-in-false-false-false : goal.keep-requires-in-false-false-false
keep-requires-in-false-false-false g c = kept_none (g.M.State.Vote.latches c.args.state)

pub keep-requires : goal.keep-requires
keep-requires g c =
    let f = g.M.State.Vote.latches in
    let count = g.met.M.State.Vote.counted in
    let t = c.self.inside in
    let words = f c.args.state in
    rw c.beside-one.ensures
    (kept_one words (unwrap_or (option_map f t.shadow_one) (unwrap_or (option_map f t.first) words))
    (sized_beside f g.M.State.Vote.LATCHES count t.shadow_one t.first c.args.state ∙ sym (count c.args.state)))

pub returns-in-true-false-false-clause-value : goal.returns-in-true-false-false-clause-value
returns-in-true-false-false-clause-value g c =
    let f = g.M.State.Vote.latches in
    let t = c.self.inside in
    let words = f c.args.state in
    let own = option_map f t.shadow_one in
    let first = option_map f t.first in
    c.keep.ensures.value
    ∙ rw (
      c.beside-one.ensures,
      meant_kept (unwrap_or own (unwrap_or first words)) words,
      ← c.self.view_is,
      latched_words t.latched_one own first words c.in-true-false-false.is-0 (c.self.invariant.marked_one c.in-true-false-false.is-0),
      c.in-true-false-false.is-1,
      c.in-true-false-false.is-2,
    ) refl

pub keep-requires-in-false-true-false : goal.keep-requires-in-false-true-false
keep-requires-in-false-true-false g c =
    let f = g.M.State.Vote.latches in
    let count = g.met.M.State.Vote.counted in
    let t = c.self.inside in
    let words = f c.args.state in
    rw c.beside-two.ensures
    (kept_two words (unwrap_or (option_map f t.shadow_two) (unwrap_or (option_map f t.first) words))
    (sized_beside f g.M.State.Vote.LATCHES count t.shadow_two t.first c.args.state ∙ sym (count c.args.state)))

pub returns-in-false-true-false-clause-value : goal.returns-in-false-true-false-clause-value
returns-in-false-true-false-clause-value g c =
    let f = g.M.State.Vote.latches in
    let t = c.self.inside in
    let words = f c.args.state in
    let own = option_map f t.shadow_two in
    let first = option_map f t.first in
    c.keep-in-false-true-false.ensures.value
    ∙ rw (
      c.beside-two.ensures,
      meant_kept (unwrap_or own (unwrap_or first words)) words,
      ← c.self.view_is,
      latched_words t.latched_two own first words c.in-false-true-false.is-1 (c.self.invariant.marked_two c.in-false-true-false.is-1),
      c.in-false-true-false.is-0,
      c.in-false-true-false.is-2,
    ) refl

pub keep-requires-in-false-false-true : goal.keep-requires-in-false-false-true
keep-requires-in-false-false-true g c =
    let f = g.M.State.Vote.latches in
    let count = g.met.M.State.Vote.counted in
    let t = c.self.inside in
    let words = f c.args.state in
    rw c.beside-three.ensures
    (kept_three words (unwrap_or (option_map f t.shadow_three) (unwrap_or (option_map f t.first) words))
    (sized_beside f g.M.State.Vote.LATCHES count t.shadow_three t.first c.args.state ∙ sym (count c.args.state)))

pub returns-in-false-false-true-clause-value : goal.returns-in-false-false-true-clause-value
returns-in-false-false-true-clause-value g c =
    let f = g.M.State.Vote.latches in
    let t = c.self.inside in
    let words = f c.args.state in
    let own = option_map f t.shadow_three in
    let first = option_map f t.first in
    c.keep-in-false-false-true.ensures.value
    ∙ rw (
      c.beside-three.ensures,
      meant_kept (unwrap_or own (unwrap_or first words)) words,
      ← c.self.view_is,
      latched_words t.latched_three own first words c.in-false-false-true.is-2 (c.self.invariant.marked_three c.in-false-false-true.is-2),
      c.in-false-false-true.is-0,
      c.in-false-false-true.is-1,
    ) refl
