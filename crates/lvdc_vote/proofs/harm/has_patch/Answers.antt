use Rattle.std.proofs.Common.{◌≡◌, ◌<◌, ◌≤◌, length, take, min, refl, sym, ◌∙◌, ap, arith}
use Rattle.std.specs.Prelude.{slice_index_or}
use Rattle.std.proofs.lemmas.Option.{slice_get_read, get_or_from_slice_get}
use Rattle.lvdc_vote.specs.Harms.{patched_at, patched_all, no_patch}
use Rattle.lvdc_vote.proofs.Harms.{patched_at_none, patched_next, patched_enough}
use Rattle.lvdc_vote.proofs.harm.has_patch.Goals as goal

pub loop-index-preserved : goal.loop-index-preserved
loop-index-preserved g c state =
    let i = c.loop-index.index in
    let patches = c.args.patches.now in
    let words = g.S.Vote.latches state in
    let count = g.met.S.Vote.counted state in
    let five = c.type_inv.patches in
    let below = c.loop-index-test.true in
    let end = c.min-index-end.ensures in
    let inside : i < length words = omega (arith, below, end, count, c.LATCHES.ensures) in
    let there : i < length patches = omega (arith, below, end, five) in
    let at : slice_index_or patches i no_patch ≡ c.index-patches-from.result =
    get_or_from_slice_get patches i c.index-patches-from.result no_patch
    (slice_get_read patches (length patches) i c.index-patches-from.result refl there (c.index-patches-from.is ∙ ap (λ n. slice_index_or patches n c.index-patches-from.result) c.from.ensures)) in
    let none : c.index-patches-from.result ≡ no_patch = c.index-patches-from.is ∙ c.is_none.ensures.0 c.if-not-is_none.false in
    let before = patched_all (take i patches) words in
    sym (patched_next patches words i inside there)
    ∙ ap (λ p. patched_at before i p) (at ∙ none)
    ∙ patched_at_none before i
    ∙ c.loop-index.invariant state

pub returns : goal.returns
returns g c same state =
    let patches = c.args.patches.now in
    let words = g.S.Vote.latches state in
    let count = g.met.S.Vote.counted state in
    let five = c.type_inv.patches in
    let enough : min (length words) (length patches) ≤ c.loop-index.index =
    omega (arith, c.loop-index-test.false, c.min-index-end.ensures, count, c.LATCHES.ensures, five) in
    sym (patched_enough patches words c.loop-index.index enough) ∙ c.loop-index.invariant state
