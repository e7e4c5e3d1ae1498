use Rattle.std.proofs.Common.{◌≡◌, ◌<◌, ◌≤◌, length, take, min, refl, sym, ◌∙◌, ap, arith}
use Rattle.std.specs.Prelude.{slice_index_or}
use Rattle.std.proofs.lemmas.Option.{slice_get_read, get_or_from_slice_get}
use Rattle.lvdc_vote.specs.Harms.{patched_at, patched_all, no_patch}
use Rattle.lvdc_vote.proofs.Harms.{patched_next, patched_enough}
use Rattle.lvdc_vote.proofs.harm.patch_all.Goals as goal

pub loop-index-preserved : goal.loop-index-preserved
loop-index-preserved g c =
    let i = c.loop-index.index in
    let patches = c.args.patches.now in
    let words = g.S.Vote.latches c.args.state.now in
    let count = g.met.S.Vote.counted c.args.state.now in
    let five = c.type_inv.patches in
    let below = c.loop-index-test.true in
    let end = c.min-index-end.ensures in
    let inside : i < length words = omega (arith, below, end, count, c.LATCHES.ensures) in
    let there : i < length patches = omega (arith, below, end, five) in
    let at : slice_index_or patches i no_patch ≡ c.index-patches-from.result =
    get_or_from_slice_get patches i c.index-patches-from.result no_patch
    (slice_get_read patches (length patches) i c.index-patches-from.result refl there (c.index-patches-from.is ∙ ap (λ n. slice_index_or patches n c.index-patches-from.result) c.from.ensures)) in
    c.patch_latch-patched.ensures
    ∙ ap (λ p. patched_at (g.S.Vote.latches c.loop-index.patched) i p) (sym c.index-patches-from.is)
    ∙ ap (λ ws. patched_at ws i c.index-patches-from.result) c.loop-index.invariant
    ∙ ap (λ p. patched_at (patched_all (take i patches) words) i p) (sym at)
    ∙ patched_next patches words i inside there

pub returns : goal.returns
returns g c =
    let patches = c.args.patches.now in
    let words = g.S.Vote.latches c.args.state.now in
    let count = g.met.S.Vote.counted c.args.state.now in
    let five = c.type_inv.patches in
    let enough : min (length words) (length patches) ≤ c.loop-index.index =
    omega (arith, c.loop-index-test.false, c.min-index-end.ensures, count, c.LATCHES.ensures, five) in
    c.loop-index.invariant ∙ patched_enough patches words c.loop-index.index enough
