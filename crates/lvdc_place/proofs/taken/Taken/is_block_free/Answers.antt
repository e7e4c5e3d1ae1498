-- A run of the block's size is the block.
use Rattle.std.proofs.Common.{sym, ◌∙◌, arith, inl, inr}
use Rattle.std.proofs.lemmas.Bool.{cases_lt, eq-eqb, ne_eqb}
use Rattle.lvdc_place.specs.Slots.{set_of}
use Rattle.lvdc_place.proofs.Runs.{free-all, taken-at}
use Rattle.lvdc_place.proofs.taken.Taken.is_block_free.Goals as goal

pub returns : goal.returns
returns c =
    let run = c.free_run.result in
    let size = c.args.size in
    elim (cases_lt run size) [
      | inl short ↦
          ne_eqb run size (λ same. omega arith)
          ∙ sym (taken-at (set_of c.args.self.now) c.args.kind.now size c.args.first run short (c.free_run.ensures.end short))
      | inr whole ↦
          eq-eqb run size (omega (arith, c.free_run.ensures.most))
          ∙ sym (free-all (set_of c.args.self.now) c.args.kind.now size c.args.first (record { free = λ k below. c.free_run.ensures.free k (omega arith) }))
    ]
