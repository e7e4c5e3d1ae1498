use Rattle.std.proofs.Common.{◌≡◌, ℕ, ◌+◌, ◌-◌, ◌*◌, ◌/◌, ◌%◌, ◌∙◌, arith}
use Rattle.lvdc_fault.specs.Script.{is_wrong}
use Rattle.lvdc_forces.specs.InForce.{mark_at}
use Rattle.lvdc_forces.proofs.forces.Forces.has.Goals as goal

pub returns : goal.returns
returns c script step known =
    let m = c.args.number in
    let k = c.args.copy in
    let n : ℕ = 3 * (m - 1) + (k - 1) in
    let first : n / 3 + 1 ≡ m = omega (arith, c.requires.first_number, c.requires.first_copy, c.requires.last_copy) in
    let second : n % 3 + 1 ≡ k = omega (arith, c.requires.first_number, c.requires.first_copy, c.requires.last_copy) in
    (λ j. mark_at c.args.self.now.known.force.marks (3 * c.from.ensures j + c.from-2.ensures j))
    ∙ known.marks n (omega (arith, c.requires.last_number, c.requires.first_number, c.requires.last_copy))
    ∙ (λ j. is_wrong script step (first j) (second j))
