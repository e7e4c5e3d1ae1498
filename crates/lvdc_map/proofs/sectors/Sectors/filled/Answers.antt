-- No sector has a page of its own yet.
use Rattle.std.proofs.Common.{◌≡◌, ℕ, ◌-◌, ◌/◌, ◌++◌, List, take, ap, refl, ◌∙◌, arith}
use Rattle.std.proofs.Math.ListN.{replicate}
use Rattle.std.proofs.lemmas.List.{get_or-replicate}
use Rattle.lvdc_map.proofs.Paging.{paged-first, blank-there}
use Rattle.lvdc_map.proofs.sectors.Sectors.filled.Goals as goal

all-blank : (g : _) (c : goal.In_ok-resize g) → c.resize.new.self.items ≡ replicate 256 c.args.blank
all-blank g c =
    let new : 256 - c.in_ok-items.items.len ≡ 256 = omega (arith, c.in_ok-items.ensures.len) in
    c.in_ok-resize.ensures.items ∙ ap (λ (xs : List _). take 256 xs ++ replicate (256 - c.in_ok-items.items.len) c.args.blank) c.in_ok-items.ensures.items
    ∙ ap (λ (n : ℕ). replicate n c.args.blank) new

pub invariant_of-result : goal.invariant_of-result
invariant_of-result g c = (
  paged-first c.args.blank (replicate 128 0) c.resize.new.self.items refl (all-blank g c),
  refl,
  omega (arith, c.in_ok-resize.ensures.capacity, c.in_ok-items.ensures.capacity),
)

pub returns-clause-all : goal.returns-clause-all
returns-clause-all g c place d small =
    blank-there c.args.blank (replicate 128 0) c.resize.new.self.items place d small
    (paged-first c.args.blank (replicate 128 0) c.resize.new.self.items refl (all-blank g c)) (get_or-replicate {A = ℕ} 128 (place / 256) 0 0 (omega arith))
