-- The search goes on from where the last one for this size ended.
use Rattle.std.proofs.Common.{◌≡◌, ℕ, ◌≤◌, Bool, List, sym, ap, ◌∙◌}
use Rattle.lvdc_place.specs.Slots.{set_of, is_free_at, least, least_place}
use Rattle.lvdc_place.specs.declared.block.Kind.TheVariants.{Code}
use Rattle.lvdc_place.proofs.Least.{least-finds}
use Rattle.lvdc_place.proofs.Runs.{closed-set_of}
use Rattle.lvdc_place.proofs.Starts.{starts-more, least-from, least_place-large, none-below, none-at-all}
use Rattle.lvdc_place.proofs.search.Search.least_code.Goals as goal
use Rattle.lvdc_place.proofs.search.Search.least_code.Goals.{in-Some, in-None}

pub returns-then-size-gt-SECTOR-clause-place : goal.returns-then-size-gt-SECTOR-clause-place
returns-then-size-gt-SECTOR-clause-place c = sym (least_place-large (set_of c.args.self.now) Code c.args.size (closed-set_of c.args.self.now) c.if-size-gt-SECTOR.true)

pub invariant_of-self : goal.invariant_of-self
invariant_of-self c =
    let starts = c.self.inside.starts in
    let size = c.args.size in
    let small : size ≤ 256 = c.if-size-gt-SECTOR.false in
    let test : ℕ → Bool = is_free_at (set_of c.self.inside.taken) Code size in
    let is : c.least_free-place.result ≡ least_place (set_of c.self.inside.taken) Code size =
    c.least_free-place.ensures.place ∙ least-from c.self.inside.taken starts size c.from.result small c.from.ensures c.self.invariant in
    let found = least-finds test 0 32768 in
    rw c.from-2.ensures (elim c.match-place.branch [
      | in-Some w ↦ rw (w.self-is, w.number.ensures.value)
          (starts-more c.self.inside.taken starts size _ small c.self.invariant (none-below test (least test 0 32768) w.in-Some.place found (sym is ∙ w.in-Some.is)))
      | in-None w ↦ rw w.self-is
          (starts-more c.self.inside.taken starts size 32768 small c.self.invariant (none-at-all test (least test 0 32768) found (sym is ∙ w.in-None.is)))
    ])

pub returns-clause-place : goal.returns-clause-place
returns-clause-place c =
    let is : c.least_free-place.result ≡ least_place (set_of c.args.self.now) Code c.args.size =
    c.least_free-place.ensures.place
    ∙ least-from c.self.inside.taken c.self.inside.starts c.args.size c.from.result c.if-size-gt-SECTOR.false c.from.ensures c.self.invariant
    ∙ ap (λ (bits : List Bool). least_place (set_of bits) Code c.args.size) c.self.view_is in
    elim c.match-place.branch [
      | in-Some w ↦ w.place-is ∙ sym w.in-Some.is ∙ is
      | in-None w ↦ w.place-is ∙ is
    ]
