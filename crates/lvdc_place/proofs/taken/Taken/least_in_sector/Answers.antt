use Rattle.std.proofs.Common.{◌≡◌, ℕ, ◌+◌, ◌-◌, Bool, ap, ◌∙◌, arith}
use Rattle.std.specs.Option.{option_map}
use Rattle.lvdc_place.specs.Slot.{slot_at, number_of, sector_start}
use Rattle.lvdc_place.specs.Slots.{set_of, is_free_at, least, least_place}
use Rattle.lvdc_place.specs.declared.block.Kind.TheVariants.{Words}
use Rattle.lvdc_place.proofs.BlocksApart.{words_free}
use Rattle.lvdc_place.proofs.Starts.{in-sector}
use Rattle.lvdc_place.proofs.taken.Taken.least_in_sector.Goals as goal

-- what was found is the least place of the definition
pub returns-clause-free : goal.returns-clause-free
returns-clause-free c =
    let home = c.args.home in
    let test : ℕ → Bool = is_free_at (set_of c.args.self.now) (Words home) c.args.size in
    let from : c.number-from.result ≡ number_of (sector_start home.pair home.sector) = c.number-from.ensures.value ∙ ap number_of c.sector_start.ensures.value in
    let place : c.least_free.result ≡ least_place (set_of c.args.self.now) (Words home) c.args.size =
    c.least_free.ensures.place
    ∙ ap (λ n. option_map slot_at (least test n (n + 256 - n))) from
    ∙ ap (λ k. option_map slot_at (least test (number_of (sector_start home.pair home.sector)) k)) (omega arith) in
    rw place (words_free (set_of c.args.self.now) home c.args.size)

pub returns-clause-sector : goal.returns-clause-sector
returns-clause-sector c =
    let home = c.args.home in
    let test : ℕ → Bool = is_free_at (set_of c.args.self.now) (Words home) c.args.size in
    let from : c.number-from.result ≡ number_of (sector_start home.pair home.sector) = c.number-from.ensures.value ∙ ap number_of c.sector_start.ensures.value in
    let place : c.least_free.result ≡ least_place (set_of c.args.self.now) (Words home) c.args.size =
    c.least_free.ensures.place
    ∙ ap (λ n. option_map slot_at (least test n (n + 256 - n))) from
    ∙ ap (λ k. option_map slot_at (least test (number_of (sector_start home.pair home.sector)) k)) (omega arith) in
    rw place (in-sector (set_of c.args.self.now) home c.args.size c.sector_start.ensures.sector)
