-- The words are 0 in both.
use Rattle.std.proofs.Common.{◌≡◌, ℕ, ◌*◌, get_or, sym, ap, ◌∙◌, arith}
use Rattle.lvdc_map.specs.Address.{IsAddress, spot_at, number_of}
use Rattle.lvdc_map.specs.Memory.{word_at}
use Rattle.lvdc_model.specs.Runs.{through}
use Rattle.lvdc_model.specs.Trial.{plain_at}
use Rattle.lvdc_model.specs.Voted.{Voted}
use Rattle.lvdc_runs.proofs.Through.{state-through}
use Rattle.lvdc_runs.proofs.Words.{zero-same}
use Rattle.lvdc_runs.proofs.same.are_blank.Goals as goal

pub returns-then-is_blank : goal.returns-then-is_blank
returns-then-is_blank c blank o times h p number small sector =
    let at = spot_at number in
    let back : number_of at ≡ number = omega arith in
    let ok : IsAddress at = record { pair = omega (arith, small); sector = omega arith; loc = omega arith } in
    let one : word_at (through o (3 * times)).intended at ≡ 0 =
    ap (λ (v : Voted). word_at v.intended at) (sym (state-through o times c.args.machine.now h))
    ∙ c.is_blank.ensures.words c.if-is_blank.true o _ (3 * times) h.left h.stands at ok (omega (arith, sector, back)) in
    let other : word_at (plain_at o times).memory at ≡ 0 =
    sym (p.shows.memory.same at ok) ∙ ap (λ (n : ℕ). get_or c.args.plain.now.words n 0) back ∙ c.is_blank-then-is_blank.ensures blank number small sector in
    zero-same o.opening.banks (through o (3 * times)).intended (plain_at o times).memory at one other
