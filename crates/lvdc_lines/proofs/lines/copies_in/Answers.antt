use Rattle.std.proofs.Common.{◌≡◌, ◌<◌, ◌-◌, length, map, take, None, ap, rules, arith, length-take}
use Rattle.std.proofs.lemmas.List.{length-map}
use Rattle.lvdc_orders.specs.Orders.{order_of}
use Rattle.lvdc_orders.proofs.Permutations.{order_of-long}
use Rattle.lvdc_lines.proofs.lines.copies_in.Goals as goal

-- there are more letters than copies
pub returns-then-is_err-clause-none : goal.returns-then-is_err-clause-none
returns-then-is_err-clause-none c =
    let full : length c.loop-letter.copies.items ≡ 21 = search rules in
    let more : 21 < length c.args.letters.now =
    omega (arith, full, ap length c.loop-letter.invariant.copies, length-map (take c.loop-letter.letter-index c.args.letters.now) (λ letter. letter - 65), length-take c.loop-letter.letter-index c.args.letters.now) in
    let none : order_of (map (λ letter. letter - 65) c.args.letters.now) ≡ None =
    order_of-long (map (λ letter. letter - 65) c.args.letters.now) (omega (arith, length-map c.args.letters.now (λ letter. letter - 65))) in
    search rules
