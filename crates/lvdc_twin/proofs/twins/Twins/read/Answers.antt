-- The law of repair, and where no cell is good.
use Rattle.std.proofs.Common.{◌≡◌, ap, true, false, sym, ◌∙◌, ◌%◌, rules}
use Rattle.std.proofs.lemmas.Bool.{true≢false}
use Rattle.lvdc_map.specs.Banks.{is_simplex, home, IsPlace}
use Rattle.lvdc_twin.specs.Store.{Store, IsStore}
use Rattle.lvdc_twin.proofs.Mending.{mends, banks-after_answer, unchanged-after_answer, none_good-one, none_good-two}
use Rattle.lvdc_twin.proofs.twins.Twins.read.Goals as goal

pub returns-else-simplex-clause-mends : goal.returns-else-simplex-clause-mends
returns-else-simplex-clause-mends c w small duplex shows =
    let whole : IsStore c.args.self.now = search rules in
    let here : IsPlace (home c.args.at) = search rules in
    mends c.args.self.now c.read_two.new.self (home c.args.at) w c.read_two.result whole here small (search rules) (search rules) shows

pub returns-else-simplex-clause-both_bad : goal.returns-else-simplex-clause-both_bad
returns-else-simplex-clause-both_bad c =
    let whole : IsStore c.args.self.now = search rules in
    let duplex : is_simplex c.args.self.now.banks (c.args.at.pair % 4) ≡ false = search rules in
    none_good-two c.args.self.now c.args.at c.read_two.result whole c.home-place.ensures.bank c.requires duplex (search rules)

pub returns-then-simplex-clause-mends : goal.returns-then-simplex-clause-mends
returns-then-simplex-clause-mends c w small duplex shows =
    let simplex : is_simplex c.args.self.now.banks (c.args.at.pair % 4) ≡ true = search rules in
    absurd (true≢false (sym simplex ∙ duplex))

pub returns-then-simplex-clause-both_bad : goal.returns-then-simplex-clause-both_bad
returns-then-simplex-clause-both_bad c =
    let simplex : is_simplex c.args.self.now.banks (c.args.at.pair % 4) ≡ true = search rules in
    none_good-one c.args.self.now c.args.at c.answer_by_one.result c.home-place.ensures.bank simplex (search rules)

pub returns-else-simplex-clause-banks : goal.returns-else-simplex-clause-banks
returns-else-simplex-clause-banks c =
    ap (λ (t : Store). t.banks) c.read_two.ensures.after ∙ banks-after_answer c.read_two.result c.args.self.now c.home-place.result

pub returns-else-simplex-clause-unchanged : goal.returns-else-simplex-clause-unchanged
returns-else-simplex-clause-unchanged c =
    unchanged-after_answer c.read_two.result c.args.self.now c.read_two.new.self c.home-place.result c.read_two.ensures.after
