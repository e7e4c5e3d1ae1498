use Rattle.std.proofs.Common.{sym, ap, ◌∙◌, rules}
use Rattle.lvdc_word.specs.Word.{bit_of}
use Rattle.lvdc_vote.specs.Copies.{settled}
use Rattle.lvdc_logic.proofs.Differing.{agreed_counted}
use Rattle.lvdc_logic.proofs.Named.{byte-is, none-named, one-named, two-named, three-named, one-counted, two-counted, three-counted}
use Rattle.lvdc_logic.proofs.triples.renew.Goals as goal

pub returns-in-false-false-false-clause-counts : goal.returns-in-false-false-false-clause-counts
returns-in-false-false-false-clause-counts g c = agreed_counted c.renew.new.self c.args.counts.now (search rules) c.renew.ensures.agree

pub returns-in-false-false-false-clause-value : goal.returns-in-false-false-false-clause-value
returns-in-false-false-false-clause-value g c =
    c.renew.ensures.value ∙ ap (λ words. settled words words words) c.copied.ensures ∙ none-named c.args.force.now c.args.first c.args.triple.now _ c.in-false-false-false.ensures c.in-false-false-false.ensures' c.in-false-false-false.ensures''

pub returns-in-false-false-false-clause-vote : goal.returns-in-false-false-false-clause-vote
returns-in-false-false-false-clause-vote g c = sym (c.renew.ensures.vote ∙ c.copied.ensures)

pub returns-in-false-false-false-clause-sized : goal.returns-in-false-false-false-clause-sized
returns-in-false-false-false-clause-sized g c = c.renew.ensures.sized

pub returns-in-true-false-false-clause-value : goal.returns-in-true-false-false-clause-value
returns-in-true-false-false-clause-value g c =
    c.renew_one.ensures.value ∙ one-named c.args.force.now c.args.first c.args.triple.now _ c.in-true-false-false.ensures c.in-true-false-false.ensures' c.in-true-false-false.ensures'' _ (ap (λ f. f.harm) c.on_copy.ensures)

pub returns-in-true-false-false-clause-vote : goal.returns-in-true-false-false-clause-vote
returns-in-true-false-false-clause-vote g c = sym c.renew_one.ensures.vote

pub returns-in-true-false-false-clause-sized : goal.returns-in-true-false-false-clause-sized
returns-in-true-false-false-clause-sized g c = c.renew_one.ensures.sized

pub returns-in-true-false-false-clause-counts : goal.returns-in-true-false-false-clause-counts
returns-in-true-false-false-clause-counts g c =
    one-counted c.renew_one.new.self c.args.counts.now c.from.result (search rules) (c.from.ensures ∙ byte-is c.renew_one.result ∙ ap bit_of c.renew_one.ensures.differs)
    c.renew_one.ensures.two c.renew_one.ensures.three

pub returns-in-false-true-false-clause-value : goal.returns-in-false-true-false-clause-value
returns-in-false-true-false-clause-value g c =
    c.renew_two.ensures.value ∙ two-named c.args.force.now c.args.first c.args.triple.now _ c.in-false-true-false.ensures c.in-false-true-false.ensures' c.in-false-true-false.ensures'' _ (ap (λ f. f.harm) c.on_copy-2.ensures)

pub returns-in-false-true-false-clause-vote : goal.returns-in-false-true-false-clause-vote
returns-in-false-true-false-clause-vote g c = sym c.renew_two.ensures.vote

pub returns-in-false-true-false-clause-sized : goal.returns-in-false-true-false-clause-sized
returns-in-false-true-false-clause-sized g c = c.renew_two.ensures.sized

pub returns-in-false-true-false-clause-counts : goal.returns-in-false-true-false-clause-counts
returns-in-false-true-false-clause-counts g c =
    two-counted c.renew_two.new.self c.args.counts.now c.from-in-false-true-false.result (search rules) (c.from-in-false-true-false.ensures ∙ byte-is c.renew_two.result ∙ ap bit_of c.renew_two.ensures.differs)
    c.renew_two.ensures.one c.renew_two.ensures.three

pub returns-in-false-false-true-clause-value : goal.returns-in-false-false-true-clause-value
returns-in-false-false-true-clause-value g c =
    c.renew_three.ensures.value ∙ three-named c.args.force.now c.args.first c.args.triple.now _ c.in-false-false-true.ensures c.in-false-false-true.ensures' c.in-false-false-true.ensures'' _ (ap (λ f. f.harm) c.on_copy-3.ensures)

pub returns-in-false-false-true-clause-vote : goal.returns-in-false-false-true-clause-vote
returns-in-false-false-true-clause-vote g c = sym c.renew_three.ensures.vote

pub returns-in-false-false-true-clause-sized : goal.returns-in-false-false-true-clause-sized
returns-in-false-false-true-clause-sized g c = c.renew_three.ensures.sized

pub returns-in-false-false-true-clause-counts : goal.returns-in-false-false-true-clause-counts
returns-in-false-false-true-clause-counts g c =
    three-counted c.renew_three.new.self c.args.counts.now c.from-in-false-false-true.result (search rules) (c.from-in-false-false-true.ensures ∙ byte-is c.renew_three.result ∙ ap bit_of c.renew_three.ensures.differs)
    c.renew_three.ensures.one c.renew_three.ensures.two
