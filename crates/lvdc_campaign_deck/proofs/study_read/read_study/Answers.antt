use Rattle.std.proofs.Common.{sym, ap, ◌∙◌}
use Rattle.std.proofs.lemmas.Result.{IfOk-weaker}
use Rattle.lvdc_deck.specs.Deck.{end_of}
use Rattle.lvdc_campaign_deck.proofs.Split.{first-rest, rest-within}
use Rattle.lvdc_campaign_deck.proofs.study_read.read_study.Goals as goal

pub returns-in-Ok-read_scripts-clause-count : goal.returns-in-Ok-read_scripts-clause-count
returns-in-Ok-read_scripts-clause-count g c = IfOk-weaker c.join.result _ _ (λ study is. rw is c.in-Ok-read_program.ensures.count) c.join.ensures.deck

pub returns-in-Ok-read_scripts-clause-rising : goal.returns-in-Ok-read_scripts-clause-rising
returns-in-Ok-read_scripts-clause-rising g c = IfOk-weaker c.join.result _ _ (λ study is. rw is c.in-Ok-read_program.ensures.rising) c.join.ensures.deck

pub returns-in-Ok-read_scripts-clause-there : goal.returns-in-Ok-read_scripts-clause-there
returns-in-Ok-read_scripts-clause-there g c = IfOk-weaker c.join.result _ _ (λ study is. rw is c.in-Ok-read_program.ensures.there) c.join.ensures.deck

pub returns-in-Ok-read_scripts-clause-few_events : goal.returns-in-Ok-read_scripts-clause-few_events
returns-in-Ok-read_scripts-clause-few_events g c = IfOk-weaker c.join.result _ _ (λ study is. rw is c.in-Ok-read_program.ensures.few) c.join.ensures.deck

pub returns-in-Ok-read_scripts-clause-events : goal.returns-in-Ok-read_scripts-clause-events
returns-in-Ok-read_scripts-clause-events g c = IfOk-weaker c.join.result _ _ (λ study is. rw is c.in-Ok-read_program.ensures.events) c.join.ensures.deck

pub returns-in-Ok-read_scripts-clause-few : goal.returns-in-Ok-read_scripts-clause-few
returns-in-Ok-read_scripts-clause-few g c = IfOk-weaker c.join.result _ _ (λ study are. rw are c.in-Ok-read_scripts.ensures.few) c.join.ensures.scripts

pub returns-in-Ok-read_scripts-clause-run : goal.returns-in-Ok-read_scripts-clause-run
returns-in-Ok-read_scripts-clause-run g c = IfOk-weaker c.join.result _ _ (λ study are. rw are c.in-Ok-read_scripts.ensures.run) c.join.ensures.scripts

pub returns-in-Ok-read_scripts-clause-times : goal.returns-in-Ok-read_scripts-clause-times
returns-in-Ok-read_scripts-clause-times g c = c.join.ensures.times

pub read_program-requires-in-len1-up-clause-within : goal.read_program-requires-in-len1-up-clause-within
read_program-requires-in-len1-up-clause-within g c =
    c.before_campaign-before.ensures.within _ _ (first-rest c.from_campaign-from.result.now _ c.in-len1-up.len_at_least)

pub read_scripts-requires-clause-within : goal.read_scripts-requires-clause-within
read_scripts-requires-clause-within g c = rest-within c.args.bytes.now c.from_campaign-from.result.now c.from_campaign-from.ensures.within

pub read_program-requires-in-len1-up-clause-end : goal.read_program-requires-in-len1-up-clause-end
read_program-requires-in-len1-up-clause-end g c =
    c.end_of-end.ensures.place ∙ ap (end_of c.args.bytes.now) (c.deref.ensures.value ∙ sym c.deref-3.ensures.value)
    ∙ c.before_campaign-before.ensures.end _ _ (first-rest c.from_campaign-from.result.now _ c.in-len1-up.len_at_least)
