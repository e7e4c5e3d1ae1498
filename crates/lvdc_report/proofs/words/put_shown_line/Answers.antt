use Rattle.std.proofs.Common.{◌≡◌, ◌++◌, ◌∙◌, true, ap, sym, rules}
use Rattle.lvdc_map.specs.Banks.{is_there}
use Rattle.lvdc_map.specs.Memory.{word_at}
use Rattle.lvdc_model.specs.Known.{is_known}
use Rattle.lvdc_machine.specs.Resumed.{state_from}
use Rattle.lvdc_report.proofs.ToldLines.{told_known, told_unknown}
use Rattle.lvdc_report.proofs.words.put_shown_line.Goals as goal

pub returns-in_ok-put_known_line-in-Known-clause-line : goal.returns-in_ok-put_known_line-in-Known-clause-line
returns-in_ok-put_known_line-in-Known-clause-line c = λ o first n ds s.
    let m = c.args.machine.now in
    let v = state_from m.end m.mode o first n in
    let there : is_there m.banks c.args.at ≡ true = search rules in
    rw there (c.in_ok-put_known_line-in-Known.ensures.line
    ∙ ap (λ line. c.args.out.now.items ++ line)
    (told_known (is_known o v c.args.at) c.args.at (word_at v.intended c.args.at) c.in-Known.word (sym c.in-Known.is ∙ c.shown.ensures.told o first n ds s)))

pub returns-in_ok-put_unknown_line-in-Unknown-clause-line : goal.returns-in_ok-put_unknown_line-in-Unknown-clause-line
returns-in_ok-put_unknown_line-in-Unknown-clause-line c = λ o first n ds s.
    let m = c.args.machine.now in
    let v = state_from m.end m.mode o first n in
    let there : is_there m.banks c.args.at ≡ true = search rules in
    rw there (c.in_ok-put_unknown_line-in-Unknown.ensures.line
    ∙ ap (λ line. c.args.out.now.items ++ line)
    (told_unknown (is_known o v c.args.at) c.args.at (word_at v.intended c.args.at) (sym c.in-Unknown.is ∙ c.shown.ensures.told o first n ds s)))
