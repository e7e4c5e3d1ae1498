use Rattle.std.proofs.Common.{◌≡◌, ◌*◌, true, ◌==◌, sym, ap, ◌∙◌}
use Rattle.lvdc_map.specs.Banks.{is_there}
use Rattle.lvdc_map.specs.Memory.{word_at}
use Rattle.lvdc_model.specs.Runs.{through}
use Rattle.lvdc_model.specs.Trial.{plain_at}
use Rattle.lvdc_model.specs.Voted.{Voted}
use Rattle.lvdc_runs.proofs.Through.{state-through}
use Rattle.lvdc_runs.proofs.Words.{word-there}
use Rattle.lvdc_runs.proofs.same.is_same_word.Goals as goal

pub returns : goal.returns
returns c = λ o times h p.
    let at = c.args.at in
    let there : is_there o.opening.banks at ≡ true =
    sym (c.has.ensures ∙ ap (λ b. is_there b at) (c.banks.ensures ∙ h.banks)) ∙ c.if-not-has.false in
    let one : c.intended.result ≡ word_at (through o (3 * times)).intended at =
    c.intended.ensures.told o _ (3 * times) h.left h.stands ∙ ap (λ (v : Voted). word_at v.intended at) (state-through o times c.args.machine.now h) in
    let other : c.word.result ≡ word_at (plain_at o times).memory at = c.word.ensures.memory (plain_at o times).memory p.shows.memory in
    c.eq.ensures ∙ (λ i. one i == other i) ∙ sym (word-there o.opening.banks (through o (3 * times)).intended (plain_at o times).memory at there)
