-- What each twin shows that holds an address is the code of the word that is intended there.
use Rattle.std.proofs.Common.{ℕ, ◌≡◌, true, Some, sym, ap, subst, rules, ◌∙◌}
use Rattle.lvdc_word.specs.Cell.{code_of}
use Rattle.lvdc_twin.specs.Calls.{all_show}
use Rattle.lvdc_memory.specs.Holds.{MemoryState, IsMemoryOf}
use Rattle.lvdc_memory.proofs.Carrying.{read-answers}
use Rattle.lvdc_memory.proofs.Soundness.{recovered-sound}
use Rattle.lvdc_memory.proofs.memory.VotedMemory.sound_word.Goals as goal

pub returns-then-all_show-clause-recovered : goal.returns-then-all_show-clause-recovered
returns-then-all_show-clause-recovered c o in_force t i h =
    let inside = subst (λ (m : MemoryState). IsMemoryOf o in_force m t i) (sym c.self.view_is) h in
    recovered-sound o in_force (record { twins = c.self.inside.twins; ledger = c.self.inside.ledger }) t i c.args.at c.code-code.result inside c.all_show.ensures.bank c.all_show.ensures.place
    (c.code-code.ensures.words i inside.words)
    (sym c.all_show.ensures.value ∙ c.if-all_show.true)

pub returns-then-all_show-clause-answer : goal.returns-then-all_show-clause-answer
returns-then-all_show-clause-answer c o step t i h =
    let inside = subst (λ (m : MemoryState). IsMemoryOf o (Some step) m t i) (sym c.self.view_is) h in
    let code : c.code-code.result ≡ code_of c.word.result = c.code-code.ensures.value ∙ ap code_of (sym c.code-code.ensures.word ∙ sym c.word.ensures) in
    sym (read-answers o step c.self.inside.twins t c.args.at c.all_show.ensures.whole c.all_show.ensures.place c.all_show.ensures.bank inside.banks inside.twins)
    ∙ c.shown_word_is_read.ensures c.self.inside.twins c.args.at c.word.result c.all_show.ensures.whole (search rules)
    (subst (λ (cell : ℕ). all_show c.self.inside.twins c.args.at cell ≡ true) code (sym c.all_show.ensures.value ∙ c.if-all_show.true))
