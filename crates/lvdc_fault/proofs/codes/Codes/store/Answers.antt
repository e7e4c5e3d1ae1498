-- The code of a word is put where the word is.
use Rattle.std.proofs.Common.{◌≡◌, ◌<◌, ◌^◌, ℕ, List, map, set, sym, ap, ◌∙◌, subst, rules}
use Rattle.lvdc_word.specs.Cell.{code_of, word_in}
use Rattle.lvdc_map.specs.Address.{IsAddress, number_of}
use Rattle.lvdc_map.specs.Memory.{stored, IsMemory}
use Rattle.lvdc_fault.specs.Codes.{AreCodes}
use Rattle.lvdc_fault.proofs.Coding.{codes-put, words-put, memory-put}
use Rattle.lvdc_fault.proofs.codes.Codes.store.Goals as goal

-- what is put
put : (c : goal.After-put) → c.put.new.self.items ≡ set c.self.inside.cells.items c.number.result (code_of c.args.word)
put c = c.put.ensures.items ∙ ap (set c.self.inside.cells.items c.number.result) c.encode.ensures

pub invariant_of-self : goal.invariant_of-self
invariant_of-self c =
    let small : c.args.word < 2 ^ 26 = search rules in (
      subst AreCodes (sym (put c)) (codes-put c.self.inside.cells.items c.number.result c.args.word small c.number.ensures.small c.self.invariant.0),
      c.put.ensures.blank ∙ c.self.invariant.1,
    )

pub returns-clause-value : goal.returns-clause-value
returns-clause-value c =
    let small : c.args.word < 2 ^ 26 = search rules in
    let cells = c.self.inside.cells.items in
    ap (map word_in) (put c) ∙ words-put cells c.number.result c.args.word small
    ∙ ap (λ (k : ℕ). set (map word_in cells) k c.args.word) c.number.ensures.value
    ∙ ap (λ (words : List ℕ). set words (number_of c.args.at) c.args.word) c.self.view_is

pub returns-clause-memory : goal.returns-clause-memory
returns-clause-memory c m h =
    let here : IsAddress c.args.at = search rules in
    subst (λ (words : List ℕ). IsMemory words (stored m c.args.at c.args.word)) (sym (returns-clause-value c))
    (memory-put c.args.self.now m c.args.at c.args.word here h)
