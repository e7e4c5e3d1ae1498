-- The word 0 is intended there, and each twin shows its code.
use Rattle.std.proofs.Common.{◌≡◌, sym, ap, subst, ◌∙◌, arith}
use Rattle.lvdc_word.specs.Cell.{code_of}
use Rattle.lvdc_map.specs.Banks.{home, IsPlace}
use Rattle.lvdc_map.specs.Memory.{word_at}
use Rattle.lvdc_memory.specs.Holds.{MemoryState, IsMemoryOf}
use Rattle.lvdc_memory.proofs.Soundness.{recovered-sound, all-show-both}
use Rattle.lvdc_memory.proofs.memory.VotedMemory.is_zero.Goals as goal

pub returns-then-is_zero : goal.returns-then-is_zero
returns-then-is_zero c zero o in_force t i h at ok same =
    let inside = subst (λ (m : MemoryState). IsMemoryOf o in_force m t i) (sym c.self.view_is) h in
    let kept : MemoryState = record { twins = c.self.inside.twins; ledger = c.self.inside.ledger } in
    let here : IsPlace (home at) = record { pair = omega arith; sector = ok.sector; loc = ok.loc } in
    let word : word_at i at ≡ 0 = sym (inside.words.same at ok) ∙ c.is_zero.ensures c.if-is_zero.true at ok same in
    record {
      word = word;
      recovered =
          recovered-sound o in_force kept t i at (code_of 0) inside ok.pair here (ap code_of (sym word))
          (all-show-both kept.twins at (code_of 0) ok.pair (λ twin two. c.is_zero-then-is_zero.ensures zero twin two (home at) here (omega (arith, same, ok.pair, ok.sector, ok.loc))));
    }
