-- What an image holds at an address.
use Rattle.std.specs.Prelude.{ℕ, ◌==◌, List, [], ◌∷◌, Option, None, Some, if◌then◌else◌}
use Rattle.std.specs.Option.{option_map}
use Rattle.lvdc_word.specs.Word.{upper, lower}
use Rattle.lvdc_map.specs.Address.{Spot, is_same}
use Rattle.lvdc_map.specs.Hop.{HopConstant, fetch_of, syllable_at}
use Rattle.lvdc_map.specs.declared.placed.Placed.{Placed}
use Rattle.lvdc_isa.specs.Instr.{instr}
use Rattle.lvdc_isa.specs.declared.instr.Instr.{Instr}

-- the word at an address, where the image has one
abbrev pub word_at : List Placed → Spot → Option ℕ
word_at [] at = None
word_at (p ∷ ps) at = if is_same p.at at then Some p.word else word_at ps at

-- syllable 1 of a word, or syllable 0
abbrev pub half_of : ℕ → ℕ → ℕ
half_of syl w = if syl == 1 then upper w else lower w

-- the instruction that a machine fetches by a HOP constant where every pair is duplex
abbrev pub fetched : List Placed → HopConstant → Option Instr
fetched words hop = option_map (λ w. instr (syllable_at hop w)) (word_at words (fetch_of 0 hop))
