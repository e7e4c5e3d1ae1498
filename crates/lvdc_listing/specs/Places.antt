-- How places of memory, and what stands there, are written: in octal digits.
use Rattle.std.specs.Prelude.{ℕ, ◌==◌, List, ◌++◌, [], Option, None, Some, unwrap_or, codes, if◌then◌else◌}
use Rattle.lvdc_word.specs.Word.{upper, lower}
use Rattle.lvdc_map.specs.Address.{Spot}
use Rattle.lvdc_map.specs.Memory.{Memory, word_at}
use Rattle.lvdc_text.specs.Numbers.{octal_text}
use Rattle.lvdc_source.specs.declared.item.Body.{Body}
use Rattle.lvdc_source.specs.declared.item.Body.TheVariants.{Constant, Instruction}
use Rattle.lvdc_place.specs.declared.spot.Spot.{Spot as Place}

-- pair and sector
abbrev pub sector_text : Spot → List ℕ
sector_text at = octal_text 1 at.pair ++ codes " " ++ octal_text 2 at.sector

-- the syllable of code; words have none
abbrev pub syllable_text : Option ℕ → List ℕ
syllable_text None = codes "-"
syllable_text (Some syl) = octal_text 1 syl

-- pair, sector, syllable and location
abbrev pub place_text : Place → List ℕ
place_text here = sector_text here.at ++ codes " " ++ syllable_text here.syl ++ codes " " ++ octal_text 3 here.at.loc

-- the syllable of a word that stands in this slot
abbrev pub syllable_in : ℕ → Option ℕ → ℕ
syllable_in w syl = if unwrap_or syl 0 == 1 then upper w else lower w

-- what stands in memory for an item: for an instruction the syllable at its slot, for a constant the word at its
-- location, for room nothing
abbrev pub held_text : ℕ → Option ℕ → Body → List ℕ
held_text w syl (Instruction op operand) = codes " " ++ octal_text 5 (syllable_in w syl)
held_text w syl (Constant constant) = codes " " ++ octal_text 9 w
held_text w syl _ = []

-- the place of an item, and what stands in memory there; one that takes no place has neither
abbrev pub field_text : Memory → Option Place → Body → List ℕ
field_text memory None body = []
field_text memory (Some here) body = place_text here ++ held_text (word_at memory here.at) here.syl body
