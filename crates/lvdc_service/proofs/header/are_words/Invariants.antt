use Rattle.std.proofs.Common.{◌≡◌, map, drop}
use Rattle.std.specs.List.{list_all}
use Rattle.lvdc_service.specs.Frames.{is_word}
use Rattle.lvdc_service.specs.Parts.{part_of}
use Rattle.lvdc_service.proofs.header.are_words.Given as goal

-- the words that are left decide
abbrev pub invariant-loop-word : goal.invariant-loop-word
invariant-loop-word l =
    list_all is_word (map (part_of l.line) (drop l.word-index l.words)) ≡ list_all is_word (map (part_of l.line) l.words)
