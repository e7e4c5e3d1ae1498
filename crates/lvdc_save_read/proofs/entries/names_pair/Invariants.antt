use Rattle.std.proofs.Common.{◌≡◌, ◌+◌, ◌∷◌, [], map, drop}
use Rattle.std.specs.List.{list_any}
use Rattle.std.specs.Str.{bytes_eq}
use Rattle.lvdc_text.specs.Lines.{token_text}
use Rattle.lvdc_save_read.proofs.entries.names_pair.Given as goal

abbrev pub invariant-loop-field : goal.invariant-loop-field
invariant-loop-field l =
    list_any (λ token. bytes_eq token ((48 + l.pair) ∷ [])) (map (token_text l.text) (drop l.field-index l.fields))
    ≡ list_any (λ token. bytes_eq token ((48 + l.pair) ∷ [])) (map (token_text l.text) l.fields)
