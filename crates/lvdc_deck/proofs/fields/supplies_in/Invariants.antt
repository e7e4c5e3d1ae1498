use Rattle.std.proofs.Common.{◌≡◌, map, drop, option_map}
use Rattle.lvdc_text.specs.Lines.{token_text}
use Rattle.lvdc_deck.specs.Sections.{words_in, supply_of}
use Rattle.lvdc_deck.proofs.Tokens.{and_supplies}
use Rattle.lvdc_deck.proofs.fields.supplies_in.Given as goal

abbrev pub invariant-loop-token : goal.invariant-loop-token
invariant-loop-token l =
    and_supplies l.supplies.items l.port (words_in (map (token_text l.text) (drop l.token-index l.tokens)))
    ≡ option_map (supply_of l.port) (words_in (map (token_text l.text) l.tokens))
