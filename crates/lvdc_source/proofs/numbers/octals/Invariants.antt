use Rattle.std.proofs.Common.{◌≡◌}
use Rattle.std.specs.Option.{option_map}
use Rattle.lvdc_source.specs.Numbers.{is_comma, octals_in, octals_of}
use Rattle.lvdc_source.proofs.Cuts.{fields_left, size_left}
use Rattle.lvdc_source.proofs.Fields.{with_numbers}
use Rattle.lvdc_source.proofs.numbers.octals.Given as goal

abbrev pub invariant-loop-rest : goal.invariant-loop-rest
invariant-loop-rest l = with_numbers l.numbers.items (octals_in (fields_left is_comma (option_map (λ text. text.now) l.rest))) ≡ octals_of l.text

abbrev pub decreases-loop-rest : goal.decreases-loop-rest
decreases-loop-rest l = size_left (option_map (λ text. text.now) l.rest)
