-- Sources without macros.
use Rattle.std.specs.Prelude.{◌≡◌, List, [], map}
use Rattle.lvdc_text.specs.Lines.{NumberedLine}
use Rattle.lvdc_macro.specs.Macros.{Text, meaning_of}
use Rattle.lvdc_macro.specs.Expansion.{Written}

-- a line that neither begins nor ends a macro, and calls none, since none is defined
abbrev pub IsPlain : NumberedLine → Type 0
IsPlain line = meaning_of [] line.text ≡ Text

-- a line as it is, which comes from itself
abbrev pub itself : NumberedLine → Written
itself line = record { text = line.text; origin = line.number }

-- the lines as they are
abbrev pub themselves : List NumberedLine → List Written
themselves lines = map itself lines
