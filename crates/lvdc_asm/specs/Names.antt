-- The names that a source defines.
use Rattle.std.specs.Prelude.{ℕ, ◌+◌, ◌<◌, Bool, false, length, List, [], ◌∷◌, ◌++◌, Option, None, Some, Result, Ok, Err, if◌then◌else◌}
use Rattle.std.specs.List.{list_any}
use Rattle.std.specs.Option.{ForSome}
use Rattle.std.specs.Map.{lookup}
use Rattle.std.specs.Str.{bytes_eq}
use Rattle.lvdc_source.specs.declared.item.Item.{Item}
use Rattle.lvdc_asm.specs.DataPlace.{DataPlace, first_data}
use Rattle.lvdc_asm.specs.Data.{data_after}
use Rattle.lvdc_asm.specs.declared.fault.AsmFault.{AsmFault}
use Rattle.lvdc_asm.specs.declared.fault.AsmFault.TheVariants.{DuplicateName}
use Rattle.lvdc_asm.specs.declared.names.Definition.{Definition}

-- what a line defines: its label, where it has one
abbrev pub entry_of : List ℕ → Definition → List (List ℕ × Definition)
entry_of [] definition = []
entry_of (c ∷ cs) definition = (c ∷ cs, definition) ∷ []

-- the names that the items define in their order, where the first item has this number and this USE is in force there
abbrev pub names_from : ℕ → DataPlace → List Item → List (List ℕ × Definition)
names_from number assumed [] = []
names_from number assumed (item ∷ items) =
    entry_of item.label (record { item = number; assumed = assumed }) ++ names_from (number + 1) (data_after assumed item.body) items

-- the names that the items of a source define, in the order of their definition
abbrev pub names_of : List Item → List (List ℕ × Definition)
names_of items = names_from 0 first_data items

-- the definition of a name, where it has one
abbrev pub definition_of : List (List ℕ × Definition) → List ℕ → Option Definition
definition_of names name = lookup (bytes_eq name) names

-- the label of a line, where it has one
abbrev pub label_of : List ℕ → List (List ℕ)
label_of [] = []
label_of (c ∷ cs) = (c ∷ cs) ∷ []

-- a label is one of these names
abbrev pub is_among : List (List ℕ) → List ℕ → Bool
is_among names [] = false
is_among names (c ∷ cs) = list_any (bytes_eq (c ∷ cs)) names

-- the first line that defines one of these names again, or one that a line before it defines
abbrev pub repeat_after : List (List ℕ) → List Item → Option ℕ
repeat_after names [] = None
repeat_after names (item ∷ items) =
    if is_among names item.label then Some item.line else repeat_after (names ++ label_of item.label) items

-- the names, unless a line defines one again
abbrev pub unless_repeated : List (List ℕ × Definition) → Option ℕ → Result (List (List ℕ × Definition)) AsmFault
unless_repeated names None = Ok names
unless_repeated names (Some line) = Err (DuplicateName line)

-- the names of a source, or the first line that defines one again
abbrev pub names_in : List Item → Result (List (List ℕ × Definition)) AsmFault
names_in items = unless_repeated (names_of items) (repeat_after [] items)

-- each name is that of one of these items
abbrev pub AreKnown : {X : Type 0} → List (List ℕ × Definition) → List X → Type 0
AreKnown names items = (name : List ℕ) → ForSome (definition_of names name) (λ (definition : Definition). definition.item < length items)
