use Rattle.std.proofs.Common.{◌≡◌, ◌<◌, ℕ, List, ◌∷◌, [], None, map, length, sym, ap, ◌∙◌, arith}
use Rattle.lvdc_service.specs.declared.parts.Part.{Part}
use Rattle.lvdc_service.specs.Frames.{frame_line_of_parts}
use Rattle.lvdc_service.proofs.Heads.{parts_many, parts_none, parts_one}
use Rattle.lvdc_service.proofs.header.header_of.Goals as goal

few_parts : (f : Part → List ℕ) (parts : List Part) → length parts < 2 → frame_line_of_parts (map f parts) ≡ None
few_parts f [] l = parts_none
few_parts f (part ∷ []) l = parts_one (f part)
few_parts f (part ∷ other ∷ parts) l = absurd (omega arith)

pub returns-in_default-clause-none : goal.returns-in_default-clause-none
returns-in_default-clause-none c =
    ap frame_line_of_parts (sym c.in-Some.ensures.parts) ∙ few_parts _ c.in-Some.parts.items (omega (arith, ap length c.as_slice.ensures.value))

pub returns-in-None-clause-none : goal.returns-in-None-clause-none
returns-in-None-clause-none c = parts_many _ c.in-None.ensures.many
