-- The data place that is assumed at a line, in the words of the assembly.
use Rattle.std.proofs.Common.{◌≡◌, List, [], ◌∷◌, refl, ap, ◌∙◌}
use Rattle.lvdc_source.specs.declared.item.Body.{Body}
use Rattle.lvdc_source.specs.declared.item.Body.TheVariants as says
use Rattle.lvdc_source.specs.declared.item.Item.{Item}
use Rattle.lvdc_asm.specs.Data.{data_after}
use Rattle.lvdc_asm.specs.DataPlace.{DataPlace}
use Rattle.lvdc_laws_assembly.specs.Lines.{set_by, assumed_after}

-- after these lines
abbrev pub after_all : DataPlace → List Item → DataPlace
after_all assumed [] = assumed
after_all assumed (item ∷ items) = after_all (data_after assumed item.body) items

same-line : (assumed : DataPlace) (body : Body) → data_after assumed body ≡ set_by assumed body
same-line assumed says.Code = refl
same-line assumed (says.Org at syl) = refl
same-line assumed (says.Words pair sector loc) = refl
same-line assumed (says.Sector pair sector) = refl
same-line assumed (says.Room count) = refl
same-line assumed (says.Constant constant) = refl
same-line assumed (says.Instruction op operand) = refl

-- it is the one of the last USE
pub same-after : (assumed : DataPlace) (items : List Item) → after_all assumed items ≡ assumed_after assumed items
same-after assumed [] = refl
same-after assumed (item ∷ items) =
    same-after (data_after assumed item.body) items ∙ ap (λ (place : DataPlace). assumed_after place items) (same-line assumed item.body)
