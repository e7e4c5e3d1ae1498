use Rattle.std.proofs.Common.{◌++◌, ◌∷◌, [], List, ◌∙◌, ap}
use Rattle.std.specs.Map.{lookup}
use Rattle.indexmap.proofs.CallerLemmas.{insert_entry-new}
use Rattle.lvdc_map.specs.Address.{Spot}
use Rattle.lvdc_asm.specs.Pool.{is_same_literal}
use Rattle.lvdc_asm.specs.declared.pool.Literal.{Literal}
use Rattle.lvdc_asm.proofs.pool.Pool.add.Goals as goal

pub returns : goal.returns
returns c =
    c.in_ok-insert.ensures.entries
    ∙ insert_entry-new is_same_literal c.self.inside.words c.args.literal c.args.at
    (ap (lookup (is_same_literal c.args.literal)) c.self.view_is ∙ c.requires)
    ∙ ap (λ (es : List (Literal × Spot)). es ++ (c.args.literal, c.args.at) ∷ []) c.self.view_is
