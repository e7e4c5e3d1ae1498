use Rattle.std.proofs.Common.{option_map, ◌++◌, ◌∷◌, [], sym, ◌∙◌, ap}
use Rattle.std.specs.Str.{bytes_eq}
use Rattle.std.specs.Map.{lookup}
use Rattle.lvdc_macro.specs.Making.{lines_named}
use Rattle.lvdc_macro.proofs.Naming.{lookup-view, none_from, entries-more}
use Rattle.lvdc_macro.proofs.macros.Macros.define.Goals as goal

pub add-requires : goal.add-requires
add-requires c =
    let seen = sym (lookup-view (λ k. k) (λ v. v.now) (bytes_eq c.args.name.now) c.self.inside.table) ∙ ap (λ entries. lines_named entries c.args.name.now) c.self.view_is in
    record { new = none_from (λ v. v.now) (lookup (bytes_eq c.args.name.now) c.self.inside.table) (seen ∙ c.requires.new) }
