use Rattle.std.proofs.Common.{sym, ◌∙◌, ap, option_map}
use Rattle.std.specs.Str.{bytes_eq}
use Rattle.lvdc_macro.specs.Making.{lines_named}
use Rattle.lvdc_macro.proofs.Naming.{lookup-view}
use Rattle.lvdc_macro.proofs.macros.Macros.body.Goals as goal

pub returns : goal.returns
returns c =
    ap (option_map (λ body. body.now)) c.get.ensures
    ∙ sym (lookup-view (λ k. k) (λ v. v.now) (bytes_eq c.args.name.now) c.self.inside.table)
    ∙ ap (λ entries. lines_named entries c.args.name.now) c.self.view_is
