use Rattle.std.proofs.Common.{rules, tests, ap, ◌∙◌}
use Rattle.std.specs.Str.{bytes_eq}
use Rattle.std.proofs.lemmas.Iterator.{YieldsList-from_slice}
use Rattle.std.proofs.lemmas.Iterator.Search.{find_from_yields_List}
use Rattle.lvdc_isa.specs.Mnemonics.{mnemonic_of, named_operations, operation_named}
use Rattle.lvdc_isa.proofs.MnemonicLaws.{IfSome-operation_named, IfNone-operation_named, operation_named-mnemonic_of}
use Rattle.lvdc_isa.proofs.text.mnemonic.Goals as goal

pub returns-clause-value : goal.returns-clause-value
returns-clause-value c =
    c.copied.ensures ∙ find_from_yields_List (λ op. bytes_eq c.args.text.now (mnemonic_of op)) _ _ _ c.find.ensures.ran
    (YieldsList-from_slice named_operations cc) (λ x b q k. search (rules, tests))

pub returns-clause-named : goal.returns-clause-named
returns-clause-named c = rw (returns-clause-value c) (IfSome-operation_named c.args.text.now)

pub returns-clause-unnamed : goal.returns-clause-unnamed
returns-clause-unnamed c = rw (returns-clause-value c) (IfNone-operation_named c.args.text.now)

pub returns-clause-read_back : goal.returns-clause-read_back
returns-clause-read_back c =
    λ op other same. returns-clause-value c ∙ ap operation_named same ∙ operation_named-mnemonic_of op other
