use Rattle.std.proofs.Common.{rules}
use Rattle.std.proofs.lemmas.List.Sorted.{answers_always}
use Rattle.lvdc_map.specs.Address.{number_of}
use Rattle.lvdc_map.specs.declared.placed.Placed.{Placed}
use Rattle.lvdc_uplink.proofs.Searching.{searched}
use Rattle.lvdc_uplink.proofs.patch.index_of.Goals as goal

-- the closure gives the number of a word's address
pub returns : goal.returns
returns c =
    let facts = c.binary_search_by_key.ensures in
    let by_key = facts.position (λ (p : Placed). number_of p.at) (answers_always _ _ _ (λ f a r g called. search rules)) in
    searched c.args.words.now c.requires c.args.number _ facts.bound by_key
