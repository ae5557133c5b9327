use Rattle.std.proofs.Common.{rules}
use Rattle.std.proofs.lemmas.List.Sorted.{answers_always}
use Rattle.state_vector.proofs.Lookups.{searched}
use Rattle.state_vector.proofs.keyed.find.Goals as goal

-- the closure gives an entry's client, and the search is by it
pub returns : goal.returns
returns g c =
    let facts = c.binary_search_by_key.ensures in
    let by_key = facts.position g.E.Keyed.key (answers_always _ _ _ (λ f a r h called. search rules)) in
    searched g.E.Keyed.key c.args.client c.args.entries.now c.binary_search_by_key.result c.requires facts.bound by_key
