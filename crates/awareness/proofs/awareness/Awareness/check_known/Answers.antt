use Rattle.std.proofs.Common.{rules, tests, is_some}
use Rattle.std.proofs.lemmas.Iterator.{YieldsList-from_slice}
use Rattle.std.proofs.lemmas.Iterator.Search.{all_from_yields_List}
use Rattle.awareness.specs.Record.{held_of}
use Rattle.awareness.proofs.awareness.Awareness.check_known.Goals as goal

pub returns-then-all : goal.returns-then-all
returns-then-all c =
    let known = all_from_yields_List (λ k. is_some (held_of k c.args.self.now.rows)) _ _ c.all.result c.all.ensures.ran (YieldsList-from_slice c.args.clients.now cc) (λ x b q k. search (rules, tests)) in
    search rules
