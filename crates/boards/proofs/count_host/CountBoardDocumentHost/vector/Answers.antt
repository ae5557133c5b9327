use Rattle.std.proofs.Common.{map, take, sym, ap, ◌∙◌}
use Rattle.joined_tables.proofs.Arriving.{table_is}
use Rattle.joined_tables.proofs.TableHosts.{vector_ascends, vector_known}
use Rattle.boards.specs.CountBoard.{client_of, outranks, keepable, as_vector, count_rows}
use Rattle.boards.specs.Counts.{count_fair}
use Rattle.boards.proofs.count_host.CountBoardDocumentHost.vector.Goals as goal

pub vector_of-requires-clause-ascends : goal.vector_of-requires-clause-ascends
vector_of-requires-clause-ascends c = vector_ascends count_rows count_fair c.counts.result.now c.counts.ensures.sound

pub vector_of-requires-clause-known : goal.vector_of-requires-clause-known
vector_of-requires-clause-known c = vector_known count_rows count_fair c.counts.result.now c.counts.ensures.sound

pub returns : goal.returns
returns c = let b = c.args.self.now in c.vector_of.ensures ∙ ap (map as_vector) (c.counts.ensures.all ∙ sym (table_is client_of outranks keepable (take b.len b.counts) b.sound))
