use Rattle.std.proofs.Common.{map, sym, ap, ◌∙◌}
use Rattle.joined_tables.proofs.Arriving.{table_is}
use Rattle.joined_tables.proofs.TableHosts.{vector_ascends, vector_known}
use Rattle.boards.specs.SlotBoard.{client_of, outranks, keepable, as_vector, slot_rows}
use Rattle.boards.specs.Slots.{slot_fair}
use Rattle.boards.proofs.slot_host.SlotBoardDocumentHost.vector.Goals as goal

pub vector_of-requires-clause-ascends : goal.vector_of-requires-clause-ascends
vector_of-requires-clause-ascends c = vector_ascends slot_rows slot_fair c.slots.result.now c.slots.ensures.sound

pub vector_of-requires-clause-known : goal.vector_of-requires-clause-known
vector_of-requires-clause-known c = vector_known slot_rows slot_fair c.slots.result.now c.slots.ensures.sound

pub returns : goal.returns
returns c = let b = c.args.self.now in c.vector_of.ensures ∙ ap (map as_vector) (c.slots.ensures.all ∙ sym (table_is client_of outranks keepable b.slots b.sound))
