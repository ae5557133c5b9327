use Rattle.message.specs.Messages.{messages}
use Rattle.message.specs.Reader.{to_come}
use Rattle.message.proofs.Rows.{Placing}
use Rattle.message.proofs.messages.read_messages.Given as goal

-- the messages so far stand in their places, and the row goes on where the reader stands
abbrev pub invariant-loop-count : goal.invariant-loop-count
invariant-loop-count l = Placing (messages l.bytes) l.initial.into l.into l.count (to_come l.reader)
