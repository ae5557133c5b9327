use Rattle.std.proofs.Common.{ap, ◌∙◌, sym, subst}
use Rattle.message.specs.Messages.{messages}
use Rattle.message.specs.Reader.{to_come}
use Rattle.message.proofs.Rows.{Placing, row_start, placing_none}
use Rattle.message.proofs.messages.read_messages.Goals as goal

pub loop-count-init : goal.loop-count-init
loop-count-init c = subst (λ row. Placing (messages c.args.bytes.now) c.args.into.now c.args.into.now 0 row) (row_start c.args.bytes.now ∙ sym (ap to_come c.new-reader.ensures)) (placing_none (messages c.args.bytes.now) c.args.into.now)
