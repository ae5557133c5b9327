use Rattle.std.proofs.Common.{Ok, subst}
use Rattle.encoding.specs.Writing.{shortest, Sent}
use Rattle.encoding.proofs.Sendings.{sent_then}
use Rattle.encoding.proofs.entries_out.Chosen.put_counted.Goals as goal

pub returns : goal.returns
returns g c =
    let s = subst (λ n. Sent g.S.Sink.room g.S.Sink.step c.args.sink.now (Ok (shortest n)) (Ok tt) c.write_var.new.sink) c.count.ensures c.in_ok-write_var.ensures in
    sent_then g.S.Sink.room g.S.Sink.step c.args.sink.now c.write_var.new.sink c.put_each.new.sink _ _ tt c.put_each.result s c.put_each.ensures
