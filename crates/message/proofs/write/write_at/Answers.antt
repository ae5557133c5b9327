use Rattle.std.proofs.Common.{refl, rules}
use Rattle.encoding.specs.declared.sink.Counter.{Counter}
use Rattle.message.specs.Writing.{asks, drafted}
use Rattle.message.proofs.ReadsBack.{reads_back}
use Rattle.message.proofs.Sending.{counted_written, answered_written}
use Rattle.message.proofs.write.write_at.Goals as goal

pub returns : goal.returns
returns g c =
    let t = g.M.Outgoing.told c.args.m.now in
    let before : Counter = record { count = 0; limit = c.saturating_sub.result } in
    record {
      written = answered_written (asks t) (drafted t) c.args.out.now _ c.args.at _ c.in_ok-check.ensures.answer
          (counted_written (drafted t) before c.send.new.sink _ c.send-2.new.sink c.args.out.now _ c.args.at tt tt c.in_ok-send.ensures c.in_ok-send-2.ensures refl refl refl (search rules));
      back = λ bs e. reads_back t bs c.check.ensures.sound e;
    }

pub returns-in_err-send-clause-back : goal.returns-in_err-send-clause-back
returns-in_err-send-clause-back g c = λ bs e. reads_back (g.M.Outgoing.told c.args.m.now) bs c.check.ensures.sound e
