use Rattle.std.proofs.Common.{sym, ap, ◌∙◌, subst}
use Rattle.encoding.specs.Sink.{Put}
use Rattle.encoding.specs.Writing.{shortest}
use Rattle.encoding.proofs.Shortest.{shortest_one}
use Rattle.encoding.proofs.write.write_var.Goals as goal

pub returns-then-n-lt128 : goal.returns-then-n-lt128
returns-then-n-lt128 g c = subst (λ bs. Put g.S.Sink.room g.S.Sink.step c.args.sink.now bs c.put.result c.put.new.self) (sym (shortest_one c.to_u64-n.result c.if-n-lt128.true) ∙ ap shortest c.to_u64-n.ensures) c.put.ensures
