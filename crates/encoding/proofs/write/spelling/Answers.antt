use Rattle.std.proofs.Common.{◌++◌, sym, ap, ◌∙◌, append_assoc, arith}
use Rattle.encoding.proofs.Shortest.{front_short, shortest_one, shortest_more}
use Rattle.encoding.proofs.write.spelling.Goals as goal

pub push-requires : goal.push-requires
push-requires c = omega (arith, front_short _ _ c.args.n (omega arith) c.loop-high.invariant)

pub loop-high-preserved : goal.loop-high-preserved
loop-high-preserved c = rw (c.push.ensures.items, append_assoc) (ap (λ bs. c.loop-high.bytes.items ++ bs) (sym (shortest_more c.loop-high.high c.loop-high-test.true)) ∙ c.loop-high.invariant)

pub push-requires-2 : goal.push-requires-2
push-requires-2 c = omega (arith, front_short _ _ c.args.n (omega arith) c.loop-high.invariant)

pub returns : goal.returns
returns c = c.push-2.ensures.items ∙ ap (λ bs. c.loop-high.bytes.items ++ bs) (sym (shortest_one c.loop-high.high c.loop-high-test.false)) ∙ c.loop-high.invariant
