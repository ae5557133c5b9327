use Rattle.std.proofs.Common.{◌≡◌, suc, ◌+◌, ◌-◌, sym, ap, ◌∙◌, arith}
use Rattle.std.proofs.lemmas.Result.{err_from_is_err_and}
use Rattle.encoding.specs.Entries.{entries, past}
use Rattle.encoding.proofs.Walks.{past_more, past_stopped}
use Rattle.encoding.proofs.entries.pass_entries.Goals as goal

pub loop-preserved : goal.loop-preserved
loop-preserved g c =
    let k : c.args.n - c.loop.counter ≡ suc (c.args.n - (c.loop.counter + 1)) = omega arith in
    c.loop.invariant ∙ ap (λ n. past (entries g.L.Layout.entry n c.loop.rest.now)) k ∙ past_more g.L.Layout.entry (c.args.n - (c.loop.counter + 1)) c.loop.rest.now c.in_ok-rest.rest.now c.in_ok-rest.ensures

pub returns-in_err-rest : goal.returns-in_err-rest
returns-in_err-rest g c =
    let p = err_from_is_err_and c.from_residual.result c.from_residual.ensures.1 in
    let k : c.args.n - c.loop.counter ≡ suc (c.args.n - (c.loop.counter + 1)) = omega arith in
    rw (p.1, p.2) (sym (c.loop.invariant ∙ ap (λ n. past (entries g.L.Layout.entry n c.loop.rest.now)) k ∙ past_stopped g.L.Layout.entry (c.args.n - (c.loop.counter + 1)) c.loop.rest.now _ c.in_err-rest.ensures))
