use Rattle.std.proofs.Common.{rules, ◌≡◌, [], sym, subst}
use Rattle.calls.specs.Handling.{Hub}
use Rattle.law.specs.Law.{Law}
use Rattle.law.specs.Model.{fresh}
use Rattle.law.proofs.Keeping.{law_first}
use Rattle.hub.specs.Steps.{hub_of}
use Rattle.hub.proofs.hub.Hub.new.Goals as goal

pub returns-clause-law : goal.returns-clause-law
returns-clause-law g c =
    let k = g.H.DocumentHost.kind in
    let is : hub_of k c.in_ok-presence.presence (g.H.DocumentHost.document c.new-2.result) ≡ fresh k g.H.DocumentHost.LIMIT (g.P.Policy.accepts c.args.policy) c.args.own = search rules in
    subst (λ (h : Hub k). Law k g.H.DocumentHost.LIMIT (g.P.Policy.accepts c.args.policy) c.args.own [] h) (sym is) (law_first k g.H.DocumentHost.LIMIT g.met.H.DocumentHost.lawful (g.P.Policy.accepts c.args.policy) c.args.own)
