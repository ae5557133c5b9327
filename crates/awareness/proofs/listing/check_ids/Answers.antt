use Rattle.std.proofs.Common.{rules, ◌+◌, drop, sym, ap, ◌∙◌}
use Rattle.std.proofs.lemmas.List.{at_drop_more}
use Rattle.std.specs.Result.{result_and}
use Rattle.awareness.specs.Calls.{all_ids}
use Rattle.awareness.proofs.listing.check_ids.Goals as goal

pub loop-client-preserved : goal.loop-client-preserved
loop-client-preserved c =
    c.loop-client.invariant ∙ at_drop_more all_ids c.args.clients.now c.loop-client.client-index 0 c.loop-client-test.true
    ∙ ap (λ r. result_and r (all_ids (drop (c.loop-client.client-index + 1) c.args.clients.now))) (sym c.check_client_id.ensures ∙ c.in_ok-check_client_id.was)

pub returns-in_err-check_client_id : goal.returns-in_err-check_client_id
returns-in_err-check_client_id c =
    let r = c.loop-client.invariant ∙ at_drop_more all_ids c.args.clients.now c.loop-client.client-index 0 c.loop-client-test.true
    ∙ ap (λ r. result_and r (all_ids (drop (c.loop-client.client-index + 1) c.args.clients.now))) (sym c.check_client_id.ensures ∙ c.in_err-check_client_id.was) in
    search rules
