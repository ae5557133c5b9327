use Rattle.std.proofs.Common.{subst}
use Rattle.hub_c.specs.Places.{ProductHub}
use Rattle.hub_c.specs.Pins.{Removed}
use Rattle.hub_c.proofs.Pinned.{reading_stays}
use Rattle.hub_c.proofs.records.presence_hub_remove.Goals as goal

pub returns-clause-removed : goal.returns-clause-removed
returns-clause-removed c made = record {
  answer = c.remove.result;
  number = c.number_of.ensures;
  pins = subst (λ (h : ProductHub). Removed h c.remove.new.self c.args.client c.remove.result) c.hub.ensures.now (record {
    answer = c.remove.ensures.answer;
    rows = c.remove.ensures.rows;
    kept = record { own = c.remove.ensures.own; clock = reading_stays _ _ _ c.remove.ensures.clock; host = c.remove.ensures.host; policy = c.remove.ensures.policy };
    law = c.remove.ensures.law;
  });
}
