use Rattle.std.proofs.Common.{subst}
use Rattle.hub_c.specs.Places.{ProductHub}
use Rattle.hub_c.specs.Pins.{Cleaned}
use Rattle.hub_c.proofs.Pinned.{reading_stays}
use Rattle.hub_c.proofs.records.presence_hub_clean.Goals as goal

pub returns-clause-cleaned : goal.returns-clause-cleaned
returns-clause-cleaned c made = record {
  answer = c.clean.result;
  number = c.number_of.ensures;
  pins = subst (λ (h : ProductHub). Cleaned h c.clean.new.self c.clean.result) c.hub.ensures.now (record {
    answer = c.clean.ensures.answer;
    rows = c.clean.ensures.rows;
    kept = record { own = c.clean.ensures.own; clock = reading_stays _ _ _ c.clean.ensures.clock; host = c.clean.ensures.host; policy = c.clean.ensures.policy };
    law = c.clean.ensures.law;
  });
}
