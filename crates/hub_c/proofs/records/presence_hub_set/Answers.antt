use Rattle.std.proofs.Common.{subst}
use Rattle.hub_c.specs.Places.{ProductHub}
use Rattle.hub_c.specs.Pins.{Set}
use Rattle.hub_c.proofs.Pinned.{reading_stays}
use Rattle.hub_c.proofs.records.presence_hub_set.Goals as goal

pub returns-clause-set : goal.returns-clause-set
returns-clause-set c made = record {
  answer = c.set.result;
  number = c.number_of.ensures;
  pins = subst (λ (h : ProductHub). Set h c.set.new.self c.args.text.now c.set.result) c.hub.ensures.now (record {
    answer = c.set.ensures.answer;
    rows = c.set.ensures.rows;
    kept = record { own = c.set.ensures.own; clock = reading_stays _ _ _ c.set.ensures.clock; host = c.set.ensures.host; policy = c.set.ensures.policy };
    law = c.set.ensures.law;
  });
}
