use Rattle.std.proofs.Common.{subst}
use Rattle.hub_c.specs.Places.{ProductHub}
use Rattle.hub_c.specs.Pins.{Asked}
use Rattle.hub_c.proofs.Pinned.{same_hub}
use Rattle.hub_c.proofs.messages.presence_hub_step1.Goals as goal

pub returns-clause-hub : goal.returns-clause-hub
returns-clause-hub c = same_hub c.args.hub.now c.hub.result.now c.hub.ensures.now

pub returns-clause-asked : goal.returns-clause-asked
returns-clause-asked c made = record {
  answer = c.step1.result;
  number = c.tell_length.ensures.number;
  pins = (c.tell_length.ensures.told, subst (λ (h : ProductHub). Asked h c.args.out.now c.step1.new.out c.step1.result) c.hub.ensures.now (record { written = c.step1.ensures.written; law = c.step1.ensures.law }));
}
