use Rattle.std.proofs.Common.{subst}
use Rattle.hub_c.specs.Places.{ProductHub}
use Rattle.hub_c.specs.Pins.{Started}
use Rattle.hub_c.proofs.Pinned.{same_hub}
use Rattle.hub_c.proofs.messages.presence_hub_start.Goals as goal

pub returns-clause-hub : goal.returns-clause-hub
returns-clause-hub c = same_hub c.args.hub.now c.hub.result.now c.hub.ensures.now

pub returns-clause-started : goal.returns-clause-started
returns-clause-started c made = record {
  answer = c.start.result;
  number = c.tell_length.ensures.number;
  pins = (c.tell_length.ensures.told, subst (λ (h : ProductHub). Started h c.args.out.now c.start.new.out c.start.result) c.hub.ensures.now (record { written = c.start.ensures.written; law = c.start.ensures.law }));
}
