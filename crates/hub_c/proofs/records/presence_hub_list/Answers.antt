use Rattle.std.proofs.Common.{subst}
use Rattle.hub_c.specs.Places.{ProductHub}
use Rattle.hub_c.specs.Pins.{Listed}
use Rattle.hub_c.proofs.Pinned.{same_hub}
use Rattle.hub_c.proofs.records.presence_hub_list.Goals as goal

pub returns-clause-hub : goal.returns-clause-hub
returns-clause-hub c = same_hub c.args.hub.now c.hub.result.now c.hub.ensures.now

pub returns-clause-listed : goal.returns-clause-listed
returns-clause-listed c made = record {
  answer = c.list.result;
  number = c.tell_length.ensures.number;
  pins = (c.tell_length.ensures.told, subst (λ (h : ProductHub). Listed h c.args.clients.now c.args.out.now c.list.new.out c.list.result) c.hub.ensures.now (record { written = c.list.ensures.written; law = c.list.ensures.law }));
}
