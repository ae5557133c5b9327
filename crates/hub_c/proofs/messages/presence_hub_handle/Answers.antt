use Rattle.std.proofs.Common.{subst}
use Rattle.hub_c.specs.Places.{ProductHub}
use Rattle.hub_c.specs.Pins.{Handling}
use Rattle.hub_c.proofs.messages.presence_hub_handle.Goals as goal

pub returns-clause-handled : goal.returns-clause-handled
returns-clause-handled c made = record {
  answer = c.handle.result;
  number = c.tell_handled.ensures.number;
  pins = (
    c.tell_handled.ensures.told,
    subst (λ (h : ProductHub). Handling h c.handle.new.self c.args.bytes.now c.args.replies.now c.handle.new.replies c.handle.result) c.hub.ensures.now (record {
      handles = c.handle.ensures.handles;
      host = c.handle.ensures.host_untouched;
      policy = c.handle.ensures.policy_untouched;
      law = c.handle.ensures.law;
    }),
  );
}
