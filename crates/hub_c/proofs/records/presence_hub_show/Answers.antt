use Rattle.std.proofs.Common.{subst}
use Rattle.std.specs.Option.{option_copied}
use Rattle.std.specs.Result.{result_map_both}
use Rattle.hub_c.specs.Places.{ProductHub}
use Rattle.hub_c.specs.Pins.{Shown}
use Rattle.hub_c.proofs.Pinned.{same_hub}
use Rattle.hub_c.proofs.records.presence_hub_show.Goals as goal

pub returns-clause-hub : goal.returns-clause-hub
returns-clause-hub c = same_hub c.args.hub.now c.hub.result.now c.hub.ensures.now

pub returns-clause-shown : goal.returns-clause-shown
returns-clause-shown c made = subst (λ (h : ProductHub). Shown h c.args.client c.args.text.now c.tell_shown.new.text c.args.told.now c.tell_shown.new.told c.tell_shown.result) c.hub.ensures.now (record {
  answer = result_map_both option_copied (λ x. x) c.show.result;
  held = c.show.ensures.shown;
  number = c.tell_shown.ensures.number;
  told_of = c.tell_shown.ensures.told;
  text = c.tell_shown.ensures.text;
  law = c.show.ensures.law;
})
