use Rattle.message.proofs.Contents.{messages_are_as_spelt}
use Rattle.message.proofs.laws.messages_are_as_spelt.Goals as goal

pub returns : goal.returns
returns c = messages_are_as_spelt
