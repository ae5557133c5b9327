-- The worked cases, by computing.
use Rattle.std.proofs.Common.{refl}
use Rattle.encoding.specs.Utf8.{is_text}
use Rattle.encoding.specs.Writing.{spelt, shortest}
use Rattle.message.specs.Message.{message}
use Rattle.message.specs.Messages.{messages}
use Rattle.message.specs.Presence.{presence}
use Rattle.cases.specs.Cases.{CasesHold}

pub cases_hold : CasesHold
unfolding is_text spelt shortest message messages presence
cases_hold = (refl, (refl, (refl, (refl, ((refl, refl), ((refl, refl), ((refl, refl), ((refl, refl), ((refl, refl), ((refl, refl), ((refl, refl), ((refl, refl), ((refl, refl), ((refl, refl), ((refl, refl), ((refl, refl), tt))))))))))))))))
