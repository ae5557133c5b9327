-- What a draft says.
--   tells   what a draft says, by the bytes of its parts
use Rattle.message.specs.declared.write.Draft.{Draft}
use Rattle.message.specs.declared.write.Draft.TheVariants.{SyncStep2, Update, AuthDenied, AuthGranted, AwarenessQuery, Custom}
use Rattle.message.specs.Writing.{Told, step2, update, denied, granted, query, custom}

-- what a draft says, by the bytes of its parts
abbrev pub tells : Draft → Told
tells (SyncStep2 part) = step2 part.now
tells (Update part) = update part.now
tells (AuthDenied reason) = denied reason.now
tells AuthGranted = granted
tells AwarenessQuery = query
tells (Custom tag part) = custom tag part.now
