-- What std trims is what the definition says.
use Rattle.std.proofs.Common.{refl}
use Rattle.std.proofs.lemmas.Str.Ascii.{trim_ascii_is}
use Rattle.call_line.proofs.words.trim.Goals as goal

pub returns : goal.returns
returns c = trim_ascii_is _ _ _ refl c.trim_ascii.ensures.value
