-- What std trims is what the definition says.
use Rattle.std.proofs.Common.{ap, ◌∙◌}
use Rattle.std.proofs.lemmas.Str.Ascii.{trim_ascii_start_is}
use Rattle.call_line.specs.Words.{begun}
use Rattle.call_line.proofs.words.cut_word.Goals as goal

pub returns-clause-rest : goal.returns-clause-rest
returns-clause-rest c = trim_ascii_start_is _ _ c.trim_ascii_start.ensures.value ∙ ap begun c.cut_at_blank.ensures.rest
