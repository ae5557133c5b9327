use Rattle.std.proofs.Common.{sym, subst, ◌∙◌}
use Rattle.std.proofs.lemmas.Bool.Decides.{same_from_decides}
use Rattle.std.specs.Prelude.{Decides}
use Rattle.encoding.specs.Utf8.{Text, is_text}
use Rattle.encoding.proofs.Utf8s.{text_decides}
use Rattle.encoding.proofs.utf8.is_text.Goals as goal

pub returns-clause-test : goal.returns-clause-test
returns-clause-test c = same_from_decides c.is_utf8.result (is_text c.past_parts.result.now) c.is_utf8.ensures (text_decides c.past_parts.result.now) ∙ c.past_parts.ensures

pub returns-clause-spelt : goal.returns-clause-spelt
returns-clause-spelt c = subst (λ b. Decides b (Text c.args.s.now)) (sym (returns-clause-test c)) (text_decides c.args.s.now)
