use Rattle.std.proofs.Common.{◌≡◌, true, ◌++◌, take, sym, ap, ◌∙◌, take-append-drop}
use Rattle.std.proofs.lemmas.Bool.Decides.{same_from_decides}
use Rattle.encoding.specs.Utf8.{is_text}
use Rattle.encoding.proofs.Utf8s.{text_append, text_decides}
use Rattle.encoding.proofs.utf8.past_parts.Goals as goal

-- a part that is text is passed, and what follows decides
pub loop-rest-preserved : goal.loop-rest-preserved
loop-rest-preserved c =
    let part = c.split_at.result.0.now in
    let next = c.split_at.result.1.now in
    let text : is_text part ≡ true = sym (same_from_decides c.is_utf8.result (is_text part) c.is_utf8.ensures (text_decides part)) ∙ c.if-not-is_utf8.false in
    let whole : part ++ next ≡ c.loop-rest.rest.now = ap (λ xs. xs ++ next) c.split_at.ensures.front ∙ ap (λ ys. take c.back-end.result c.loop-rest.rest.now ++ ys) c.split_at.ensures.back ∙ take-append-drop c.back-end.result c.loop-rest.rest.now in
    sym (text_append part next text) ∙ ap is_text whole ∙ c.loop-rest.invariant
