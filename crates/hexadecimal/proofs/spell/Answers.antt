-- What is spelt are digits and spaces, which are text.
use Rattle.std.proofs.Common.{◌≡◌, ◌-◌, ◌*◌, length, take, take_all, subst, sym, ap, ◌∙◌, arith, rules}
use Rattle.std.proofs.lemmas.Str.{IsUtf8-from_ascii}
use Rattle.std.specs.Str.{IsUtf8}
use Rattle.hexadecimal.specs.Text.{spaced}
use Rattle.hexadecimal.proofs.Texts.{answered, ascii_spaced}
use Rattle.hexadecimal.proofs.spell.Goals as goal

pub unwrap-requires : goal.unwrap-requires
unwrap-requires c =
    let bytes = c.args.bytes.now in
    let whole : take (3 * c.loop-i.i) c.loop-i.text ≡ spaced bytes = c.loop-i.invariant.0 ∙ ap spaced (take_all c.loop-i.i bytes (omega arith)) in
    let ends : 3 * length bytes - 0 ≡ 3 * c.loop-i.i = omega arith in
    let text : IsUtf8 (spaced bytes) = IsUtf8-from_ascii (spaced bytes) (ascii_spaced bytes (λ i. search rules)) in
    answered c.from_utf8.result _ _ c.from_utf8.ensures.cases (λ e h. h.0 (subst IsUtf8 (sym (ap (λ n. take n c.loop-i.text) ends ∙ whole)) text))
