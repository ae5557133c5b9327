-- What is written are digits and spaces, which are text.
use Rattle.std.proofs.Common.{◌∷◌, ◌++◌, sym, ap, ◌∙◌, append_assoc, arith, rules}
use Rattle.std.proofs.Output.{has_written_append}
use Rattle.std.proofs.lemmas.Grind.{flat_map-append}
use Rattle.std.specs.Slice.Iter.{chunks_rest}
use Rattle.hexadecimal.specs.Text.{byte_text, spaced}
use Rattle.hexadecimal.proofs.Texts.{answered, digits_text, glyph_ascii}
use Rattle.hexadecimal.proofs.HexDisplay.fmt.Goals as goal

pub unwrap-requires : goal.unwrap-requires
unwrap-requires g c =
    let high = glyph_ascii c.digit.result _ c.digit.ensures (omega arith) in
    let low = glyph_ascii c.digit-in-len1-up.result _ c.digit-in-len1-up.ensures (omega arith) in
    answered c.from_utf8.result _ _ c.from_utf8.ensures.cases (λ e h. h.0 (digits_text c.digit.result c.digit-in-len1-up.result high low))

pub loop-part-preserved : goal.loop-part-preserved
loop-part-preserved g c =
    let steps = c.in-Some.ensures.steps in
    let part = c.in-Some.part.now in
    let rest = chunks_rest c.next.new.self in
    let size = c.loop-part.invariant.2 in (
      search rules,
      tt,
      steps.0 ∙ size,
      λ plain.
          let so_far = c.loop-part.invariant.3 plain in (
            so_far.0 ++ spaced part,
            has_written_append _ _ _ _ _ _ so_far.1 (search rules),
            append_assoc so_far.0 (spaced part) (spaced rest) ∙ ap (λ t. so_far.0 ++ t) (sym (flat_map-append (λ b. 32 ∷ byte_text b) part rest) ∙ ap spaced (sym steps.1.0)) ∙ so_far.2,
          ),
    )
