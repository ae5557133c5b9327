use Rattle.std.proofs.Common.{◌-◌, ◌++◌, length, drop, ap, ◌∙◌, arith}
use Rattle.message.proofs.Padding.{filled_behind}
use Rattle.message.proofs.text.write_over.Goals as goal

pub returns : goal.returns
returns c =
    let text = c.args.text.now in
    let back = c.split_at_mut-front.result.1.now in
    let k = c.saturating_sub.result - 0 in
    ap (λ xs. xs ++ (c.fill.new.self ++ drop k back)) c.copy_from_slice.ensures.after
    ∙ ap (λ ys. text ++ ys) (filled_behind c.args.bytes.now (length text) c.args.held c.requires.fits c.requires.held c.requires.zeros back c.fill.new.self k c.split_at_mut-front.ensures.back (omega (arith, c.saturating_sub.ensures)) (c.fill.ensures.after (λ y h. h)))
