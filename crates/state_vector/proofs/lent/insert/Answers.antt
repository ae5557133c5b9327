use Rattle.std.proofs.Common.{◌≡◌, ◌+◌, length, take, drop, ap, ◌∙◌, arith}
use Rattle.std.specs.List.{insert}
use Rattle.std.proofs.lemmas.List.{length-take-le, take_at, drop_at}
use Rattle.std.proofs.lemmas.List.Edits.{length-insert}
use Rattle.state_vector.proofs.Shifts.{turned_in}
use Rattle.state_vector.proofs.lent.insert.Goals as goal

pub returns : goal.returns
returns g c =
    let xs = c.args.entries.now in
    let len = c.args.len in
    let at = c.args.at in
    let e = c.args.e in
    let whole = turned_in xs len at e c.requires.within c.requires.fits c.rotate_right.new.self c.rotate_right.ensures.after in
    let some : length (take len xs) ≡ len = length-take-le len xs (omega arith) in
    let long : length (insert (take len xs) at e) ≡ len + 1 = length-insert (take len xs) at e (omega arith) ∙ ap (λ n. n + 1) some in
    record {
      used = ap (take (len + 1)) whole ∙ take_at _ _ _ long;
      rest = ap (drop (len + 1)) whole ∙ drop_at _ _ _ long;
    }
