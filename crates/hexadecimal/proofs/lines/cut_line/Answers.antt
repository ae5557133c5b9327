-- Where no byte is a line feed, all of them stand before the first one.
use Rattle.std.proofs.Common.{◌+◌, ◌==◌, length, arith, rules, take_all}
use Rattle.std.proofs.lemmas.List.{drop_all}
use Rattle.std.proofs.lemmas.List.Sums.{position_or_len_is}
use Rattle.hexadecimal.proofs.lines.cut_line.Goals as goal

pub returns-in-None : goal.returns-in-None
returns-in-None c =
    let text = c.args.text.now in
    let at = position_or_len_is (λ b. b == 10) text (length text) 0 (omega arith) (search rules) (search rules) in
    record { line = rw (at, take_all (length text) text (omega arith)); rest = rw (at, drop_all (length text + 1) text (omega arith)); shorter = search rules }
