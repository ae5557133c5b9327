-- Where no byte is a blank, all of them stand before the first one.
use Rattle.std.proofs.Common.{◌+◌, length, arith, rules, take_all}
use Rattle.std.proofs.lemmas.List.{drop_all}
use Rattle.std.proofs.lemmas.List.Sums.{position_or_len_is}
use Rattle.std.specs.Char.{is_ascii_whitespace}
use Rattle.call_line.proofs.words.cut_at_blank.Goals as goal

pub returns-in-None : goal.returns-in-None
returns-in-None c =
    let text = c.args.line.now in
    let at = position_or_len_is is_ascii_whitespace text (length text) 0 (omega arith) (search rules) (search rules) in
    record { word = rw (at, take_all (length text) text (omega arith)); rest = rw (at, drop_all (length text + 1) text (omega arith)) }
