use Rattle.std.proofs.lemmas.List.{drop-set-lt}
use Rattle.state_vector.proofs.Shifts.{take_set_both}
use Rattle.state_vector.proofs.lent.replace.Goals as goal

pub returns : goal.returns
returns g c =
    let xs = c.args.entries.now in
    record {
      used = take_set_both c.args.len xs c.args.at c.args.newcomer;
      rest = drop-set-lt c.args.len xs c.args.at c.args.newcomer c.requires.within;
    }
