use Rattle.boards.specs.Counts.{exact_counts, counts_are}
use Rattle.boards.proofs.count_laws.count_updates_are_as_spelt.Goals as goal

pub returns : goal.returns
returns c = record { reading = exact_counts; writing = counts_are }
