use Rattle.std.proofs.Common.{◌≡◌, ◌-◌}
use Rattle.encoding.specs.Entries.{entries, past}
use Rattle.encoding.proofs.entries.pass_entries.Given as goal

-- what is left to pass ends as the whole does
abbrev pub invariant-loop : goal.invariant-loop
invariant-loop g l = past (entries g.L.Layout.entry l.n l.s) ≡ past (entries g.L.Layout.entry (l.n - l.counter) l.rest)
