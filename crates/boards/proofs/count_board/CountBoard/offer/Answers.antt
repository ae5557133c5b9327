use Rattle.std.proofs.Common.{◌≡◌, ◌≤◌, leb, length, take, sym, ap, ◌∙◌, is_ok, arith, length-take}
use Rattle.joined_tables.specs.Joined.{enter}
use Rattle.joined_tables.proofs.Arriving.{enter_not}
use Rattle.joined_tables.proofs.Offered.{answered, comes_in, sound_offered, stays_out}
use Rattle.boards.specs.CountBoard.{client_of, outranks, keepable, board}
use Rattle.boards.specs.Counts.{kept_if, dropped_if}
use Rattle.boards.proofs.count_board.CountBoard.offer.Goals as goal

-- a count of 0 may not be held
pub returns-then-e-eq0-clause-fits : goal.returns-then-e-eq0-clause-fits
returns-then-e-eq0-clause-fits c =
    let b = c.args.self.now in
    let xs = take b.len b.counts in
    let few : length xs ≤ 64 = omega (arith, length-take b.len b.counts) in
    sym (stays_out client_of outranks keepable 64 xs c.args.e few b.sound (dropped_if c.args.e (omega arith)))

pub returns-then-e-eq0-clause-comes : goal.returns-then-e-eq0-clause-comes
returns-then-e-eq0-clause-comes c =
    let b = c.args.self.now in
    sym (enter_not client_of outranks keepable (board (take b.len b.counts)) c.args.e (dropped_if c.args.e (omega arith)))

-- any other that has a client and a width may
pub invariant_of-self : goal.invariant_of-self
invariant_of-self c =
    let b = c.args.self.now in
    let xs = take b.len b.counts in
    let few : length xs ≤ length b.counts = omega (arith, length-take b.len b.counts) in
    let fine = kept_if c.args.e c.requires.known (omega arith) c.requires.narrow in
    let t = c.offer-answer.new.self in
    record { few = omega arith; sound = (sound_offered client_of outranks keepable (length b.counts) xs c.args.e few b.sound fine (take t.len t.entries.now) c.offer-answer.ensures.used).1 }

pub returns-in-Ok-clause-fits : goal.returns-in-Ok-clause-fits
returns-in-Ok-clause-fits c =
    let b = c.args.self.now in
    let xs = take b.len b.counts in
    let few : length xs ≤ length b.counts = omega (arith, length-take b.len b.counts) in
    let places : length b.counts ≡ 64 = omega arith in
    let fine = kept_if c.args.e c.requires.known (omega arith) c.requires.narrow in
    sym (ap is_ok c.in-Ok.is) ∙ answered client_of outranks keepable (length b.counts) xs c.args.e few b.sound fine c.offer-answer.result c.offer-answer.ensures.answer
    ∙ ap (leb (length (enter client_of outranks keepable (board xs) c.args.e).0)) places

pub returns-in-Ok-clause-comes : goal.returns-in-Ok-clause-comes
returns-in-Ok-clause-comes c =
    let b = c.args.self.now in
    let xs = take b.len b.counts in
    let few : length xs ≤ length b.counts = omega (arith, length-take b.len b.counts) in
    let fine = kept_if c.args.e c.requires.known (omega arith) c.requires.narrow in
    let t = c.offer-answer.new.self in
    comes_in client_of outranks keepable (length b.counts) xs c.args.e few b.sound fine c.offer-answer.result (take t.len t.entries.now) c.offer-answer.ensures.answer c.offer-answer.ensures.used (ap is_ok c.in-Ok.is)

pub returns-in-Err-clause-fits : goal.returns-in-Err-clause-fits
returns-in-Err-clause-fits c =
    let b = c.args.self.now in
    let xs = take b.len b.counts in
    let few : length xs ≤ length b.counts = omega (arith, length-take b.len b.counts) in
    let places : length b.counts ≡ 64 = omega arith in
    let fine = kept_if c.args.e c.requires.known (omega arith) c.requires.narrow in
    sym (ap is_ok c.in-Err.is) ∙ answered client_of outranks keepable (length b.counts) xs c.args.e few b.sound fine c.offer-answer.result c.offer-answer.ensures.answer
    ∙ ap (leb (length (enter client_of outranks keepable (board xs) c.args.e).0)) places
