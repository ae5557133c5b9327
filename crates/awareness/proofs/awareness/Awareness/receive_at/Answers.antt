use Rattle.std.proofs.Common.{◌≤◌, ◌∙◌, sym, subst, length}
use Rattle.awareness.proofs.Renewing.{kept_rows, renewed_rows}
use Rattle.awareness.proofs.awareness.Awareness.receive_at.Goals as goal

pub renew-requires-clause-room : goal.renew-requires-clause-room
renew-requires-clause-room c =
    subst (λ rows. length rows ≤ 64) (renewed_rows c.args.self.now.own c.args.e.now.time c.args.e.now.entry.now c.args.self.now.rows c.change_at-change.ensures.ascends c.change_at-change.result c.change_at-change.ensures.change c.in_default.not-Kept c.in_default.not-Raised) c.requires.room

pub returns-in-Kept-clause-rows : goal.returns-in-Kept-clause-rows
returns-in-Kept-clause-rows c = kept_rows c.args.self.now.own c.args.e.now.time c.args.e.now.entry.now c.args.self.now.rows c.change_at-change.ensures.ascends c.change_at-change.result c.change_at-change.ensures.change c.in-Kept.is

pub returns-in_default : goal.returns-in_default
returns-in_default c = record {
  change = c.change_at-change.ensures.change;
  rows = c.renew.ensures.rows ∙ sym (renewed_rows c.args.self.now.own c.args.e.now.time c.args.e.now.entry.now c.args.self.now.rows c.change_at-change.ensures.ascends c.change_at-change.result c.change_at-change.ensures.change c.in_default.not-Kept c.in_default.not-Raised);
  own = c.renew.ensures.own;
}
