use Rattle.std.proofs.Common.{rules, ◌≡◌, length, true, Ok, sym, ap, ◌∙◌}
use Rattle.std.specs.Result.{result_and}
use Rattle.message.specs.Presence.{presence}
use Rattle.awareness.specs.Calls.{apply, applied}
use Rattle.awareness.specs.Summaries.{enough, lengths_of, over}
use Rattle.message.proofs.Arrivals.{few_entries}
use Rattle.awareness.proofs.Summaries.{told_so}
use Rattle.awareness.proofs.awareness.Awareness.apply_update_summary.Goals as goal

pub returns-clause-answer : goal.returns-clause-answer
returns-clause-answer g c =
    let own = c.args.self.now.own in
    let now = g.C.Clock.next c.args.clock.now in
    let rows = c.args.self.now.rows in
    let fits : enough c.args.lists.now ≡ true = search rules in
    let fine : (applied own now rows (presence c.args.update.now)).answer ≡ Ok c.in_ok-apply_bytes.field-0 = search rules in
    let t = told_so (enough c.args.lists.now) own now rows (presence c.args.update.now) c.in_ok-apply_bytes.field-0 c.new-seen.result c.apply_bytes.new.seen fits fine (few_entries c.args.update.now) c.new-seen.ensures c.apply_bytes.ensures.seen in
    let xs = (apply (enough c.args.lists.now) own now rows (presence c.args.update.now)).changes in
    let lens : c.fill.result ≡ lengths_of xs = c.fill.ensures.lengths
    ∙ ap (λ l. record { added = length l; updated = length c.apply_bytes.new.seen.updated; changed = length c.apply_bytes.new.seen.changed; removed = length c.apply_bytes.new.seen.removed }) t.added
    ∙ ap (λ l. record { added = (lengths_of xs).added; updated = length l; changed = length c.apply_bytes.new.seen.changed; removed = length c.apply_bytes.new.seen.removed }) t.updated
    ∙ ap (λ l. record { added = (lengths_of xs).added; updated = (lengths_of xs).updated; changed = length l; removed = length c.apply_bytes.new.seen.removed }) t.changed
    ∙ ap (λ l. record { added = (lengths_of xs).added; updated = (lengths_of xs).updated; changed = (lengths_of xs).changed; removed = length l }) t.removed in
    ap Ok lens ∙ sym (ap (λ r. result_and r (Ok (lengths_of xs))) t.answer)

pub returns-clause-lists : goal.returns-clause-lists
returns-clause-lists g c =
    let own = c.args.self.now.own in
    let now = g.C.Clock.next c.args.clock.now in
    let rows = c.args.self.now.rows in
    let fits : enough c.args.lists.now ≡ true = search rules in
    let fine : (applied own now rows (presence c.args.update.now)).answer ≡ Ok c.in_ok-apply_bytes.field-0 = search rules in
    let t = told_so (enough c.args.lists.now) own now rows (presence c.args.update.now) c.in_ok-apply_bytes.field-0 c.new-seen.result c.apply_bytes.new.seen fits fine (few_entries c.args.update.now) c.new-seen.ensures c.apply_bytes.ensures.seen in
    record {
      added = c.fill.ensures.added ∙ ap (λ l. over l c.args.lists.now.added.now) t.added;
      updated = c.fill.ensures.updated ∙ ap (λ l. over l c.args.lists.now.updated.now) t.updated;
      changed = c.fill.ensures.changed ∙ ap (λ l. over l c.args.lists.now.changed.now) t.changed;
      removed = c.fill.ensures.removed ∙ ap (λ l. over l c.args.lists.now.removed.now) t.removed;
      added_long = c.fill.ensures.added_long;
      updated_long = c.fill.ensures.updated_long;
      changed_long = c.fill.ensures.changed_long;
      removed_long = c.fill.ensures.removed_long;
      added_is = c.fill.ensures.added_is;
      updated_is = c.fill.ensures.updated_is;
      changed_is = c.fill.ensures.changed_is;
      removed_is = c.fill.ensures.removed_is;
    }
