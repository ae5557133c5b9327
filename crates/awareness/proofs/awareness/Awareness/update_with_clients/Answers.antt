use Rattle.std.proofs.Common.{rules, ◌≡◌, ℕ, List, Ok, Err, Result, filter, sym, ap, ◌∙◌, subst}
use Rattle.encoding.specs.TwoSinks.{Filled}
use Rattle.encoding.specs.Writing.{counted_out}
use Rattle.encoding.specs.declared.sink.BufferTooShort.{BufferTooShort}
use Rattle.message.specs.Writing.{presence_entry_out}
use Rattle.awareness.specs.declared.fault.AwarenessFault.TheVariants.{Short}
use Rattle.awareness.specs.Calls.{has, update_of, Written}
use Rattle.awareness.specs.Record.{Record, entry_of}
use Rattle.awareness.proofs.Asked.{counted_as, listing_is, refused_so}
use Rattle.awareness.proofs.awareness.Awareness.update_with_clients.Goals as goal

-- the bytes of the records that were chosen
filled_so : (rows chosen : List Record) (cs : List ℕ) (old new : List ℕ) (r : Result ℕ BufferTooShort) → chosen ≡ filter (λ r. has cs r.client) rows → Filled old 0 (counted_out (λ r. presence_entry_out (entry_of r)) chosen) r new → Filled old 0 (update_of (λ r. has cs r.client) rows) r new
filled_so rows chosen cs old new r is f = subst (λ bs. Filled old 0 bs r new) (ap (counted_out (λ r. presence_entry_out (entry_of r))) is ∙ counted_as (filter (λ r. has cs r.client) rows)) f

pub returns-in_err-fill : goal.returns-in_err-fill
returns-in_err-fill c =
    let rows = c.args.self.now.rows in
    let cs = c.args.clients.now in
    let f = filled_so rows c.by.result cs c.args.out.now c.fill.new.out c.fill.result (search rules) c.fill.ensures in
    let all = listing_is rows cs (sym c.check_count.ensures ∙ c.in_ok-check_count.was) (sym c.check_ids.ensures ∙ c.in_ok-check_ids.was) (sym c.check_known.ensures ∙ c.in_ok-check_known.was) in
    let told : c.from_residual-in_err-fill.result ≡ Err Short = search rules in
    subst (λ l. Written c.args.out.now l c.from_residual-in_err-fill.result c.fill.new.out) (sym all)
    (subst (λ r. Written c.args.out.now (Ok (update_of (λ r. has cs r.client) rows)) r c.fill.new.out) (sym told)
    (refused_so c.args.out.now (update_of (λ r. has cs r.client) rows) c.fill.new.out c.in_err-fill.field-0.0 (subst (λ r. Filled c.args.out.now 0 (update_of (λ r. has cs r.client) rows) r c.fill.new.out) c.in_err-fill.was f)))

pub returns : goal.returns
returns c =
    let rows = c.args.self.now.rows in
    let cs = c.args.clients.now in
    let f = filled_so rows c.by.result cs c.args.out.now c.fill.new.out c.fill.result (search rules) c.fill.ensures in
    let all = listing_is rows cs (sym c.check_count.ensures ∙ c.in_ok-check_count.was) (sym c.check_ids.ensures ∙ c.in_ok-check_ids.was) (sym c.check_known.ensures ∙ c.in_ok-check_known.was) in
    subst (λ l. Written c.args.out.now l (Ok c.in_ok-fill.field-0) c.fill.new.out) (sym all) (subst (λ r. Filled c.args.out.now 0 (update_of (λ r. has cs r.client) rows) r c.fill.new.out) c.in_ok-fill.was f)
