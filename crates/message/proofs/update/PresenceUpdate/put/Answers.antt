use Rattle.std.proofs.Common.{◌≡◌, ℕ, ◌<◌, leb, List, length, take, refl, subst, sym, ap, ◌∙◌, arith}
use Rattle.std.specs.List.{All, insert}
use Rattle.std.proofs.lemmas.Bool.{cond-false, lt-leb}
use Rattle.std.proofs.lemmas.List.{length-take-le}
use Rattle.state_vector.specs.Tables.{always, updated, Found, Missing}
use Rattle.state_vector.proofs.Offering.{replaces, comes_in, ascends_after}
use Rattle.message.specs.Presence.{Entry}
use Rattle.message.specs.Writing.{Readable}
use Rattle.message.proofs.Sound.{All-updated}
use Rattle.message.proofs.update.PresenceUpdate.put.Goals as goal

pub invariant_of-self : goal.invariant_of-self
invariant_of-self c =
    let b = c.self.inside in
    let xs = take b.len b.entries in
    let found = subst (λ ys. Found (λ e. e.client) c.client.result ys c.in-Ok.at) (c.entries.ensures.all ∙ sym c.self.view_is) c.in-Ok.ensures in
    let is = c.replace.ensures.used ∙ sym (replaces (λ e. e.client) always 64 xs c.args.e c.client.result c.client.ensures.value c.in-Ok.at found c.args.e refl).0 in (
      c.self.invariant.0,
      ascends_after (λ e. e.client) always 64 xs c.args.e _ is c.self.invariant.1,
      subst (λ ys. All Readable ys) (sym is) (All-updated (λ e. e.client) Readable 64 xs c.args.e (subst Readable c.e.view_is c.e.invariant) c.self.invariant.2),
    )

pub returns-in-Ok-clause-used : goal.returns-in-Ok-clause-used
returns-in-Ok-clause-used c =
    let b = c.self.inside in
    let xs = take b.len b.entries in
    let found = subst (λ ys. Found (λ e. e.client) c.client.result ys c.in-Ok.at) (c.entries.ensures.all ∙ sym c.self.view_is) c.in-Ok.ensures in
    c.replace.ensures.used ∙ sym (replaces (λ e. e.client) always 64 xs c.args.e c.client.result c.client.ensures.value c.in-Ok.at found c.args.e refl).0
    ∙ ap (λ ys. updated (λ e. e.client) 64 ys c.args.e) c.self.view_is

-- where a place is left, an entry of another client comes in
came_in : (xs : List Entry) (e : Entry) (n c i : ℕ) → c ≡ e.client → Missing (λ e. e.client) c xs i → length xs ≡ n → n < 64 → updated (λ e. e.client) 64 xs e ≡ insert xs i e
came_in xs e n c i is missing long room = (comes_in (λ e. e.client) always 64 xs e c is i missing n long).0 ∙ cond-false (leb 64 n) xs (insert xs i e) (lt-leb 64 n room)

pub invariant_of-self-then-self-lt-MAX_ENTRIES : goal.invariant_of-self-then-self-lt-MAX_ENTRIES
invariant_of-self-then-self-lt-MAX_ENTRIES c =
    let b = c.self.inside in
    let xs = take b.len b.entries in
    let missing = subst (λ ys. Missing (λ e. e.client) c.client.result ys c.in-Err.at) (c.entries.ensures.all ∙ sym c.self.view_is) c.in-Err.ensures in
    let is = c.insert.ensures.used ∙ sym (came_in xs c.args.e b.len c.client.result c.in-Err.at c.client.ensures.value missing (length-take-le b.len b.entries (omega arith)) (omega arith)) in (
      omega arith,
      ascends_after (λ e. e.client) always 64 xs c.args.e _ is c.self.invariant.1,
      subst (λ ys. All Readable ys) (sym is) (All-updated (λ e. e.client) Readable 64 xs c.args.e (subst Readable c.e.view_is c.e.invariant) c.self.invariant.2),
    )

pub returns-in-Err-clause-used : goal.returns-in-Err-clause-used
returns-in-Err-clause-used c =
    let b = c.self.inside in
    let xs = take b.len b.entries in
    let missing = subst (λ ys. Missing (λ e. e.client) c.client.result ys c.in-Err.at) (c.entries.ensures.all ∙ sym c.self.view_is) c.in-Err.ensures in
    c.insert.ensures.used ∙ sym (came_in xs c.args.e b.len c.client.result c.in-Err.at c.client.ensures.value missing (length-take-le b.len b.entries (omega arith)) (omega arith))
    ∙ ap (λ ys. updated (λ e. e.client) 64 ys c.args.e) c.self.view_is
