use Rattle.std.proofs.Common.{rules, ◌≡◌, ℕ, true, false, [], ◌∷◌, refl, ◌∙◌, subst}
use Rattle.state_vector.specs.Tables.{ascends}
use Rattle.message.specs.Presence.{Entry}
use Rattle.awareness.specs.Calls.{past_end}
use Rattle.awareness.specs.Following.{stands}
use Rattle.awareness.specs.Record.{Clients, client_of, held_of}
use Rattle.awareness.proofs.Following.{Follows, follows_start, follows_own, follows_end, follows_other, follows_done, low_of_writable}
use Rattle.awareness.proofs.awareness.Awareness.judge_rise.Goals as goal

-- before the entry, the own record stands as it is held
begins : (a : Clients) (e : Entry) (now : ℕ) → ascends client_of a.rows ≡ true → past_end (held_of a.own a.rows) ≡ false → Follows a.own now a.rows (e ∷ []) (stands (held_of a.own a.rows)) (e ∷ [])
begins a e now up low = follows_start a.own now a.rows (e ∷ []) (e ∷ []) (stands (held_of a.own a.rows)) refl up refl low

pub returns-in_err-after : goal.returns-in_err-after
returns-in_err-after c now =
    let a = c.args.self.now in
    let up = subst (λ a. ascends client_of a.rows ≡ true) c.self.view_is c.self.invariant.1 in
    let low = subst (λ a. past_end (held_of a.own a.rows) ≡ false) c.self.view_is (low_of_writable c.self.inside.own c.self.inside.table c.self.invariant.2) in
    let b = begins a c.args.e.now now up low in
    (search rules) ∙ follows_end a.own now a.rows (c.args.e.now ∷ []) (stands (held_of a.own a.rows)) b.0 (c.args.e.now ∷ []) c.args.e.now [] b.1 refl c.after.result c.in_err-after.field-0.0 (search rules) (search rules) (search rules)

pub returns-in_ok-after : goal.returns-in_ok-after
returns-in_ok-after c now =
    let a = c.args.self.now in
    let up = subst (λ a. ascends client_of a.rows ≡ true) c.self.view_is c.self.invariant.1 in
    let low = subst (λ a. past_end (held_of a.own a.rows) ≡ false) c.self.view_is (low_of_writable c.self.inside.own c.self.inside.table c.self.invariant.2) in
    let b = begins a c.args.e.now now up low in
    follows_done a.own now a.rows (c.args.e.now ∷ []) _ [] (follows_own a.own now a.rows (c.args.e.now ∷ []) (stands (held_of a.own a.rows)) b.0 (c.args.e.now ∷ []) c.args.e.now [] b.1 refl c.after.result c.in_ok-after.field-0 (search rules) (search rules) (search rules)) refl

pub returns-else-client-self : goal.returns-else-client-self
returns-else-client-self c now =
    let a = c.args.self.now in
    let up = subst (λ a. ascends client_of a.rows ≡ true) c.self.view_is c.self.invariant.1 in
    let low = subst (λ a. past_end (held_of a.own a.rows) ≡ false) c.self.view_is (low_of_writable c.self.inside.own c.self.inside.table c.self.invariant.2) in
    let b = begins a c.args.e.now now up low in
    follows_done a.own now a.rows (c.args.e.now ∷ []) _ [] (follows_other a.own now a.rows (c.args.e.now ∷ []) (stands (held_of a.own a.rows)) b.0 (c.args.e.now ∷ []) c.args.e.now [] b.1 refl (search rules)) refl
