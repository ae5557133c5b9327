use Rattle.std.proofs.Common.{rules, ◌≡◌, ℕ, ◌+◌, ◌≤◌, ◌<◌, length, true, Some, None, Ok, Err, sym, ap, ◌∙◌, subst, arith, cond, leb, ◌^◌, Result}
use Rattle.state_vector.specs.Tables.{ascends}
use Rattle.awareness.specs.declared.fault.PresenceFault.{PresenceFault}
use Rattle.awareness.specs.declared.fault.PresenceFault.TheVariants.{ClockAtEnd}
use Rattle.awareness.specs.Record.{client_of, held_of}
use Rattle.awareness.specs.Taking.{next_clock}
use Rattle.awareness.proofs.Next.{next_held, next_new, next_full, long_held, long_new}
use Rattle.awareness.proofs.awareness.Awareness.next_clock.Goals as goal

pub returns-in-Some : goal.returns-in-Some
returns-in-Some c = record {
  answer = λ r mine next.
      let is : held_of c.args.client c.args.self.now.rows ≡ Some c.in-Some.held.now = search rules in
      let up = subst (λ a. ascends client_of a.rows ≡ true) c.self.view_is c.self.invariant.1 in
      let n = c.in-Some.held.now.clock + 1 in
      let counted : c.ok_or.result ≡ cond {A = Result ℕ PresenceFault} (leb (2 ^ 32) n) (Err ClockAtEnd) (Ok n) = search rules in
      let higher : next_clock (held_of c.args.client c.args.self.now.rows) ≡ n = ap next_clock is in
      let few : length c.args.self.now.rows ≤ 64 = search rules in
      counted ∙ sym (next_held c.args.client c.args.self.now.rows r mine up {X = ℕ} (Ok (next_clock (held_of c.args.client c.args.self.now.rows))) c.in-Some.held.now is few ∙ ap (λ m. cond {A = Result ℕ PresenceFault} (leb (2 ^ 32) m) (Err ClockAtEnd) (Ok (next_clock (held_of c.args.client c.args.self.now.rows)))) (next ∙ higher) ∙ ap (λ m. cond {A = Result ℕ PresenceFault} (leb (2 ^ 32) n) (Err ClockAtEnd) (Ok m)) higher);
  room = λ r mine ok.
      let is : held_of c.args.client c.args.self.now.rows ≡ Some c.in-Some.held.now = search rules in
      let up = subst (λ a. ascends client_of a.rows ≡ true) c.self.view_is c.self.invariant.1 in
      let few : length c.args.self.now.rows ≤ 64 = search rules in
      omega (arith, long_held c.args.client c.args.self.now.rows r mine up c.in-Some.held.now is, few);
}

pub returns-in-None : goal.returns-in-None
returns-in-None c = record {
  answer = λ r mine next.
      let is : held_of c.args.client c.args.self.now.rows ≡ None = search rules in
      let up = subst (λ a. ascends client_of a.rows ≡ true) c.self.view_is c.self.invariant.1 in
      let l : length c.args.self.now.rows < 64 = search rules in
      let one : next_clock (held_of c.args.client c.args.self.now.rows) ≡ 1 = ap next_clock is in
      sym (next_new c.args.client c.args.self.now.rows r mine up {X = ℕ} (Ok (next_clock (held_of c.args.client c.args.self.now.rows))) is l ∙ ap (λ n. cond {A = Result ℕ PresenceFault} (leb (2 ^ 32) n) (Err ClockAtEnd) (Ok (next_clock (held_of c.args.client c.args.self.now.rows)))) (next ∙ one) ∙ ap Ok one);
  room = λ r mine ok.
      let is : held_of c.args.client c.args.self.now.rows ≡ None = search rules in
      let up = subst (λ a. ascends client_of a.rows ≡ true) c.self.view_is c.self.invariant.1 in
      let l : length c.args.self.now.rows < 64 = search rules in
      omega (arith, long_new c.args.client c.args.self.now.rows r mine up is, l);
}

pub returns-in-None-2 : goal.returns-in-None-2
returns-in-None-2 c = record {
  answer = λ r mine next.
      let is : held_of c.args.client c.args.self.now.rows ≡ None = search rules in
      let up = subst (λ a. ascends client_of a.rows ≡ true) c.self.view_is c.self.invariant.1 in
      let l : 64 ≤ length c.args.self.now.rows = search rules in
      sym (next_full c.args.client c.args.self.now.rows r mine up {X = ℕ} (Ok (next_clock (held_of c.args.client c.args.self.now.rows))) is l);
  room = λ r mine ok. cc;
}
