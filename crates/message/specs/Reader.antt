-- A reader of messages: where it stands, and what is still to come.
--   Reader      the place that it has come to, and the bytes from there on
--   row_from    the row that bytes hold from a place on
--   to_come     the row that a reader has before it
--   Moves       a reader goes past a message
--   ComesNext   what a reader answers, and where it then stands
use Rattle.std.specs.Prelude.{◌≡◌, ℕ, ◌+◌, ◌-◌, List, [], length, Option, MatchOption}
use Rattle.message.specs.declared.messages.Placed.{Placed}
use Rattle.message.specs.Message.{means}
use Rattle.message.specs.Messages.{whole, next, Messages, before, messages_in, placed_is}

-- the place that a reader has come to, and the bytes from there on
pub record Reader : Type 0 where
  pub place : ℕ
  pub left : List ℕ

-- the row that bytes hold from a place on
abbrev pub row_from : ℕ → List ℕ → Messages
row_from place s = messages_in (length s) place s

-- the row that a reader has before it
abbrev pub to_come : Reader → Messages
to_come r = row_from r.place r.left

-- a message stands at the reader, which then stands at the bytes after it, as many places further on; the rest of the row is then to come
pub record Moves (r : Reader) (p : Placed) (then : Reader) : Type 0 where
  pub message : next r.left ≡ whole (means p.message) then.left
  pub place : p.place ≡ r.place
  pub further : then.place ≡ r.place + (length r.left - length then.left)
  pub row : to_come r ≡ before (placed_is p) (to_come then)

-- the first message of the row, and then the rest of it is to come; or none where there is none, and the reader stays
abbrev pub ComesNext : Reader → Option Placed → Reader → Type 0
ComesNext r answer then = MatchOption answer (((to_come r).said ≡ []) × (then ≡ r)) (λ p. Moves r p then)
