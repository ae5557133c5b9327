-- The own record, followed through an update by its clock and whether it is live.
--   stands     the clock of a record, and whether it is live
--   followed   the same after an own entry
--   so_far     what was followed so far, or else what is held
use Rattle.std.specs.Prelude.{◌+◌, true, not, cond, ◌&&◌, Some, None, Option, is_some, nat_le, nat_lt}
use Rattle.std.specs.Option.{option_map}
use Rattle.message.specs.Presence.{Entry}
use Rattle.awareness.specs.declared.standing.Standing.{Standing}
use Rattle.awareness.specs.Record.{Record}

-- the clock of what is held, and whether it is live
abbrev pub stands : Option Record → Option Standing
stands o = option_map (λ r. record { clock = r.clock; live = is_some r.state }) o

-- an entry's clock, and whether it is live
abbrev pub stands_as : Entry → Standing
stands_as e = record { clock = e.clock; live = is_some e.state }

-- the same after an own entry: a live one goes above a null that is not below it, and any other takes a higher clock
abbrev pub followed : Option Standing → Entry → Standing
followed None e = stands_as e
followed (Some s) e = cond (s.live && (not (is_some e.state) && nat_le s.clock e.clock)) (record { clock = e.clock + 1; live = true }) (cond (nat_lt s.clock e.clock) (stands_as e) s)

-- the standing that was followed so far, or else the one that is held
abbrev pub so_far : Option Standing → Option Standing → Option Standing
so_far None held = held
so_far (Some s) held = Some s
