-- What the answers to the calls' goals share.
use Rattle.std.proofs.Common.{◌≡◌, Bool, true, false, ap}
use Rattle.awareness.specs.Calls.{ReadIf}
use Rattle.awareness.specs.declared.clock.SetClock.{SetClock}
use Rattle.hub_c.specs.Places.{ProductHub}
use Rattle.hub_c.specs.Pins.{leads}
use Rattle.hub_c.specs.declared.presence_hub.PresenceHub.{PresenceHub}

-- a set clock has the same reading, read or not
pub reading_stays : (read : Bool) (c d : SetClock) → ReadIf leads read c d → d.reading ≡ c.reading
reading_stays true c d e = e
reading_stays false c d e = ap (λ (x : SetClock). x.reading) e

-- a hub that is as it was leaves what C has as it was
pub same_hub : (h : PresenceHub) (x : ProductHub) → x ≡ h.place.hub → record h { place = record h.place { hub = x } } ≡ h
same_hub h x e = ap (λ (y : ProductHub). record h { place = record h.place { hub = y } }) e
