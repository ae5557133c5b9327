use Rattle.std.proofs.Common.{rules, ◌≡◌, ◌+◌, ◌-◌, ◌^◌, ◌<◌, ◌≤◌, Ok, length, sym, refl, ap, ◌∙◌, subst, arith, drop, [], ◌∷◌, length-append}
use Rattle.std.specs.Result.{result_and}
use borrow.Rule.Slice.PartMut.{put_mid, mid_of}
use Rattle.encoding.specs.TwoSinks.{stood}
use Rattle.encoding.specs.Writing.{shortest, packed}
use Rattle.state_vector.specs.Vector.{vector}
use Rattle.calls.specs.Handling.{Step}
use Rattle.hub.specs.Steps.{hub_of}
use Rattle.hub.proofs.Replies.{step2_stands, asked_fits, filled_ok, mid_to_end}
use Rattle.hub.proofs.hub.Hub.reply_to_step1.Goals as goal

pub returns : goal.returns
returns g c =
    let k = g.H.DocumentHost.kind in
    let h = hub_of k c.args.self.now.presence (g.H.DocumentHost.document c.args.self.now.host) in
    let u = k.update h.document c.in_ok-since.since in
    let items = c.spelling-size.result.items in
    let out = c.args.out.now in
    let at = c.args.at in
    let many : c.update_len-len.result ≡ length u = c.update_len-len.ensures in
    let v : vector c.args.part.now ≡ Ok c.in_ok-since.since = search rules in
    let short : length u < 2 ^ 32 = omega (arith, c.if-len.false, many) in
    let size : items ≡ shortest (length u) = c.spelling-size.ensures ∙ ap shortest many in
    let digits : c.len-head.result ≡ length items = c.len-head.ensures.value in
    let room : at + (2 + length items + length u) ≤ length out = omega (arith, c.if-saturating_sub-head.false, c.saturating_sub.ensures, digits, many) in
    let one : c.fill.new.out ≡ stood out at (0 ∷ 1 ∷ []) = search rules in
    let two : c.fill-2.new.out ≡ stood c.fill.new.out (at + 2) items = search rules in
    let raw : c.update.new.out ≡ stood (drop (at + (2 + c.len-head.result)) c.fill-2.new.out) 0 u = filled_ok (mid_of (at + (2 + c.len-head.result)) (length c.fill-2.new.out - (at + (2 + c.len-head.result))) c.fill-2.new.out) c.update.new.out u 0 c.in_ok-update.field-0 c.update.result c.update.ensures (search rules) ∙ ap (λ b. stood b 0 u) (mid_to_end (at + (2 + c.len-head.result)) c.fill-2.new.out) in
    let three : c.update.new.out ≡ stood (drop (at + (2 + length items)) c.fill-2.new.out) 0 u = raw ∙ ap (λ d. stood (drop (at + (2 + d)) c.fill-2.new.out) 0 u) digits in
    let does = asked_fits k (length out - at) h c.in_ok-since.since (vector c.args.part.now) u v refl short (omega (arith, room, ap length size)) in
    let stands = step2_stands out u items c.fill.new.out c.fill-2.new.out c.update.new.out at size one two three room in
    let long : 2 + c.len-head.result + c.update_len-len.result ≡ length (0 ∷ 1 ∷ packed u) = omega (arith, digits, many, ap length size, length-append (shortest (length u)) u) in (
      ap Ok long ∙ sym (ap (λ (s : Step k). result_and s.verdict (Ok (length s.reply))) does),
      subst (λ d. put_mid (at + (2 + d)) (length c.fill-2.new.out - (at + (2 + d))) c.fill-2.new.out c.update.new.out ≡ stood out at (0 ∷ 1 ∷ packed u)) (sym digits) stands ∙ sym (ap (λ (s : Step k). stood out at s.reply) does),
    )
