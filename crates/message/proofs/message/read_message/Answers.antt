use Rattle.std.proofs.Common.{◌-◌, ◌^◌, ◌<◌, length, get_or, sym, ap, ◌∙◌, arith, ltb-false, ltb-true}
use Rattle.encoding.specs.Reading.{thence}
use Rattle.encoding.proofs.Numbers.{one_byte}
use Rattle.message.specs.Message.{body, message}
use Rattle.message.proofs.message.read_message.Goals as goal

-- a tag of one byte is the number that it spells
pub returns-in-0-to-127 : goal.returns-in-0-to-127
unfolding message
returns-in-0-to-127 c =
    let n : 0 < length c.args.s.now = omega (arith, ltb-false) in
    let h : get_or c.args.s.now 0 0 < 128 = omega (arith, ltb-true) in
    c.read_body.ensures ∙ sym (ap (λ r. thence r body) (one_byte 10 (2 ^ 8 - 1) c.args.s.now (omega arith) (omega arith) n h))
