use Rattle.std.proofs.Common.{◌-◌, ◌/◌, ◌^◌, ap, ◌∙◌, arith}
use Rattle.std.proofs.Math.Pow.{pow_mono}
use Rattle.encoding.proofs.Numbers.{all_bits}
use Rattle.encoding.proofs.var_uint.top.Goals as goal

pub returns-clause-largest : goal.returns-clause-largest
returns-clause-largest g c = ap (λ b. 18446744073709551615 / 2 ^ (64 - b)) c.BITS.ensures ∙ all_bits g.N.VarInt.BITS g.met.N.VarInt.within.1

pub returns-clause-wide : goal.returns-clause-wide
returns-clause-wide g c = omega (arith, returns-clause-largest g c, pow_mono {i = 7} {j = g.N.VarInt.BITS} g.met.N.VarInt.within.0)
