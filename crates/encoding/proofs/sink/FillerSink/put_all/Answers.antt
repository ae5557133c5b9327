use Rattle.std.proofs.Common.{◌<◌, length, sym, refl, arith, eqb-true}
use borrow.Author.Tests.{eqb-false}
use Rattle.encoding.proofs.Fillings.{copied_stood, filler_put, none_put}
use Rattle.encoding.proofs.sink.FillerSink.put_all.Goals as goal

pub returns-then-is_empty : goal.returns-then-is_empty
returns-then-is_empty c = none_put _ _ tt (eqb-true _ _ (sym c.if-is_empty.ensures))

pub returns : goal.returns
returns c =
    let some : 0 < length c.args.bytes.now = omega (arith, eqb-false _ _ (sym c.if-is_empty.ensures)) in
    filler_put _ _ _ tt some (omega arith) refl (copied_stood c.args.self.now.out.now c.args.bytes.now _ c.args.self.now.at c.copy_from_slice.ensures.after) refl
