use Rattle.std.proofs.Common.{refl, arith}
use Rattle.round_prop.proofs.Indexing.{numbers_more}
use Rattle.round_prop.proofs.removal.number.Goals as goal

pub loop-at-preserved : goal.loop-at-preserved
loop-at-preserved c =
    numbers_more c.loop-at.places c.loop-at.at c.loop-at.at refl (omega (arith, c.loop-at-test.true, c.loop-at.auto.places, c.requires.room)) c.loop-at.invariant
