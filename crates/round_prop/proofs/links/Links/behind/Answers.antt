use Rattle.std.proofs.Common.{arith}
use Rattle.round_prop.proofs.InPlace.{front_some, front_none}
use Rattle.round_prop.proofs.links.Links.behind.Goals as goal

pub returns-then-next-len : goal.returns-then-next-len
returns-then-next-len c = λ lists met rest are is last_is.
    front_some _ c.next-next.result rest are.few (omega (arith, c.if-next-len.true, c.len.ensures)) (c.next-next.ensures lists met rest are is last_is)

pub returns : goal.returns
returns c = λ lists met rest are is last_is.
    front_none _ c.next-next.result rest (omega (arith, c.if-next-len.false, c.len.ensures)) (c.next-next.ensures lists met rest are is last_is)
