use Rattle.std.proofs.Common.{arith}
use Rattle.round_prop.proofs.InPlace.{behind_read, front_read}
use Rattle.round_prop.proofs.links.Links.next.Goals as goal

-- behind the node
pub returns-then-last-len : goal.returns-then-last-len
returns-then-last-len c = λ lists met rest are is last_is.
    behind_read _ _ lists c.args.list c.args.last c.index.result.now met rest c.requires (omega (arith, c.if-last-len.true, c.len.ensures)) c.index.ensures are is last_is

-- in front of the list
pub returns : goal.returns
returns c = λ lists met rest are is last_is.
    front_read _ _ lists c.args.list c.args.last c.index-2.result.now met rest c.requires (omega (arith, c.if-last-len.false, c.len.ensures)) c.index-2.ensures are is last_is
