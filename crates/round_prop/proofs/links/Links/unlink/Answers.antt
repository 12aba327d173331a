use Rattle.std.proofs.Common.{arith}
use Rattle.round_prop.proofs.InPlace.{unlinked_read, begun_read, lits_kept}
use Rattle.round_prop.proofs.links.Links.unlink.Goals as goal

-- behind another node
pub returns-then-last-len-clause-unlinked : goal.returns-then-last-len-clause-unlinked
returns-then-last-len-clause-unlinked c = λ lists met later are is last_is.
    unlinked_read _ _ lists c.args.list c.args.last c.args.node c.index_mut.result.now c.index.result.now met later c.requires.list (omega (arith, c.if-last-len.true, c.len.ensures)) c.index_mut.ensures.value c.requires.node c.index.ensures are is last_is

pub returns-then-last-len-clause-lits : goal.returns-then-last-len-clause-lits
returns-then-last-len-clause-lits c = lits_kept _ c.args.last c.index_mut.result.now _ (omega (arith, c.if-last-len.true, c.len.ensures)) c.index_mut.ensures.value

-- in front of the list
pub returns-clause-unlinked : goal.returns-clause-unlinked
returns-clause-unlinked c = λ lists met later are is last_is.
    begun_read _ _ lists c.args.list c.args.last c.args.node c.index.result.now met later c.requires.list (omega (arith, c.if-last-len.false, c.len.ensures)) c.requires.node c.index.ensures are is last_is
