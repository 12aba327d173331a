use Rattle.std.proofs.Common.{◌<◌, length, get_or, ap, sym, ◌∙◌, subst, arith}
use Rattle.clause_pool.proofs.Following.{blank, IsSought, sought_all, sought_none, told}
use Rattle.clause_pool.proofs.chains.find_by_links.Goals as goal

-- at first the name is to be found among all slots
pub loop-link-init : goal.loop-link-init
loop-link-init c =
    sought_all c.args.heads.now c.args.slots.now c.args.name _ c.requires.linked (subst (λ chain. chain < length c.args.heads.now) c.chain_of.ensures.value c.chain_of.ensures.within)
    (ap (λ chain. get_or c.args.heads.now chain 0) c.chain_of.ensures.value)

-- a link leads to a slot
pub bounds-slots-place : goal.bounds-slots-place
bounds-slots-place c = (told (length c.args.heads.now) c.args.slots.now c.args.name c.loop-link.link blank c.loop-link.invariant c.requires.linked.links (omega arith)).within

-- which is the name's
pub returns-then-eq : goal.returns-then-eq
returns-then-eq c =
    sym ((told (length c.args.heads.now) c.args.slots.now c.args.name c.loop-link.link blank c.loop-link.invariant c.requires.linked.links (omega arith)).found (sym c.eq.ensures ∙ c.if-eq.true))

-- or leads to an older one
pub loop-link-smaller : goal.loop-link-smaller
loop-link-smaller c = (told (length c.args.heads.now) c.args.slots.now c.args.name c.loop-link.link blank c.loop-link.invariant c.requires.linked.links (omega arith)).lower

-- from which on the name is to be found
pub loop-link-preserved : goal.loop-link-preserved
loop-link-preserved c =
    (told (length c.args.heads.now) c.args.slots.now c.args.name c.loop-link.link blank c.loop-link.invariant c.requires.linked.links (omega arith)).later (sym c.eq.ensures ∙ c.if-eq.false)

-- without a link it isn't found
pub returns : goal.returns
returns c = sym (sought_none (length c.args.heads.now) c.args.slots.now c.args.name (subst (IsSought (length c.args.heads.now) c.args.slots.now c.args.name) c.loop-link-test.false c.loop-link.invariant))
