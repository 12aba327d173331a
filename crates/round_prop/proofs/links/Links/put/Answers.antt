use Rattle.std.proofs.lemmas.List.{map-set}
use Rattle.round_prop.specs.declared.node.Node.{Node}
use Rattle.round_prop.proofs.ChainSteps.{pushed_read}
use Rattle.round_prop.proofs.links.Links.put.Goals as goal

pub returns-clause-pushed : goal.returns-clause-pushed
returns-clause-pushed c = λ lists are absent. pushed_read _ _ lists c.args.list c.args.node c.index-next.result.now c.args.lit c.requires.list c.requires.node c.index-next.ensures are absent

pub returns-clause-lits : goal.returns-clause-lits
returns-clause-lits c = map-set (λ (m : Node). m.lit) _ _ _
