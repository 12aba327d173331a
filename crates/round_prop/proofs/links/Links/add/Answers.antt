use Rattle.std.proofs.Common.{◌≡◌, ℕ, List, ◌∷◌, length, subst, arith}
use Rattle.std.specs.Prelude.{set}
use Rattle.round_prop.specs.Chains.{nexts_of, list_at, times, AreLists}
use Rattle.round_prop.proofs.ThreadSteps.{added_threaded, added_lits}
use Rattle.round_prop.proofs.links.Links.add.Goals as goal

pub returns-clause-threaded : goal.returns-clause-threaded
returns-clause-threaded c = λ threaded.
    let last : c.len-node.result ≡ length c.args.self.now.nodes.items = omega (arith, c.len-node.ensures) in
    added_threaded c.args.self.now.heads.items c.args.self.now.nodes.items _ c.len-node.result c.args.lit c.push_reserved.new.self.items c.put.new.self.heads.items c.put.new.self.nodes.items last c.requires.few
    (omega (arith, c.index.ensures.low, c.index.ensures.value)) c.requires.list c.push_reserved.ensures.items
    (subst (λ p. (lists : List (List ℕ)) → AreLists c.args.self.now.heads.items (nexts_of c.push_reserved.new.self.items) lists → times c.len-node.result lists ≡ 0 →
    AreLists c.put.new.self.heads.items (nexts_of c.put.new.self.nodes.items) (set lists p (c.len-node.result ∷ list_at lists p))) c.index.ensures.value c.put.ensures.pushed)
    c.put.ensures.lits c.put.ensures.heads threaded

pub returns-clause-lits : goal.returns-clause-lits
returns-clause-lits c =
    let last : c.len-node.result ≡ length c.args.self.now.nodes.items = omega (arith, c.len-node.ensures) in
    added_lits c.args.self.now.nodes.items _ c.len-node.result c.args.lit c.push_reserved.new.self.items c.put.new.self.nodes.items last c.push_reserved.ensures.items c.put.ensures.lits
