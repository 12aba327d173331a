use Rattle.std.proofs.Common.{◌≡◌, length, vec_capacity}
use Rattle.round_prop.specs.Chains.{lits_of, ArePartlyThreaded}
use Rattle.round_prop.proofs.links.Links.thread.Given as goal

-- the nodes so far are threaded
abbrev pub invariant-loop-node : goal.invariant-loop-node
invariant-loop-node l = record {
  part : ArePartlyThreaded l.self.heads.items l.self.nodes.items l.node;
  lits : lits_of l.self.nodes.items ≡ lits_of l.fn.self.nodes.items;
  heads : length l.self.heads.items ≡ length l.fn.self.heads.items;
  room : vec_capacity l.self.nodes ≡ vec_capacity l.fn.self.nodes;
}
