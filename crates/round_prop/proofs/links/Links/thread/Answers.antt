use Rattle.std.proofs.Common.{◌≡◌, ℕ, List, ◌∷◌, length, refl, ap, sym, ◌∙◌, subst, arith}
use Rattle.std.specs.Prelude.{set, slice_get}
use Rattle.std.proofs.lemmas.List.{length-map}
use Rattle.round_prop.specs.declared.node.Node.{Node}
use Rattle.round_prop.specs.Chains.{nexts_of, lits_of, list_at, times, AreLists}
use Rattle.round_prop.proofs.TableSteps.{lit_read}
use Rattle.round_prop.proofs.ThreadSteps.{filled_threaded, one_threaded, all_threaded, node_wide, set_same}
use Rattle.round_prop.proofs.links.Links.thread.Goals as goal

pub loop-node-init : goal.loop-node-init
loop-node-init c = record {
  part = filled_threaded c.fill.new.self.items _ c.args.self.now.nodes.items (c.fill.ensures.items (λ y is. is)) (omega (arith, c.requires.begun)) (omega (arith, c.requires.few));
  lits = refl;
  heads = omega (arith, c.fill.ensures.len);
  room = refl;
}

pub put-requires-clause-list : goal.put-requires-clause-list
put-requires-clause-list c =
    let long : length c.loop-node.self.nodes.items ≡ length c.args.self.now.nodes.items =
    (let e = ap length c.loop-node.invariant.lits in omega (arith, e, length-map c.loop-node.self.nodes.items (λ (m : Node). m.lit), length-map c.args.self.now.nodes.items (λ (m : Node). m.lit))) in
    let own = lit_read c.loop-node.self.nodes.items c.loop-node.node c.index.result.now (omega (arith, long, c.loop-node-test.true, c.len-node-end.ensures)) c.index.ensures in
    let wide = node_wide _ c.args.self.now.nodes.items c.loop-node.node c.index.result.now.lit c.requires.wide (sym (ap (λ ls. slice_get ls c.loop-node.node) c.loop-node.invariant.lits) ∙ own) in
    omega (arith, wide, c.index-in-loop-node.ensures.value, c.loop-node.invariant.heads)

pub loop-node-preserved : goal.loop-node-preserved
loop-node-preserved c =
    let long : length c.loop-node.self.nodes.items ≡ length c.args.self.now.nodes.items =
    (let e = ap length c.loop-node.invariant.lits in omega (arith, e, length-map c.loop-node.self.nodes.items (λ (m : Node). m.lit), length-map c.args.self.now.nodes.items (λ (m : Node). m.lit))) in
    let own = lit_read c.loop-node.self.nodes.items c.loop-node.node c.index.result.now (omega (arith, long, c.loop-node-test.true, c.len-node-end.ensures)) c.index.ensures in
    let wide = node_wide _ c.args.self.now.nodes.items c.loop-node.node c.index.result.now.lit c.requires.wide (sym (ap (λ ls. slice_get ls c.loop-node.node) c.loop-node.invariant.lits) ∙ own) in
    record {
      part = one_threaded c.loop-node.self.heads.items c.loop-node.self.nodes.items c.loop-node.node c.index.result.now.lit c.put.new.self.heads.items c.put.new.self.nodes.items
          (omega (arith, c.index-in-loop-node.ensures.low, c.index-in-loop-node.ensures.value)) (omega (arith, wide, c.loop-node.invariant.heads)) own
          (subst (λ p. (lists : List (List ℕ)) → AreLists c.loop-node.self.heads.items (nexts_of c.loop-node.self.nodes.items) lists → times c.loop-node.node lists ≡ 0 →
          AreLists c.put.new.self.heads.items (nexts_of c.put.new.self.nodes.items) (set lists p (c.loop-node.node ∷ list_at lists p))) c.index-in-loop-node.ensures.value c.put.ensures.pushed)
          c.put.ensures.lits c.put.ensures.heads c.loop-node.invariant.part;
      lits = c.put.ensures.lits ∙ (set_same (lits_of c.loop-node.self.nodes.items) c.loop-node.node c.index.result.now.lit own ∙ c.loop-node.invariant.lits);
      heads = c.put.ensures.heads ∙ c.loop-node.invariant.heads;
      room = c.put.ensures.room ∙ c.loop-node.invariant.room;
    }

pub returns-clause-threaded : goal.returns-clause-threaded
returns-clause-threaded c =
    let long : length c.loop-node.self.nodes.items ≡ length c.args.self.now.nodes.items =
    (let e = ap length c.loop-node.invariant.lits in omega (arith, e, length-map c.loop-node.self.nodes.items (λ (m : Node). m.lit), length-map c.args.self.now.nodes.items (λ (m : Node). m.lit))) in
    all_threaded c.loop-node.self.heads.items c.loop-node.self.nodes.items c.loop-node.node (omega (arith, long, c.len-node-end.ensures, c.loop-node-test.false, c.loop-node.auto.node-end)) c.loop-node.invariant.part
