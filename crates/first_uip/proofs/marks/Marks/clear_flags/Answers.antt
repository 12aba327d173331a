use Rattle.std.proofs.Common.{◌≡◌, ◌<◌, length, vec_len, get_or, ap, ◌∙◌, refl, arith, rules}
use Rattle.first_uip.proofs.Listed.{listed_within, left_more}
use Rattle.first_uip.proofs.marks.Marks.clear_flags.Goals as goal

-- a listed variable has a flag
pub index_mut-requires : goal.index_mut-requires
index_mut-requires c =
    let m = c.args.self.now in
    let marked = ap (λ ms. ms.items) c.loop-index.invariant.marked in
    let var = c.index-var.result.now in
    let here : var ≡ get_or m.marked.items c.loop-index.index var = c.index-var.ensures ∙ ap (λ ms. get_or ms c.loop-index.index var) marked in
    let marked_len : vec_len m.marked ≡ length m.marked.items = search rules in
    let flags_len : vec_len m.flags ≡ length m.flags.items = search rules in
    let within = listed_within m.marked.items m.flags.items c.loop-index.index var c.requires (omega (arith, marked_len, c.loop-index-test.true, c.len-index-end.ensures)) in
    omega (arith, here, within, flags_len, c.loop-index.invariant.len)

-- one flag more is cleared
pub loop-index-preserved : goal.loop-index-preserved
loop-index-preserved c =
    let now = c.loop-index.self in
    let var = c.index-var.result.now in
    let marked_len : vec_len now.marked ≡ length now.marked.items = search rules in
    let flags_len : vec_len now.flags ≡ length now.flags.items = search rules in
    let same = ap vec_len c.loop-index.invariant.marked in
    let below : c.loop-index.index < length now.marked.items = omega (arith, marked_len, same, c.loop-index-test.true, c.len-index-end.ensures) in
    let m = c.args.self.now in
    let below_first : c.loop-index.index < length m.marked.items = omega (arith, ap length (ap (λ ms. ms.items) c.loop-index.invariant.marked), below) in
    let first = listed_within m.marked.items m.flags.items c.loop-index.index var c.requires below_first in
    let here : var ≡ get_or m.marked.items c.loop-index.index var = c.index-var.ensures ∙ ap (λ ms. get_or ms.items c.loop-index.index var) c.loop-index.invariant.marked in
    let first_len : vec_len m.flags ≡ length m.flags.items = search rules in
    let within : var < length now.flags.items = omega (arith, here, first, flags_len, first_len, c.loop-index.invariant.len) in
    record {
      left = left_more now.marked.items now.flags.items _ c.loop-index.index var var below c.index-var.ensures within refl c.loop-index.invariant.left;
      len = c.loop-index.invariant.len;
      marked = c.loop-index.invariant.marked;
    }
