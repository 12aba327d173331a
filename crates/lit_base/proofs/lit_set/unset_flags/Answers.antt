use Rattle.std.proofs.Common.{◌<◌, length, arith}
use Rattle.lit_base.proofs.Flags.{flag_there, unset_more, all_unset}
use Rattle.lit_base.proofs.lit_set.unset_flags.Goals as goal

-- the literal's flag is set at first, so it is there
pub index_mut-requires : goal.index_mut-requires
index_mut-requires c =
    let there = flag_there c.args.flags.now.items c.args.lits.now c.loop-lit.lit-index c.lit-item.result c.requires (omega arith) c.lit-item.is in
    omega (arith, there, c.index.ensures.value, c.loop-lit.invariant.size)

-- one flag less is set
pub loop-lit-preserved : goal.loop-lit-preserved
loop-lit-preserved c =
    let there = flag_there c.args.flags.now.items c.args.lits.now c.loop-lit.lit-index c.lit-item.result c.requires (omega arith) c.lit-item.is in
    let room : c.index.result < length c.loop-lit.flags.items = omega (arith, there, c.index.ensures.value, c.loop-lit.invariant.size) in
    record {
      size = c.loop-lit.invariant.size;
      left = unset_more c.loop-lit.flags.items c.args.lits.now c.loop-lit.lit-index c.index.result c.lit-item.result (omega arith) c.lit-item.is c.index.ensures.value room c.loop-lit.invariant.left;
    }

-- behind all of them none is
pub returns : goal.returns
returns c = record {
  len = c.loop-lit.invariant.size;
  clear = all_unset c.loop-lit.flags.items c.args.lits.now c.loop-lit.lit-index (omega arith) c.loop-lit.invariant.left;
}
