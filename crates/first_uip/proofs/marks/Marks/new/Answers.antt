use Rattle.std.proofs.Common.{false, refl, ap, ◌∙◌, ◌+◌, get_or}
use Rattle.lit_base.proofs.Flags.{clear_at}
use Rattle.first_uip.proofs.marks.Marks.new.Goals as goal

-- no flag is set, and nothing is listed
pub returns : goal.returns
returns c = record {
  len = c.in_ok-no_flags.ensures.len;
  unset = λ v. ap (λ flags. get_or flags v false) c.in_ok-no_flags.ensures.items ∙ clear_at (c.args.variables + 1) v;
  none_listed = c.in_ok-with_capacity.ensures.items;
  none = c.in_ok-with_capacity.ensures.len;
  room = c.in_ok-with_capacity.ensures.capacity;
  left = refl;
}
