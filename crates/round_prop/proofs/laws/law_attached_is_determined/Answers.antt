use Rattle.std.proofs.Common.{◌≡◌, sym, ◌∙◌}
use Rattle.std.specs.Prelude.{List}
use Rattle.lit_base.specs.Rounds.{NamedClause}
use Rattle.lit_base.specs.declared.trail.Entry.{Entry}
use Rattle.lit_base.specs.declared.name.Name.{Name}
use Rattle.round_prop.specs.Attached.{RoundsState, IsAttached, IsAttachedBy}
use Rattle.round_prop.proofs.Looks.{same_by_looks}
use Rattle.round_prop.proofs.laws.law_attached_is_determined.Goals as goal

-- the same is found under each name
same_attached : (r : RoundsState) (attached others : List NamedClause) (fresh names : List Name) (seen entries : List Entry) → IsAttachedBy r attached fresh seen →
    IsAttachedBy r others names entries → attached ≡ others
same_attached r attached others fresh names seen entries one other = same_by_looks attached others one.are.rising other.are.rising (λ name. one.found name ∙ sym (other.found name))

-- both are what is attached
pub returns : goal.returns
unfolding IsAttached
returns c = record {
  attached = same_attached;
  fresh = λ r attached others fresh names seen entries one other. sym one.fresh_are ∙ other.fresh_are;
  seen = λ r attached others fresh names seen entries one other. sym one.seen_are ∙ other.seen_are;
}
