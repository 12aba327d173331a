use Rattle.std.proofs.Common.{◌≡◌, ◌∙◌, sym, ap, nat_cmp, Some, None}
use Rattle.std.specs.BTreeMap.{get}
use Rattle.lrat_check.specs.Table.{part_of, part_at, first_of, span_at}
use Rattle.lrat_check.proofs.table.Table.get.Goals as goal

-- the array has a part
pub returns-in-Some : goal.returns-in-Some
unfolding span_at
returns-in-Some c =
    let found : part_at c.args.self.now.spans.items c.args.id ≡ Some c.in-Some.span =
    ap (λ spans. part_at spans c.args.id) (sym c.deref.ensures.value) ∙ (sym c.part_at.ensures ∙ c.in-Some.is)
    in sym (ap (λ o. first_of o (part_of (get nat_cmp c.args.self.now.leaps c.args.id))) found)

-- it has none
pub returns-in-None : goal.returns-in-None
unfolding span_at
returns-in-None c =
    let none : part_at c.args.self.now.spans.items c.args.id ≡ None =
    ap (λ spans. part_at spans c.args.id) (sym c.deref.ensures.value) ∙ (sym c.part_at.ensures ∙ c.in-None.is)
    in c.part_of.ensures ∙ (ap part_of (c.copied.ensures ∙ c.get.ensures.value) ∙ sym (ap (λ o. first_of o (part_of (get nat_cmp c.args.self.now.leaps c.args.id))) none))
