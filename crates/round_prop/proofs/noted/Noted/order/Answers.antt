use Rattle.std.proofs.Common.{rules}
use Rattle.std.proofs.lemmas.List.Sorted.{answers_always}
use Rattle.round_prop.specs.declared.note.Note.{Note}
use Rattle.round_prop.proofs.Sorting.{in_order}
use Rattle.round_prop.proofs.noted.Noted.order.Goals as goal

pub returns-clause-order : goal.returns-clause-order
returns-clause-order c = in_order _ (c.sort_unstable_by_key.ensures.sorted (λ (n : Note). n.name) (answers_always _ _ _ (λ f a r g k. search rules)))
