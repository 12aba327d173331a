use Rattle.std.proofs.Common.{◌≡◌, ℕ, length, drop, ap, sym, ◌∙◌, subst, rules}
use Rattle.std.proofs.lemmas.Fn.{always_returns_same}
use Rattle.round_prop.specs.Removal.{name_at, IsIndexOf}
use Rattle.round_prop.proofs.Indexing.{indexed, front_of, numbers_long}
use Rattle.round_prop.proofs.removal.index_names.Goals as goal

pub returns : goal.returns
returns c =
    let names = c.args.names.now in
    let index = c.sort_unstable_by_key.new.self in
    let long : length index ≡ length names =
    c.sort_unstable_by_key.ensures.len ∙ (ap length c.number.ensures ∙ numbers_long 0 (length names)) in
    subst (λ ns. IsIndexOf names ns) (sym (front_of index (drop (length names) c.number.new.places) (length names) long))
    (indexed names _ index c.number.ensures c.sort_unstable_by_key.ensures.permutation
    (c.sort_unstable_by_key.ensures.sorted (λ (at : ℕ). name_at names at) (always_returns_same _ _ _ (λ a r g called. search rules))))
