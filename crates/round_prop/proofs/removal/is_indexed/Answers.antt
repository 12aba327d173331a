use Rattle.std.proofs.Common.{ℕ, ◌∙◌, rules}
use Rattle.std.proofs.lemmas.Fn.{always_returns_same}
use Rattle.round_prop.specs.Removal.{name_at}
use Rattle.round_prop.proofs.Indexing.{sought}
use Rattle.round_prop.proofs.removal.is_indexed.Goals as goal

pub returns : goal.returns
returns c =
    let facts = c.binary_search_by_key.ensures in
    c.is_ok.ensures.value
    ∙ sought c.args.names.now c.args.index.now c.args.name c.binary_search_by_key.result c.requires facts.bound
    (facts.position (λ (at : ℕ). name_at c.args.names.now at) (always_returns_same _ _ _ (λ a r g called. search rules)))
