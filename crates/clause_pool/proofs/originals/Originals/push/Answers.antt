use Rattle.std.proofs.Common.{◌≡◌, ◌+◌, length, reverse, ap, ◌∙◌, ◌∷◌, [], ◌++◌, arith}
use Rattle.std.proofs.lemmas.List.{reverse-append, length-append}
use Rattle.clause_pool.specs.Arena.{parts_of}
use Rattle.clause_pool.proofs.Parts.{parts_added, arena_size}
use Rattle.clause_pool.proofs.originals.Originals.push.Goals as goal

-- the part that was added is the clause
pub returns-clause-ok : goal.returns-clause-ok
returns-clause-ok c =
    let literals = c.self.inside.literals.items in
    let ends = c.self.inside.ends.items in
    let grown = c.in_ok-extend_from_slice.ensures.items in
    let end : c.len.result ≡ length literals + length c.args.lits.now = omega (arith, c.len.ensures, ap length grown, length-append literals c.args.lits.now) in
    let more : reverse c.push_reserved.new.self.items ≡ c.len.result ∷ reverse ends =
    ap reverse (c.push_reserved.ensures.items ∙ ap (λ items. items ++ c.len.result ∷ []) c.reserve.ensures.items) ∙ reverse-append ends (c.len.result ∷ []) in
    ap (λ xs. parts_of xs (reverse c.push_reserved.new.self.items)) grown
    ∙ (ap (λ es. parts_of (literals ++ c.args.lits.now) es) more
    ∙ (parts_added literals c.args.lits.now (reverse ends) c.len.result c.self.invariant end ∙ ap (λ parts. c.args.lits.now ∷ parts) c.self.view_is))

-- the end counts literals, of which there are fewer than 2^32
pub overflow_cast-len : goal.overflow_cast-len
overflow_cast-len c =
    let literals = c.self.inside.literals.items in
    let size = arena_size literals _ _ c.self.invariant c.self.view_is in
    omega (arith, size, c.requires, c.len.ensures, ap length c.in_ok-extend_from_slice.ensures.items, length-append literals c.args.lits.now)
