use Rattle.std.proofs.Common.{◌≡◌, ◌++◌, true, false, length, ap, sym, ◌∙◌}
use Rattle.std.specs.Prelude.{Some}
use Rattle.clause_pool.specs.Pooled.{originals_of, is_front}
use Rattle.clause_pool.specs.Spans.{span_of}
use Rattle.clause_pool.proofs.ClauseAt.{at_place-clause_at}
use Rattle.clause_pool.proofs.Spanning.{shifted, span_front, span_behind, span_none, tells_held}
use Rattle.clause_pool.proofs.pool.Pool.span.Goals as goal

-- a first original stands at its index
pub returns-then-is_front-clause-value : goal.returns-then-is_front-clause-value
returns-then-is_front-clause-value c =
    let front : is_front (length c.self.inside.originals) c.args.name ≡ true = ap (λ count. is_front count c.args.name) (sym c.len.ensures) ∙ (sym c.is_front.ensures ∙ c.if-is_front.true) in
    sym (span_front c.self.inside.table c.self.inside.originals c.args.name c.span.result c.self.invariant.apart front c.span.ensures) ∙ ap (λ v. span_of v.added c.args.name) c.self.view_is

pub returns-then-is_front-clause-held : goal.returns-then-is_front-clause-held
returns-then-is_front-clause-held c =
    tells_held (c.self.inside.table ++ originals_of c.self.inside.originals) c.args.self.now c.args.name (Some c.span.result) c.self.view_is c.self.invariant.apart (returns-then-is_front-clause-value c)

-- a name that has no place in the table either is that of no clause
pub returns-in_err-place-clause-value : goal.returns-in_err-place-clause-value
returns-in_err-place-clause-value c =
    let behind : is_front (length c.self.inside.originals) c.args.name ≡ false = ap (λ count. is_front count c.args.name) (sym c.len.ensures) ∙ (sym c.is_front.ensures ∙ c.if-is_front.false) in
    c.from_residual.ensures
    ∙ (sym (span_none c.self.inside.table c.self.inside.originals c.args.name (sym c.find.ensures ∙ c.in_err-place.was) behind) ∙ ap (λ v. span_of v.added c.args.name) c.self.view_is)

pub returns-in_err-place-clause-held : goal.returns-in_err-place-clause-held
returns-in_err-place-clause-held c =
    tells_held (c.self.inside.table ++ originals_of c.self.inside.originals) c.args.self.now c.args.name c.from_residual.result c.self.view_is c.self.invariant.apart (returns-in_err-place-clause-value c)

-- one that has a place stands there, behind the originals
pub span-requires-2 : goal.span-requires-2
span-requires-2 c = (at_place-clause_at c.self.inside.table c.args.name c.in_ok-place.place (sym c.find.ensures ∙ c.in_ok-place.was)).1

pub returns-clause-value : goal.returns-clause-value
returns-clause-value c =
    let at = span_behind c.self.inside.table c.self.inside.originals c.args.name c.in_ok-place.place c.span-2.result (sym c.find.ensures ∙ c.in_ok-place.was) c.span-2.ensures.value in
    ap (λ s. Some s) (c.behind.ensures ∙ ap (λ base. shifted base c.span-2.result) c.width.ensures.value) ∙ (sym at ∙ ap (λ v. span_of v.added c.args.name) c.self.view_is)

pub returns-clause-held : goal.returns-clause-held
returns-clause-held c =
    tells_held (c.self.inside.table ++ originals_of c.self.inside.originals) c.args.self.now c.args.name (Some c.behind.result) c.self.view_is c.self.invariant.apart (returns-clause-value c)
