use Rattle.std.proofs.Common.{◌≡◌, true, false, length, ap, sym, ◌∙◌}
use Rattle.std.specs.Prelude.{option_map}
use Rattle.clause_pool.specs.Pooled.{is_front}
use Rattle.clause_pool.proofs.Lookup.{behind_held, behind_clause, front_uses}
use Rattle.clause_pool.proofs.pool.Pool.uses.Goals as goal

-- uses of originals aren't counted
pub returns-then-is_front : goal.returns-then-is_front
returns-then-is_front c =
    let front : is_front (length c.self.inside.originals) c.args.name ≡ true = ap (λ count. is_front count c.args.name) (sym c.len.ensures) ∙ (sym c.is_front.ensures ∙ c.if-is_front.true) in
    front_uses c.self.inside.table c.self.inside.originals c.args.self.now.held c.args.name (record { apart = c.self.invariant.apart; is = ap (λ v. v.held) c.self.view_is }) front

-- any other clause has a place in the table
pub place-requires : goal.place-requires
place-requires c =
    let behind : is_front (length c.self.inside.originals) c.args.name ≡ false = ap (λ count. is_front count c.args.name) (sym c.len.ensures) ∙ (sym c.is_front.ensures ∙ c.if-is_front.false) in
    sym (behind_held c.self.inside.table c.self.inside.originals c.args.self.now.held c.args.name (record { apart = c.self.invariant.apart; is = ap (λ v. v.held) c.self.view_is }) behind) ∙ c.requires

pub uses-requires : goal.uses-requires
uses-requires c =
    let behind : is_front (length c.self.inside.originals) c.args.name ≡ false = ap (λ count. is_front count c.args.name) (sym c.len.ensures) ∙ (sym c.is_front.ensures ∙ c.if-is_front.false) in
    (behind_clause c.self.inside.table c.self.inside.originals c.args.self.now.held c.args.name c.place.result (record { apart = c.self.invariant.apart; is = ap (λ v. v.held) c.self.view_is }) behind c.place.ensures).1

-- where it stands
pub returns : goal.returns
returns c =
    let behind : is_front (length c.self.inside.originals) c.args.name ≡ false = ap (λ count. is_front count c.args.name) (sym c.len.ensures) ∙ (sym c.is_front.ensures ∙ c.if-is_front.false) in
    ap (λ o. option_map (λ d. d.uses) o)
    (behind_clause c.self.inside.table c.self.inside.originals c.args.self.now.held c.args.name c.place.result (record { apart = c.self.invariant.apart; is = ap (λ v. v.held) c.self.view_is }) behind c.place.ensures).0
    ∙ c.uses.ensures
