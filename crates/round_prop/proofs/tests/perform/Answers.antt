use Rattle.std.proofs.Common.{◌≡◌, true, sym, ◌∙◌, subst, rules}
use Rattle.round_prop.specs.Propagation.{MayPropagate}
use Rattle.round_prop.proofs.Playing.{may-decided}
use Rattle.round_prop.proofs.tests.perform.Goals as goal

-- the name was seen to be one of these
pub returns-in_ok-hold-in-Hold-clause-names : goal.returns-in_ok-hold-in-Hold-clause-names
returns-in_ok-hold-in-Hold-clause-names g c =
    let told : c.is_among.result ≡ true = search rules in
    c.in_ok-hold-in-Hold.ensures.names c.args.names.now (sym c.is_among.ensures ∙ told) c.requires.names

-- a decision is one entry more
pub returns-in-Decide-clause-may : goal.returns-in-Decide-clause-may
returns-in-Decide-clause-may g c =
    subst (λ trail. MayPropagate c.args.rounds.now c.args.pool.now trail) (sym c.decide.ensures) (may-decided c.args.rounds.now c.args.pool.now c.args.trail.now c.expect.result c.requires.may)
