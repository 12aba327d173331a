use Rattle.std.proofs.Common.{◌≡◌, length, subst, arith}
use Rattle.std.proofs.lemmas.Grind.{common_steps}
use Rattle.trail_book.specs.TrailState.{IsTrail}
use Rattle.trail_book.proofs.Looks.{full_by_counts}
use Rattle.trail_book.proofs.trail.Trail.full.Goals as goal

-- there are as many entries as variables
pub returns : goal.returns
returns c =
    let t = c.args.self.now in
    let entries : c.len.result ≡ length t.entries = grind (arith, common_steps) in
    let variables : c.len-2.result ≡ length t.saved = grind (arith, common_steps) in
    full_by_counts t c.len.result c.len-2.result (subst IsTrail c.self.view_is c.self.invariant.trail) entries variables
