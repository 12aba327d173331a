use Rattle.std.proofs.Common.{◌≤◌, length, ap, subst}
use Rattle.lit_base.specs.Literal.{IsWithin}
use Rattle.lit_base.specs.declared.trail.Entry.{Entry}
use Rattle.trail_book.specs.TrailState.{TrailState, IsTrail}
use Rattle.trail_book.proofs.Places.{held_at}
use Rattle.trail_book.proofs.trail.Trail.entry.Goals as goal

-- what holds of each entry
pub returns-clause-within : goal.returns-clause-within
returns-clause-within c =
    let t = c.args.self.now in
    held_at (λ (e : Entry). IsWithin (length t.saved) e.lit) c.self.inside.entries.items t.entries c.args.place c.index.result.now
    (ap (λ (s : TrailState). s.entries) c.self.view_is) (subst IsTrail c.self.view_is c.self.invariant.trail).within c.requires c.index.ensures

pub returns-clause-level : goal.returns-clause-level
returns-clause-level c =
    let t = c.args.self.now in
    held_at (λ (e : Entry). e.level ≤ length t.entries) c.self.inside.entries.items t.entries c.args.place c.index.result.now
    (ap (λ (s : TrailState). s.entries) c.self.view_is) (subst IsTrail c.self.view_is c.self.invariant.trail).levels c.requires c.index.ensures
