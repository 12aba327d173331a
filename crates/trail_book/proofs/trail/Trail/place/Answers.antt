use Rattle.std.proofs.Common.{◌≡◌, ◌*◌, ◌^◌, ◌∙◌, get_or, ap}
use Rattle.std.specs.Prelude.{is_none}
use Rattle.trail_book.specs.TrailState.{TrailState, place_of}
use Rattle.trail_book.specs.Arrays.{place_by_standing}
use Rattle.trail_book.proofs.Looks.{place_held}
use Rattle.trail_book.proofs.Places.{place_of-within, place_of-is_none}
use Rattle.trail_book.proofs.trail.Trail.place.Goals as goal

-- the place is read of where the positive literal stands
read : (c : goal.After-place_by) → c.place_by.result ≡ place_of c.args.self.now.entries c.args.var
read c =
    c.place_by.ensures
    ∙ (ap place_by_standing (c.read_standing.ensures ∙ ap (λ s. get_or s (2 * c.args.var) (2 ^ 30)) c.deref.ensures.value)
    ∙ (place_held c.self.inside.standings.items _ c.args.var c.self.invariant.trail c.self.invariant.standing ∙ ap (λ (t : TrailState). place_of t.entries c.args.var) c.self.view_is))

pub returns-clause-value : goal.returns-clause-value
returns-clause-value c = read c

-- a variable is free where it has no place
pub returns-clause-free : goal.returns-clause-free
returns-clause-free c = ap is_none (read c) ∙ place_of-is_none c.args.self.now.entries c.args.var

-- a place is that of an entry
pub returns-clause-within : goal.returns-clause-within
returns-clause-within c = place_of-within c.args.self.now.entries c.args.var c.place_by.result (read c)
