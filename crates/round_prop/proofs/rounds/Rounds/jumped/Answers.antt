use Rattle.std.proofs.Common.{◌≡◌, Vec, Global, Bool, ◌<◌, ◌≤◌, ◌++◌, length, get_or, true, refl, ap, sym, ◌∙◌, subst, arith}
use Rattle.std.specs.Prelude.{List, map, vec_len, vec_capacity}
use Rattle.std.proofs.lemmas.List.{length-map}
use Rattle.std.proofs.lemmas.Option.{slice_get-get_or, slice_get_within}
use Rattle.lit_base.specs.Fits.{HasDistinctVariables}
use Rattle.lit_base.specs.declared.name.Name.{Name}
use Rattle.trail_book.specs.TrailState.{TrailState}
use Rattle.round_prop.specs.contracts.rounds.Rounds.{the_view}
use Rattle.round_prop.specs.Attached.{RoundsState, IsAttached, IsAttachedBy}
use Rattle.round_prop.specs.Readied.{row_names}
use Rattle.round_prop.specs.Spanned.{IsPlacedIn}
use Rattle.round_prop.specs.Shorts.{note_of_short}
use Rattle.round_prop.specs.declared.row.Row.{Row}
use Rattle.round_prop.specs.declared.short.Short.{Short}
use Rattle.round_prop.proofs.Beginning.{roomy_cut, noted_few}
use Rattle.round_prop.proofs.Jumping.{attached_cut, left_notes}
use Rattle.round_prop.proofs.Seen.{seen_all, not_fewer}
use Rattle.round_prop.proofs.rounds.Rounds.jumped.Goals as goal

-- as many are left as were seen
pub returns-then-len-self-clause-cut : goal.returns-then-len-self-clause-cut
unfolding IsAttached
returns-then-len-self-clause-cut c = λ attached fresh seen more is front settled.
    let seen_is = ap length (ap (λ (r : RoundsState). r.seen) c.self.view_is ∙ is.seen_are) in
    let few : length seen ≤ length c.args.trail.now.entries = omega (arith, seen_is, c.self.invariant.1, c.len-len.ensures.value, c.if-len-self.true) in
    subst (λ entries. IsAttachedBy c.args.self.now attached fresh entries) (seen_all more seen c.args.trail.now.entries front few) is

pub returns-then-len-self-clause-above : goal.returns-then-len-self-clause-above
returns-then-len-self-clause-above c = λ attached fresh seen more is front. is

-- each flag that is set has its note
pub clear-requires : goal.clear-requires
clear-requires c = record {
  flagged = λ row is_set.
      let t = c.self.inside.table in
      let any : Name = record { period = 0; core = 0; index = 0 } in
      let inside = slice_get_within t.noted.flags.items row true is_set in
      let long = length-map t.rows.items (λ (r : Row). r.name) in
      let sized = c.self.invariant.0.sized.flags in
      let at : row < length (row_names t.rows.items) = omega (arith, inside, long, sized) in
      let named = slice_get-get_or (row_names t.rows.items) row any at in
      (get_or (row_names t.rows.items) row any, c.self.invariant.0.flagged row (get_or (row_names t.rows.items) row any) named is_set);
}

-- all notes have gone
pub note_anew-requires : goal.note_anew-requires
note_anew-requires c =
    let none : length c.clear.new.self.notes.items ≡ 0 = ap length c.clear.ensures.notes in
    omega (arith, none, c.clear.ensures.room.0, c.self.invariant.0.notes_anew, ap length c.deref.ensures.value)

pub invariant_of-self : goal.invariant_of-self
invariant_of-self c =
    let trail = ap (λ (t : TrailState). t.entries) c.of.ensures in
    let items : length c.note_anew.new.noted.notes.items ≤ length c.self.inside.shorts.items =
    noted_few c.clear.new.self.notes.items c.note_anew.new.noted.notes.items c.self.inside.shorts.items c.len-len.result c.clear.ensures.notes
    (λ none. c.note_anew.ensures.empty none ∙ ap (λ (ss : List Short). c.clear.new.self.notes.items ++ map note_of_short ss) c.deref.ensures.value) c.note_anew.ensures.some
    in
    let few : length c.note_anew.new.noted.notes.items ≤ vec_len c.self.inside.shorts = omega (arith, items) in (
      roomy_cut c.self.inside.variables c.self.inside.table _ _ _ _ c.self.invariant.0 refl refl (ap (λ (fs : Vec Bool Global). fs.items) c.note_anew.ensures.flags ∙ c.clear.ensures.flags)
          (ap (λ (fs : Vec Bool Global). vec_capacity fs) c.note_anew.ensures.flags ∙ c.clear.ensures.room.1) (c.note_anew.ensures.room ∙ c.clear.ensures.room.0)
          few,
      c.len-len.ensures.value ∙ ap length (sym trail),
      subst HasDistinctVariables (sym trail) c.len-len.ensures.trail.distinct,
    )

-- entries that were seen have left
pub returns-clause-cut : goal.returns-clause-cut
unfolding IsAttached
returns-clause-cut c = λ attached fresh seen more is front settled.
    let was = subst (λ (r : RoundsState). IsAttachedBy r attached fresh seen) (sym c.self.view_is) is in
    attached_cut (the_view c.self.inside)
    (the_view (record {
      variables = c.self.inside.variables;
      table = record { rows = c.self.inside.table.rows; links = c.self.inside.table.links; noted = c.note_anew.new.noted };
      shorts = c.self.inside.shorts;
      fresh = c.self.inside.fresh;
      pool = c.self.inside.pool;
      seen = c.len-len.result;
      trail = c.of.result;
    }))
    attached fresh seen more c.args.trail.now.entries c.clear.new.self was front settled c.clear.ensures.notes c.clear.ensures.flags refl refl
    (ap (λ (fs : Vec Bool Global). fs.items) c.note_anew.ensures.flags)
    (left_notes c.args.trail.now.entries c.clear.new.self.notes.items c.note_anew.new.noted.notes.items c.self.inside.shorts.items c.len-len.result c.len-len.ensures.value c.clear.ensures.notes
    (λ none. c.note_anew.ensures.empty none ∙ ap (λ (ss : List Short). c.clear.new.self.notes.items ++ map note_of_short ss) c.deref.ensures.value) c.note_anew.ensures.some)
    refl refl refl (ap (λ (t : TrailState). t.entries) c.of.ensures)

-- fewer are left than were seen
pub returns-clause-above : goal.returns-clause-above
unfolding IsAttached
returns-clause-above c = λ attached fresh seen more is front.
    let seen_is = ap length (ap (λ (r : RoundsState). r.seen) c.self.view_is ∙ is.seen_are) in
    let least = not_fewer more seen c.args.trail.now.entries front in
    absurd (omega (arith, seen_is, least, c.self.invariant.1, c.len-len.ensures.value, c.if-len-self.false))

-- no row changes
pub returns-then-len-self-clause-placed : goal.returns-then-len-self-clause-placed
returns-then-len-self-clause-placed c = λ added placed. placed

pub returns-clause-placed : goal.returns-clause-placed
unfolding IsPlacedIn
returns-clause-placed c = λ added placed. subst (λ (r : RoundsState). IsPlacedIn r added) (sym c.self.view_is) placed
