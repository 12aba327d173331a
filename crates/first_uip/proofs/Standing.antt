-- The entries of a trail by their places.
use Rattle.std.proofs.Common.{◌≡◌, ℕ, zero, suc, ◌==◌, ◌-◌, ◌<◌, Bool, true, false, cond, List, [], ◌∷◌, ◌++◌, length, drop, get_or, reverse, ap, ◌∙◌, sym, arith, length-append}
use Rattle.std.specs.Prelude.{Option, Some, slice_get}
use Rattle.std.proofs.lemmas.List.{reverse-append, length-reverse, get_or_append_left, get_or_at}
use Rattle.std.proofs.lemmas.Option.{same_Some, slice_get_within, slice_get-get_or, get_or_from_slice_get}
use Rattle.lit_base.specs.Literal.{Literal}
use Rattle.lit_base.specs.declared.trail.Entry.{Entry}
use Rattle.lit_base.specs.declared.name.Name.{Name}
use Rattle.lit_base.specs.Fits.{FitsClauses, IsFitting}
use Rattle.trail_book.specs.TrailState.{TrailState, IsTrail, place_of}
use Rattle.first_uip.specs.Places.{before, entry_of}
use Rattle.first_uip.proofs.Marking.{fits_older}

-- the newest entry stands at the place that is the number of the older ones
pub newest_at : (e : Entry) (older : List Entry) → slice_get (reverse (e ∷ older)) (length older) ≡ Some e
newest_at e older =
    let long = length-reverse older in
    ap (λ es. slice_get es (length older)) (reverse-append (e ∷ []) older)
    ∙ (slice_get-get_or (reverse older ++ e ∷ []) (length older) e (let more = length-append (reverse older) (e ∷ []) in omega arith)
    ∙ ap Some (get_or_at (reverse older) e [] e (length older) (omega arith)))

-- the older ones stand where they stood
pub older_at : (x : Entry) (older : List Entry) (place : ℕ) (e : Entry) → slice_get (reverse older) place ≡ Some e → slice_get (reverse (x ∷ older)) place ≡ Some e
older_at x older place e is =
    let within : place < length (reverse older) = slice_get_within (reverse older) place e is in
    ap (λ es. slice_get es place) (reverse-append (x ∷ []) older)
    ∙ (slice_get-get_or (reverse older ++ x ∷ []) place e (let more = length-append (reverse older) (x ∷ []) in omega arith)
    ∙ ap Some (get_or_append_left (reverse older) (x ∷ []) e place within ∙ get_or_from_slice_get (reverse older) place e e is))

-- so do those before a place
dropped_at : (n : ℕ) (trail : List Entry) (place : ℕ) (e : Entry) → slice_get (reverse (drop n trail)) place ≡ Some e → slice_get (reverse trail) place ≡ Some e
dropped_at zero trail place e is = is
dropped_at (suc n) [] place e is = is
dropped_at (suc n) (x ∷ older) place e is = older_at x older place e (dropped_at n older place e is)

pub before_at : (place : ℕ) (trail : List Entry) (at : ℕ) (e : Entry) → slice_get (reverse (before place trail)) at ≡ Some e → slice_get (reverse trail) at ≡ Some e
before_at place trail at e is = dropped_at (length trail - place) trail at e is

-- a variable's place is that of its newest entry
place_within : (v at : ℕ) (trail : List Entry) → place_of trail v ≡ Some at → at < length trail
place_within v at [] is = cc
place_within v at (e ∷ older) is = by_test (e.lit.variable == v) is (place_within v at older)
  where
    by_test : (b : Bool) → cond b (Some (length older)) (place_of older v) ≡ Some at → (place_of older v ≡ Some at → at < length older) → at < length (e ∷ older)
    by_test true is later = let here = same_Some (length older) at is in omega arith
    by_test false is later = let rest : at < length older = later is in omega arith

pub entry_there : (v at : ℕ) (trail : List Entry) (e : Entry) → place_of trail v ≡ Some at → slice_get (reverse trail) at ≡ Some e → entry_of trail v ≡ Some e
entry_there v at [] e is there = cc
entry_there v at (x ∷ older) e is there = by_test (x.lit.variable == v) is (entry_there v at older e)
  where
    by_test : (b : Bool) → cond b (Some (length older)) (place_of older v) ≡ Some at → (place_of older v ≡ Some at → slice_get (reverse older) at ≡ Some e → entry_of older v ≡ Some e) →
        cond b (Some x) (entry_of older v) ≡ Some e
    by_test true is later = sym (newest_at x older) ∙ (ap (slice_get (reverse (x ∷ older))) (same_Some (length older) at is) ∙ there)
    by_test false is later =
        let within = place_within v at older is in
        let long = length-reverse older in
        let found : slice_get (reverse older) at ≡ Some (get_or (reverse older) at e) = slice_get-get_or (reverse older) at e (omega arith) in
        let same : get_or (reverse older) at e ≡ e = same_Some (get_or (reverse older) at e) e (sym (older_at x older at (get_or (reverse older) at e) found) ∙ there) in
        later is (found ∙ ap Some same)

-- entries that are left fit too
fits_drop : (look : Name → Option (List Literal)) (n : ℕ) (trail : List Entry) → IsFitting look trail → IsFitting look (drop n trail)
fits_drop look zero trail fitting = fitting
fits_drop look (suc n) [] fitting = fitting
fits_drop look (suc n) (e ∷ older) fitting = fits_drop look n older (fits_older look e older fitting)

pub fits_before : (look : Name → Option (List Literal)) (place : ℕ) (t : TrailState) → IsTrail t → FitsClauses look t.entries → IsFitting look (before place t.entries)
fits_before look place t trail fits = fits_drop look (length t.entries - place) t.entries (record { distinct = trail.distinct; fits = fits; leveled = trail.leveled })
