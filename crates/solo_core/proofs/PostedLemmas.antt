-- What a core posts may be imported by the others.
use Rattle.std.proofs.Common.{◌≡◌, ◌≢◌, ℕ, ◌+◌, ◌≤◌, List, [], ◌∷◌, ◌++◌, map, ap, ◌∙◌, subst, arith}
use Rattle.std.specs.Prelude.{filter}
use Rattle.std.proofs.lemmas.Bool.{cond_both}
use Rattle.std.proofs.lemmas.List.{map-append}
use Rattle.std.proofs.lemmas.List.Elements.{filter-append}
use Rattle.lit_base.specs.Rounds.{NamedClause}
use Rattle.solo_core.specs.declared.lemma.Lemma.{Lemma}
use Rattle.solo_core.specs.declared.sheet.End.TheVariants.{Unsat}
use Rattle.solo_core.specs.declared.sheet.Posted.{Posted}
use Rattle.solo_core.specs.State.{CoreFrame, CoreState}
use Rattle.solo_core.specs.Stretch.{stretch}
use Rattle.solo_core.specs.Posts.{is_posted, posted_of, posts_of}
use Rattle.solo_core.specs.Sheet.{mail_of}
use Rattle.solo_core.specs.Period.{ArePosts}
use Rattle.solo_core.specs.Soundness.{IsSound, AreNamed, AreLemmasWithin, AreLemmasDistinct}
use Rattle.solo_core.proofs.EndRules.{conflicts_counted}
use Rattle.solo_core.proofs.StretchSound.{stretch_sound}

-- what two lists post, one after the other
pub posts_of-append : (share : ℕ) (first later : List Lemma) → posts_of share (first ++ later) ≡ posts_of share first ++ posts_of share later
posts_of-append share first later = ap (map posted_of) (filter-append (is_posted share) first later) ∙ map-append posted_of (filter (is_posted share) first) (filter (is_posted share) later)

-- posts from a place on are posts from an earlier one on
posts_from : (variables period core place before : ℕ) (posts : List Posted) → before ≤ place → ArePosts variables period core place posts → ArePosts variables period core before posts
posts_from variables period core place before [] low posts = tt
posts_from variables period core place before (post ∷ later) low posts = ((let first = posts.0 in omega arith), posts.1, posts.2, posts.3, posts.4)

-- lemmas under their names are posted as others import them
pub lemmas_posts : (variables period core share place : ℕ) (lemmas : List Lemma) → AreNamed period core place lemmas → AreLemmasWithin variables lemmas → AreLemmasDistinct lemmas →
    ArePosts variables period core place (posts_of share lemmas)
lemmas_posts variables period core share place [] named within distinct = tt
lemmas_posts variables period core share place (lemma ∷ later) named within distinct =
    let rest = lemmas_posts variables period core share (place + 1) later named.1 within.1 distinct.1 in
    let here : lemma.name.index ≡ place = ap (λ n. n.index) named.0 in
    cond_both (is_posted share lemma) (lemma ∷ filter (is_posted share) later) (filter (is_posted share) later) (λ lemmas. ArePosts variables period core place (map posted_of lemmas))
    (λ short. (
      omega (arith, here),
      named.0 ∙ ap (λ index. record { period = period; core = core; index = index }) (let e : place ≡ lemma.name.index = omega (arith, here) in e),
      within.0,
      distinct.0,
      subst (λ index. ArePosts variables period core (index + 1) (posts_of share later)) (let e : place ≡ lemma.name.index = omega (arith, here) in e) rest,
    ))
    (λ long. posts_from variables period core (place + 1) place (posts_of share later) (omega arith) rest)

-- so are those of a sound core
pub sound_posts : (base : List NamedClause) (frame : CoreFrame) (state : CoreState) (share : ℕ) → IsSound base frame state → ArePosts frame.variables state.period frame.core 0 (posts_of share state.lemmas)
sound_posts base frame state share sound =
    lemmas_posts frame.variables state.period frame.core share 0 state.lemmas sound.derives.named sound.derives.lemmas_within sound.derives.lemmas_distinct

-- and those in the mail of a stretch that didn't refute
pub stretch_posts : (base : List NamedClause) (frame : CoreFrame) (quota : ℕ) (state : CoreState) → IsSound base frame state → (stretch frame quota state).ended ≢ Unsat →
    ArePosts frame.variables state.period frame.core 0 (mail_of frame (stretch frame quota state)).posted
stretch_posts base frame quota state sound other =
    let s = stretch frame quota state in
    subst (λ period. ArePosts frame.variables period frame.core 0 (posts_of frame.share s.state.lemmas)) (conflicts_counted frame quota state).period
    (sound_posts base frame s.state frame.share (stretch_sound base frame quota state sound other))
