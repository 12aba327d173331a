-- A core that has no answer may go on: what it needs for the next period holds, and after an import it is at its start.
use Rattle.std.proofs.Common.{◌≡◌, Bool, false, List, ◌++◌, ap, sym, ◌∙◌, subst}
use Rattle.std.specs.Prelude.{Option, Some, None}
use Rattle.lit_base.specs.Trail.{level_now}
use Rattle.solo_core.specs.declared.sheet.End.{End}
use Rattle.solo_core.specs.declared.sheet.Mail.{Mail}
use Rattle.solo_core.specs.State.{CoreValue, SearchState, lemma_clauses}
use Rattle.solo_core.specs.Period.{clauses_posted, core_after_import, AreMails, AreNewTo}
use Rattle.solo_core.specs.Searching.{IsJoined, IsSearchAt}
use Rattle.solo_core.specs.Soundness.{IsSound}
use Rattle.solo_core.specs.Calls.{GoesOn, HasNoAnswer, IsSoundNext, IsOpen, IsKept}
use Rattle.solo_core.proofs.Joined.{at_search}
use Rattle.solo_core.proofs.NextPeriod.{next_period_sound, next_period_others, import_sound}
use Rattle.solo_core.proofs.HeldPosts.{mails_new_to}

-- a search that may go to its next period
pub record MayGoOn (s : SearchState) : Type 0 where
  pub next : IsSoundNext s
  pub root : level_now s.state.trail ≡ 0

-- one without an answer may, before the stretch of its period as after it
may_go_on : (s : SearchState) (ended : Option End) → IsKept s ended → HasNoAnswer ended → MayGoOn s
may_go_on s None kept none = record {
  next = record {
    base = kept.base ++ lemma_clauses s.state.lemmas;
    sound = next_period_sound kept.base s.frame s.state kept.sound;
    others = next_period_others kept.base s.frame s.state kept.sound;
  };
  root = kept.root;
}
may_go_on s (Some ended) kept goes = record { next = kept.sound (λ refutes. subst GoesOn refutes goes); root = kept.root goes }

kept_joined : (s : SearchState) (ended : Option End) → IsKept s ended → IsJoined s
kept_joined s None kept = kept.joined
kept_joined s (Some ended) kept = kept.joined

-- the mails are what the search may import
abbrev pub AreItsMails : SearchState → List Mail → Type 0
AreItsMails s mails = AreMails s.frame.variables s.state.period s.frame.core 0 mails

-- a search that may import these mails
pub record MayImport (s : SearchState) (mails : List Mail) : Type 0 where
  pub goes : MayGoOn s
  pub posts : AreItsMails s mails
  pub joined : IsJoined s

-- a core with its search
abbrev pub core_with : SearchState → Option End → Bool → Bool → CoreValue
core_with s ended handed broken = record { frame = s.frame; state = s.state; ended = ended; is_handed = handed; is_broken = broken }

-- the search of a core that isn't broken may import what the core is asked to
pub may_import : (s : SearchState) (ended : Option End) (handed broken : Bool) (c : CoreValue) (mails : List Mail) → core_with s ended handed broken ≡ c → broken ≡ false → IsKept s ended →
    (c.is_broken ≡ false → HasNoAnswer c.ended) → (c.is_broken ≡ false → AreMails c.frame.variables c.state.period c.frame.core 0 mails) → MayImport s mails
may_import s ended handed broken c mails is whole kept none are =
    let unbroken : c.is_broken ≡ false = sym (ap (λ (d : CoreValue). d.is_broken) is) ∙ whole in
    record {
      goes = may_go_on s ended kept (subst (λ (d : CoreValue). HasNoAnswer d.ended) (sym is) (none unbroken));
      posts = subst (λ (d : CoreValue). AreMails d.frame.variables d.state.period d.frame.core 0 mails) (sym is) (are unbroken);
      joined = kept_joined s ended kept;
    }

-- what they post is new to it
pub imports_free : (s : SearchState) (mails : List Mail) → MayImport s mails → AreNewTo s.state.clauses (clauses_posted mails)
imports_free s mails may = mails_new_to may.goes.next.base s.frame s.state mails may.goes.next.sound may.goes.next.others may.goes.root may.posts

-- and after the import it is at the start of the next period
pub import_opens : (s after : SearchState) (mails : List Mail) → MayImport s mails → IsSearchAt s.frame (core_after_import mails s.state) after → IsJoined after → IsOpen after
import_opens s after mails may is joined =
    let next = may.goes.next in
    let base = next.base ++ clauses_posted mails in
    record {
      base = base;
      sound = at_search (λ f k. IsSound base f k) s.frame (core_after_import mails s.state) after is
          (import_sound next.base s.frame s.state mails next.sound next.others may.goes.root may.posts);
      root = at_search (λ f k. level_now k.trail ≡ 0) s.frame (core_after_import mails s.state) after is may.goes.root;
      joined = joined;
    }
