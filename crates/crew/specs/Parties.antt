-- What holds of a core that is a party of a board, between the halves of its eras.
use Rattle.std.specs.Prelude.{ℕ, ◌≡◌, ◌+◌, ◌<◌, true, false, IfSome, All, List, [], ◌∷◌, ◌++◌, Option, Some, None}
use Rattle.lit_base.specs.Cnf.{Cnf}
use Rattle.era_board.specs.declared.board.Board.{Board}
use Rattle.era_board.specs.declared.pass.Seated.{Seated}
use Rattle.era_board.specs.Boards.{IsPassOf}
use Rattle.era_board.specs.Passes.{account}
use Rattle.era_board.specs.Periods.{IsAtRest, HasSent}
use Rattle.solo_core.specs.declared.sheet.Settings.{Settings}
use Rattle.crew.specs.declared.post.Brief.{Brief}
use Rattle.crew.specs.declared.post.Post.{Post}
use Rattle.crew.specs.declared.party.Left.{Left}
use Rattle.crew.specs.declared.party.Party.{Party}
use Rattle.crew.specs.declared.party.Step.{Step}
use Rattle.crew.specs.declared.party.Step.TheVariants.{GoesOn, Over, Broken}
use Rattle.crew.specs.Era.{is_over, mail_at, sheet_left}
use Rattle.crew.specs.Run.{mails_at}
use Rattle.crew.specs.Turns.{AtMember, begun, at_rest}

-- a board that carries posts, and a pass of one
abbrev pub Posts : Type 0
Posts = Board Post Brief

abbrev pub PassOf : Type 0
PassOf = Seated Post Brief

-- the pass is one of this board, on which the cores of this run and a scribe work
pub record IsPassIn (board : Posts) (cnf : Cnf) (settings : Settings) (pass : PassOf) : Type 0 where
  pub given : IsPassOf board pass
  pub parties : board.parties ≡ settings.cores + 1
  pub formula : (account pass).occasion.formula.value ≡ cnf
  pub range : (account pass).occasion.settings ≡ settings

-- a list with what came behind it, where something came
abbrev pub IsOneMore : {X : Type 0} → List X → Option X → List X → Type 0
IsOneMore before None after = ⊥
IsOneMore before (Some x) after = after ≡ before ++ x ∷ []

-- the number of a party
abbrev pub number_of : Party → ℕ
number_of party = (account party.pass).number

-- what a core leaves of an era: the mail that it keeps, the same mail for the others, and its sheet; nothing where memory
-- was refused
pub record IsLeft (cnf : Cnf) (settings : Settings) (past core : ℕ) (left : Left) : Type 0 where
  pub own : IfSome left.own (λ mail. AtMember cnf settings past core (λ m. mail ≡ mail_at m))
  pub copies : All (λ mail. AtMember cnf settings past core (λ m. mail ≡ mail_at m)) left.copies.items
  pub sheet : IfSome left.sheet (λ sheet. AtMember cnf settings past core (λ m. sheet ≡ sheet_left m))

-- a party at the start of an era: its core is at the start of it too, unless memory was refused
pub record PartyAt (board : Posts) (cnf : Cnf) (settings : Settings) (past : ℕ) (party : Party) : Type 0 where
  pub pass : IsPassIn board cnf settings party.pass
  pub core : number_of party < settings.cores
  pub rest : IsAtRest (account party.pass)
  pub arrivals : (account party.pass).arrivals ≡ past
  pub begun : party.is_broken ≡ false → AtMember cnf settings past (number_of party) (λ m. party.searcher ≡ begun m)

-- it has sent its posts of the era: its core has made the stretch and left its sheet, unless memory was refused
pub record PartySent (board : Posts) (cnf : Cnf) (settings : Settings) (past : ℕ) (party : Party) : Type 0 where
  pub pass : IsPassIn board cnf settings party.pass
  pub core : number_of party < settings.cores
  pub sent : HasSent (account party.pass)
  pub arrivals : (account party.pass).arrivals ≡ past + 1
  pub own : IfSome party.own (λ mail. AtMember cnf settings past (number_of party) (λ m. mail ≡ mail_at m))
  pub at_rest : party.is_broken ≡ false → AtMember cnf settings past (number_of party) (λ m. party.searcher ≡ at_rest m)

-- it has received the posts of the others, and the era was the last
pub record PartyDone (board : Posts) (cnf : Cnf) (settings : Settings) (past : ℕ) (party : Party) : Type 0 where
  pub pass : IsPassIn board cnf settings party.pass
  pub rest : IsAtRest (account party.pass)
  pub arrivals : (account party.pass).arrivals ≡ past + 1

-- how an era ends that a party has all mails of
abbrev pub Decides : Cnf → Settings → ℕ → Party → Step → Type 0
Decides cnf settings past party GoesOn = (is_over (mails_at cnf settings past) ≡ false)
    × (party.is_broken ≡ false → AtMember cnf settings (past + 1) (number_of party) (λ m. party.searcher ≡ begun m))
Decides cnf settings past party Over = is_over (mails_at cnf settings past) ≡ true
Decides cnf settings past party Broken = Unit {0}

-- after it has received the posts of an era it goes on into the next one, or the run is over; or it has met a broken party,
-- a halt, or want of memory
abbrev pub Receives : Posts → Cnf → Settings → ℕ → Party → Step → Type 0
Receives board cnf settings past party GoesOn = (is_over (mails_at cnf settings past) ≡ false) × PartyAt board cnf settings (past + 1) party
Receives board cnf settings past party Over = (is_over (mails_at cnf settings past) ≡ true) × PartyDone board cnf settings past party
Receives board cnf settings past party Broken = Unit {0}
