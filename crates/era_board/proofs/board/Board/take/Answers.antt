use Rattle.std.proofs.Common.{◌≡◌, ◌^◌, ◌<◌, ◌≤◌, [], length, set, refl, sym, ap, ◌∙◌, subst, Some, None, arith, rules, length-set}
use mathlib.Core.Path.{Path}
use Rattle.board_rule.specs.declared.views.Account.{Account}
use Rattle.board_rule.specs.declared.views.View.TheVariants.{Party}
use Rattle.board_rule.specs.Mailbox.{bank_of, slot_of, word_of}
use Rattle.board_rule.specs.Steps.{lifted_to_take, emptied}
use Rattle.board_rule.specs.Laws.{MayTake, Seated, more}
use Rattle.era_board.specs.Passes.{account}
use Rattle.era_board.proofs.Acts.{taking, at_seat, knows_own, own_account, holds_first, after_exchange, after_lift_to_take, after_take, taken_mail, no_mail, same_mail}
use Rattle.era_board.proofs.board.Board.take.Goals as goal

pub fetch_add-requires : goal.fetch_add-requires
fetch_add-requires g c =
    let p = c.args.pass.now in let b = c.args.self.now in let a = account p in let from = c.args.from in
    let at : c.word-mailbox.result ≡ word_of (slot_of from a.number (bank_of a.arrivals)) = omega (arith, c.word-mailbox.ensures, c.slot-place.ensures.slot, p.number_is, p.arrivals_are) in
    let may : MayTake a from = record { still = p.still; known = c.requires.complete; within = omega (arith, c.requires.other.0, c.requires.board.1); other = c.requires.other.1; next = c.requires.not_yet } in (
      c.requires.board.0,
      omega (arith, c.word-mailbox.ensures, c.slot-place.ensures.below, b.words),
      at_seat _ _ _ 1 _ _ _ _ (more 1) (lifted_to_take g.T.Told.fits) p.party at (c.law_lift_take.ensures b.table.shared.key b.table.shared.table_id.slots p.seat.id a [] from may),
    )

pub exchange-item-requires : goal.exchange-item-requires
exchange-item-requires g c =
    let p = c.args.pass.now in let a = account p in let from = c.args.from in
    let place : c.slot-place.result ≡ slot_of from a.number (bank_of a.arrivals) = omega (arith, c.slot-place.ensures.slot, p.number_is, p.arrivals_are) in
    let up = after_lift_to_take _ c.fetch_add.new.seat.me a 0 _ 0 g.T.Told.fits from p.party (omega (arith, c.requires.other.0, c.requires.board.1)) (omega (arith, c.word-mailbox.ensures, place)) c.fetch_add.ensures.2 in (
      c.fetch_add.ensures.0 ∙ c.requires.board.0,
      (Some up.0, holds_first c.fetch_add.new.seat.me (taking a from) _ _ (Some up.0) up.1 place),
    )

pub fetch_add-requires-2 : goal.fetch_add-requires-2
fetch_add-requires-2 g c =
    let p = c.args.pass.now in let b = c.args.self.now in let a = account p in let from = c.args.from in
    let place : c.slot-place.result ≡ slot_of from a.number (bank_of a.arrivals) = omega (arith, c.slot-place.ensures.slot, p.number_is, p.arrivals_are) in
    let at : c.word-mailbox.result ≡ word_of (slot_of from a.number (bank_of a.arrivals)) = omega (arith, c.word-mailbox.ensures, place) in
    let up = after_lift_to_take _ c.fetch_add.new.seat.me a 0 _ 0 g.T.Told.fits from p.party (omega (arith, c.requires.other.0, c.requires.board.1)) at c.fetch_add.ensures.2 in
    let out = after_exchange c.fetch_add.new.seat.me c.exchange-item.new.seat.me (taking a from) _ _ (Some up.0) None up.1 place c.exchange-item.ensures.3 in (
      search rules,
      omega (arith, c.word-mailbox.ensures, c.slot-place.ensures.below, b.words),
      at_seat _ _ _ 1 _ _ _ _ (more 1) emptied out at (c.law_emptied.ensures b.table.shared.key b.table.shared.table_id.slots c.exchange-item.new.seat.id (taking a from) [] from refl),
    )

pub invariant_of-pass : goal.invariant_of-pass
invariant_of-pass g c =
    let p = c.args.pass.now in let a = account p in let from = c.args.from in
    let place : c.slot-place.result ≡ slot_of from a.number (bank_of a.arrivals) = omega (arith, c.slot-place.ensures.slot, p.number_is, p.arrivals_are) in
    let m = c.fetch_add-2.new.seat.me in let a' : Account g.row.T-Occasion.Denot = record a { taken = set a.taken from a.arrivals } in
    let now : Path (Seated g.row.T-Occasion.Denot g.row.T.Denot) m (Party a', []) = after_take g.T.Told.fits p.seat.me c.fetch_add.new.seat.me c.exchange-item.new.seat.me m a from _ _ 0 0 0 p.party p.still
    (omega (arith, c.requires.other.0, c.requires.board.1)) place (omega (arith, c.word-mailbox.ensures, place)) c.fetch_add.ensures.2 c.exchange-item.ensures.3 c.fetch_add-2.ensures.2 in
    let own = own_account m a' [] now in record {
      party = knows_own m a' now;
      still = ap (λ z. z.moving) own ∙ p.still;
      number_is = p.number_is ∙ sym (ap (λ z. z.number) own);
      arrivals_are = p.arrivals_are ∙ sym (ap (λ z. z.arrivals) own);
      within = subst (λ (z : Account g.row.T-Occasion.Denot). z.number < z.parties) (sym own) p.within;
      few_parties = subst (λ (z : Account g.row.T-Occasion.Denot). z.parties ≤ 33) (sym own) p.few_parties;
      few_arrivals = subst (λ (z : Account g.row.T-Occasion.Denot). z.arrivals ≤ 2 ^ 40) (sym own) p.few_arrivals;
      laid_long = ap (λ z. length z.laid) own ∙ (p.laid_long ∙ sym (ap (λ z. z.parties) own));
      taken_long = ap (λ z. length z.taken) own ∙ (length-set a.taken from a.arrivals ∙ (p.taken_long ∙ sym (ap (λ z. z.parties) own)));
    }

-- the slot was not empty
pub unreachable-requires : goal.unreachable-requires
unreachable-requires g c =
    let p = c.args.pass.now in let a = account p in let from = c.args.from in
    let mail = taken_mail g.T.Told.fits p.seat.me c.fetch_add.new.seat.me a from c.slot-place.result _ 0 0 c.exchange-item.result p.party (omega (arith, c.requires.other.0, c.requires.board.1))
    (omega (arith, c.word-mailbox.ensures, c.slot-place.ensures.slot, p.number_is, p.arrivals_are)) c.fetch_add.ensures.2 c.exchange-item.ensures.2 in no_mail _ mail.0 c.in-None.is mail.1

pub returns-clause-board : goal.returns-clause-board
returns-clause-board g c =
    let p = c.args.pass.now in let a = account p in let from = c.args.from in
    let place : c.slot-place.result ≡ slot_of from a.number (bank_of a.arrivals) = omega (arith, c.slot-place.ensures.slot, p.number_is, p.arrivals_are) in
    let m = c.fetch_add-2.new.seat.me in let a' : Account g.row.T-Occasion.Denot = record a { taken = set a.taken from a.arrivals } in
    let now : Path (Seated g.row.T-Occasion.Denot g.row.T.Denot) m (Party a', []) = after_take g.T.Told.fits p.seat.me c.fetch_add.new.seat.me c.exchange-item.new.seat.me m a from _ _ 0 0 0 p.party p.still
    (omega (arith, c.requires.other.0, c.requires.board.1)) place (omega (arith, c.word-mailbox.ensures, place)) c.fetch_add.ensures.2 c.exchange-item.ensures.3 c.fetch_add-2.ensures.2 in
    let own = own_account m a' [] now in (
      search rules,
      ap (λ z. z.parties) own ∙ c.requires.board.1,
    )

pub returns-clause-account : goal.returns-clause-account
returns-clause-account g c =
    let p = c.args.pass.now in let a = account p in let from = c.args.from in
    let place : c.slot-place.result ≡ slot_of from a.number (bank_of a.arrivals) = omega (arith, c.slot-place.ensures.slot, p.number_is, p.arrivals_are) in
    let m = c.fetch_add-2.new.seat.me in let a' : Account g.row.T-Occasion.Denot = record a { taken = set a.taken from a.arrivals } in
    let now : Path (Seated g.row.T-Occasion.Denot g.row.T.Denot) m (Party a', []) = after_take g.T.Told.fits p.seat.me c.fetch_add.new.seat.me c.exchange-item.new.seat.me m a from _ _ 0 0 0 p.party p.still
    (omega (arith, c.requires.other.0, c.requires.board.1)) place (omega (arith, c.word-mailbox.ensures, place)) c.fetch_add.ensures.2 c.exchange-item.ensures.3 c.fetch_add-2.ensures.2 in
    let own = own_account m a' [] now in own

pub returns-clause-fits : goal.returns-clause-fits
returns-clause-fits g c =
    let p = c.args.pass.now in let a = account p in let from = c.args.from in
    let mail = taken_mail g.T.Told.fits p.seat.me c.fetch_add.new.seat.me a from c.slot-place.result _ 0 0 c.exchange-item.result p.party (omega (arith, c.requires.other.0, c.requires.board.1))
    (omega (arith, c.word-mailbox.ensures, c.slot-place.ensures.slot, p.number_is, p.arrivals_are)) c.fetch_add.ensures.2 c.exchange-item.ensures.2 in subst (g.T.Told.fits a.occasion from a.number a.arrivals) (same_mail _ _ _ mail.1 c.in-Some.is) mail.2
