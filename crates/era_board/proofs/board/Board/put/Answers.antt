use Rattle.std.proofs.Common.{◌≡◌, ◌+◌, ◌^◌, ◌<◌, ◌≤◌, length, subst, [], set, refl, sym, ap, ◌∙◌, Some, None, arith, rules, length-set}
use mathlib.Core.Path.{Path}
use Rattle.board_rule.specs.declared.views.Account.{Account}
use Rattle.board_rule.specs.declared.views.View.TheVariants.{Party}
use Rattle.board_rule.specs.Mailbox.{bank_of, slot_of, word_of}
use Rattle.board_rule.specs.Steps.{lifted_to_fill, laid_down}
use Rattle.board_rule.specs.Laws.{MayFill, Seated, more}
use Rattle.era_board.specs.Passes.{account}
use Rattle.era_board.proofs.Acts.{lifting, at_seat, knows_own, own_account, holds_first, after_exchange, after_lift, after_put}
use Rattle.era_board.proofs.board.Board.put.Goals as goal

pub fetch_add-requires : goal.fetch_add-requires
fetch_add-requires g c =
    let p = c.args.pass.now in let b = c.args.self.now in let a = account p in let to = c.args.to in
    let at : c.word-mailbox.result ≡ word_of (slot_of a.number to (bank_of (a.arrivals + 1))) = omega (arith, c.word-mailbox.ensures, c.slot-place.ensures.slot, p.number_is, p.arrivals_are) in
    let may : MayFill a to = record { still = p.still; known = c.requires.complete; within = omega (arith, c.requires.other.0, c.requires.board.1); other = c.requires.other.1; next = c.requires.not_yet } in (
      c.requires.board.0,
      omega (arith, c.word-mailbox.ensures, c.slot-place.ensures.below, b.words),
      at_seat _ _ _ 1 _ _ _ _ (more 1) lifted_to_fill p.party at (c.law_lift_fill.ensures b.table.shared.key b.table.shared.table_id.slots p.seat.id a [] to may),
    )

pub exchange-requires : goal.exchange-requires
exchange-requires g c =
    let p = c.args.pass.now in let a = account p in let to = c.args.to in
    let place : c.slot-place.result ≡ slot_of a.number to (bank_of (a.arrivals + 1)) = omega (arith, c.slot-place.ensures.slot, p.number_is, p.arrivals_are) in
    let up = after_lift _ c.fetch_add.new.seat.me a 0 _ 0 to p.party (omega (arith, c.requires.other.0, c.requires.board.1)) (omega (arith, c.word-mailbox.ensures, place)) c.fetch_add.ensures.2 in (
      c.fetch_add.ensures.0 ∙ c.requires.board.0,
      (None, holds_first c.fetch_add.new.seat.me (lifting a to) _ _ None up place),
    )

pub fetch_add-requires-2 : goal.fetch_add-requires-2
fetch_add-requires-2 g c =
    let p = c.args.pass.now in let b = c.args.self.now in let a = account p in let to = c.args.to in
    let place : c.slot-place.result ≡ slot_of a.number to (bank_of (a.arrivals + 1)) = omega (arith, c.slot-place.ensures.slot, p.number_is, p.arrivals_are) in
    let at : c.word-mailbox.result ≡ word_of (slot_of a.number to (bank_of (a.arrivals + 1))) = omega (arith, c.word-mailbox.ensures, place) in
    let up = after_lift _ c.fetch_add.new.seat.me a 0 _ 0 to p.party (omega (arith, c.requires.other.0, c.requires.board.1)) at c.fetch_add.ensures.2 in
    let full = after_exchange c.fetch_add.new.seat.me c.exchange.new.seat.me (lifting a to) _ _ None (Some c.args.value) up place c.exchange.ensures.3 in (
      search rules,
      omega (arith, c.word-mailbox.ensures, c.slot-place.ensures.below, b.words),
      at_seat _ _ _ 1 _ _ _ _ (more 1) laid_down full at (c.law_laid.ensures b.table.shared.key b.table.shared.table_id.slots c.exchange.new.seat.id (lifting a to) [] to c.args.value refl c.requires.fits),
    )

pub invariant_of-pass : goal.invariant_of-pass
invariant_of-pass g c =
    let p = c.args.pass.now in let a = account p in let to = c.args.to in
    let place : c.slot-place.result ≡ slot_of a.number to (bank_of (a.arrivals + 1)) = omega (arith, c.slot-place.ensures.slot, p.number_is, p.arrivals_are) in
    let m = c.fetch_add-2.new.seat.me in let a' : Account g.row.T-Occasion.Denot = record a { laid = set a.laid to (a.arrivals + 1) } in
    let now : Path (Seated g.row.T-Occasion.Denot g.row.T.Denot) m (Party a', []) = after_put p.seat.me c.fetch_add.new.seat.me c.exchange.new.seat.me m a to _ _ 0 0 0 c.args.value p.party p.still
    (omega (arith, c.requires.other.0, c.requires.board.1)) place (omega (arith, c.word-mailbox.ensures, place)) c.fetch_add.ensures.2 c.exchange.ensures.3 c.fetch_add-2.ensures.2 in
    let own = own_account m a' [] now in record {
      party = knows_own m a' now;
      still = ap (λ z. z.moving) own ∙ p.still;
      number_is = p.number_is ∙ sym (ap (λ z. z.number) own);
      arrivals_are = p.arrivals_are ∙ sym (ap (λ z. z.arrivals) own);
      within = subst (λ (z : Account g.row.T-Occasion.Denot). z.number < z.parties) (sym own) p.within;
      few_parties = subst (λ (z : Account g.row.T-Occasion.Denot). z.parties ≤ 33) (sym own) p.few_parties;
      few_arrivals = subst (λ (z : Account g.row.T-Occasion.Denot). z.arrivals ≤ 2 ^ 40) (sym own) p.few_arrivals;
      laid_long = ap (λ z. length z.laid) own ∙ (length-set a.laid to (a.arrivals + 1) ∙ (p.laid_long ∙ sym (ap (λ z. z.parties) own)));
      taken_long = ap (λ z. length z.taken) own ∙ (p.taken_long ∙ sym (ap (λ z. z.parties) own));
    }

pub returns-clause-board : goal.returns-clause-board
returns-clause-board g c =
    let p = c.args.pass.now in let a = account p in let to = c.args.to in
    let place : c.slot-place.result ≡ slot_of a.number to (bank_of (a.arrivals + 1)) = omega (arith, c.slot-place.ensures.slot, p.number_is, p.arrivals_are) in
    let m = c.fetch_add-2.new.seat.me in let a' : Account g.row.T-Occasion.Denot = record a { laid = set a.laid to (a.arrivals + 1) } in
    let now : Path (Seated g.row.T-Occasion.Denot g.row.T.Denot) m (Party a', []) = after_put p.seat.me c.fetch_add.new.seat.me c.exchange.new.seat.me m a to _ _ 0 0 0 c.args.value p.party p.still
    (omega (arith, c.requires.other.0, c.requires.board.1)) place (omega (arith, c.word-mailbox.ensures, place)) c.fetch_add.ensures.2 c.exchange.ensures.3 c.fetch_add-2.ensures.2 in
    let own = own_account m a' [] now in (
      search rules,
      ap (λ z. z.parties) own ∙ c.requires.board.1,
    )

pub returns-clause-account : goal.returns-clause-account
returns-clause-account g c =
    let p = c.args.pass.now in let a = account p in let to = c.args.to in
    let place : c.slot-place.result ≡ slot_of a.number to (bank_of (a.arrivals + 1)) = omega (arith, c.slot-place.ensures.slot, p.number_is, p.arrivals_are) in
    let m = c.fetch_add-2.new.seat.me in let a' : Account g.row.T-Occasion.Denot = record a { laid = set a.laid to (a.arrivals + 1) } in
    let now : Path (Seated g.row.T-Occasion.Denot g.row.T.Denot) m (Party a', []) = after_put p.seat.me c.fetch_add.new.seat.me c.exchange.new.seat.me m a to _ _ 0 0 0 c.args.value p.party p.still
    (omega (arith, c.requires.other.0, c.requires.board.1)) place (omega (arith, c.word-mailbox.ensures, place)) c.fetch_add.ensures.2 c.exchange.ensures.3 c.fetch_add-2.ensures.2 in
    let own = own_account m a' [] now in own
