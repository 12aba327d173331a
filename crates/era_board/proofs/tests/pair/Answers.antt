use Rattle.std.proofs.Common.{◌++◌, ap, ◌∙◌, arith}
use Rattle.std.specs.Option.{option_to_list}
use Rattle.era_board.proofs.Resting.{rests_when_fresh, two_popped}
use Rattle.era_board.proofs.tests.pair.Goals as goal

pub returns-clause-first : goal.returns-clause-first
returns-clause-first g c =
    let made = c.in_ok-board.ensures in let one = c.expect-first.result in let two = c.expect-second.result in
    let at = two_popped c.in_ok-board.passes.items c.pop.new.self.items c.pop-2.new.self.items one two (c.pop.ensures.items ∙ ap (λ o. c.pop.new.self.items ++ option_to_list o) c.expect-second.ensures)
    (c.pop-2.ensures.items ∙ ap (λ o. c.pop-2.new.self.items ++ option_to_list o) c.expect-first.ensures) (omega (arith, made.passes, c.in_ok-board.passes.ok.0)) in
    let is = made.each 0 one at.0 in let rests = rests_when_fresh _ 9 2 0 is.1 in (is.0, rests.0, rests.1, rests.2)

pub returns-clause-second : goal.returns-clause-second
returns-clause-second g c =
    let made = c.in_ok-board.ensures in let one = c.expect-first.result in let two = c.expect-second.result in
    let at = two_popped c.in_ok-board.passes.items c.pop.new.self.items c.pop-2.new.self.items one two (c.pop.ensures.items ∙ ap (λ o. c.pop.new.self.items ++ option_to_list o) c.expect-second.ensures)
    (c.pop-2.ensures.items ∙ ap (λ o. c.pop-2.new.self.items ++ option_to_list o) c.expect-first.ensures) (omega (arith, made.passes, c.in_ok-board.passes.ok.0)) in
    let is = made.each 1 two at.1 in let rests = rests_when_fresh _ 9 2 1 is.1 in (is.0, rests.0, rests.1, rests.2)
