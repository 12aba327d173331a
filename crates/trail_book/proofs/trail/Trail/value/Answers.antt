use Rattle.std.proofs.Common.{◌≡◌, ◌↔◌, Bool, true, false, cond, ap, ◌∙◌, sym, refl}
use Rattle.std.specs.Prelude.{Option, Some, None, is_none}
use Rattle.std.specs.Bool.{beq}
use Rattle.lit_base.specs.declared.trail.Value.TheVariants.{True, False, Free}
use Rattle.lit_base.specs.Trail.{sign_of, value_by, trail_value}
use Rattle.trail_book.specs.Arrays.{value_by_standing}
use Rattle.trail_book.proofs.Standings.{value_read}
use Rattle.trail_book.proofs.trail.Trail.value.Goals as goal

-- the value is read of where the literal stands
read : (c : goal.After-value_by) → c.value_by.result ≡ trail_value c.args.self.now.entries c.args.lit
read c = c.value_by.ensures ∙ (ap value_by_standing c.standing.ensures.value ∙ value_read c.args.self.now.entries c.args.lit c.standing.ensures.trail.few)

-- a literal is free where its variable has no sign
none_by : (sign : Option Bool) (positive : Bool) → (value_by sign positive ≡ Free) ↔ (is_none sign ≡ true)
none_by None positive = (λ is. refl, λ none. refl)
none_by (Some sign) positive = (λ is. by_test (beq sign positive) is, λ none. cc)
  where
    by_test : (b : Bool) → cond b True False ≡ Free → is_none (Some sign) ≡ true
    by_test true is = cc
    by_test false is = cc

pub returns-clause-value : goal.returns-clause-value
returns-clause-value c = read c

pub returns-clause-free : goal.returns-clause-free
returns-clause-free c =
    let free = none_by (sign_of c.args.self.now.entries c.args.lit.variable) c.args.lit.positive in
    (λ is. free.0 (sym (read c) ∙ is), λ none. read c ∙ free.1 none)
