use Rattle.std.proofs.Common.{◌≡◌, ℕ, ◌<◌, Bool, false, List, length, get_or, refl, inr, ap, ◌∙◌, arith}
use Rattle.std.specs.Prelude.{Some, slice_get}
use Rattle.std.proofs.lemmas.Option.{slice_get_read}
use Rattle.round_prop.proofs.NoteSteps.{clear_set}
use Rattle.round_prop.proofs.noted.Noted.add.Goals as goal

-- the flag is clear
flag_read : (flags : List Bool) (row : ℕ) (flag : Bool) → row < length flags → flag ≡ get_or flags row flag → flag ≡ false → slice_get flags row ≡ Some false
flag_read flags row flag inside is clear = slice_get_read flags (length flags) row flag refl inside is ∙ ap (λ b. Some b) clear

pub push_reserved-requires : goal.push_reserved-requires
push_reserved-requires c =
    let clear = flag_read c.args.self.now.flags.items c.args.row c.index.result.now c.requires.row c.index.ensures c.if-index.false in
    omega (arith, c.requires.room, clear_set c.args.self.now.flags.items c.args.row clear)

pub returns-clause-added : goal.returns-clause-added
returns-clause-added c =
    inr (flag_read c.args.self.now.flags.items c.args.row c.index.result.now c.requires.row c.index.ensures c.if-index.false, c.push_reserved.ensures.items, refl)
