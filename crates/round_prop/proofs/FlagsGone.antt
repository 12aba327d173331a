-- Lowering the flags of all notes, where each flag that is set is of a note.
use Rattle.std.proofs.Common.{◌≡◌, ℕ, Bool, true, false, List, length, replicate, Vec, Global, ap, sym, ◌∙◌}
use Rattle.std.specs.Prelude.{Some, slice_get}
use Rattle.std.specs.Vec.{with_items}
use Rattle.std.proofs.lemmas.List.{length-replicate, with_items_is}
use Rattle.lit_base.specs.declared.name.Name.{Name}
use Rattle.round_prop.specs.declared.note.Note.{Note}
use Rattle.round_prop.specs.Noting.{HasNote, flags_without}
use Rattle.round_prop.proofs.NoteSteps.{flags_gone}

-- none of the flags that were lent and came back is set
pub lowered_back : (flags : Vec Bool Global) (notes : List Note) (lent back : List Bool) (read : List Note) → lent ≡ flags.items → length lent ≡ flags.len → read ≡ notes → back ≡ flags_without read lent →
    ((row : ℕ) → slice_get flags.items row ≡ Some true → (name : Name) × HasNote notes row name) → (with_items flags back).items ≡ replicate (length flags.items) false
lowered_back flags notes lent back read is long same lowered flagged = with_items_is flags back all ∙ gone
  where
    gone : back ≡ replicate (length flags.items) false
    gone = lowered ∙ (ap (λ ns. flags_without ns lent) same ∙ (ap (λ fs. flags_without notes fs) is ∙ flags_gone notes flags.items flagged))

    all : length back ≡ flags.len
    all = ap length gone ∙ (length-replicate (length flags.items) false ∙ (sym (ap length is) ∙ long))
