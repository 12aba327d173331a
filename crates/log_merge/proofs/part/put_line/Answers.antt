use Rattle.std.proofs.Common.{refl}
use Rattle.std.specs.Prelude.{codes}
use Rattle.log_merge.specs.Part.{literals_text, hints_text}
use Rattle.log_merge.proofs.Gathered.{Gathers-same, Gathers-then, Gathers-longer, Gathers-stopped}
use Rattle.log_merge.proofs.Lines.{line_parts}
use Rattle.log_merge.proofs.part.put_line.Goals as goal

-- the gathering stopped at the number
pub returns-in_err-put_word : goal.returns-in_err-put_word
returns-in_err-put_word g c =
    let n = c.args.numbers.now in
    let lemma = c.args.lemma.now in
    Gathers-same (line_parts n lemma c.number.result lemma.lits lemma.hints c.number.ensures refl refl)
    (Gathers-stopped (codes " 0\n") _ c.from_residual.result c.from_residual.ensures.1 (Gathers-longer (hints_text n lemma.hints) (Gathers-longer (codes " 0")
    (Gathers-longer (literals_text lemma.lits) c.in_err-put_word.ensures))))

-- at a literal
pub returns-in_err-put_literals : goal.returns-in_err-put_literals
returns-in_err-put_literals g c =
    let n = c.args.numbers.now in
    let lemma = c.args.lemma.now in
    Gathers-same (line_parts n lemma c.number.result c.as_slice.result.now lemma.hints c.number.ensures c.as_slice.ensures refl)
    (Gathers-stopped (codes " 0\n") _ c.from_residual-in_err-put_literals.result c.from_residual-in_err-put_literals.ensures.1 (Gathers-longer (hints_text n lemma.hints) (Gathers-longer (codes " 0")
    (Gathers-then c.in_ok-put_word.ensures c.in_err-put_literals.ensures))))

-- at the 0 behind the literals
pub returns-in_err-put_mark : goal.returns-in_err-put_mark
returns-in_err-put_mark g c =
    let n = c.args.numbers.now in
    let lemma = c.args.lemma.now in
    Gathers-same (line_parts n lemma c.number.result c.as_slice.result.now lemma.hints c.number.ensures c.as_slice.ensures refl)
    (Gathers-stopped (codes " 0\n") _ c.from_residual-in_err-put_mark.result c.from_residual-in_err-put_mark.ensures.1 (Gathers-longer (hints_text n lemma.hints)
    (Gathers-then (Gathers-then c.in_ok-put_word.ensures c.in_ok-put_literals.ensures) c.in_err-put_mark.ensures)))

-- at a hint
pub returns-in_err-put_hints : goal.returns-in_err-put_hints
returns-in_err-put_hints g c =
    let n = c.args.numbers.now in
    let lemma = c.args.lemma.now in
    Gathers-same (line_parts n lemma c.number.result c.as_slice.result.now c.as_slice-2.result.now c.number.ensures c.as_slice.ensures c.as_slice-2.ensures)
    (Gathers-stopped (codes " 0\n") _ c.from_residual-in_err-put_hints.result c.from_residual-in_err-put_hints.ensures.1
    (Gathers-then (Gathers-then (Gathers-then c.in_ok-put_word.ensures c.in_ok-put_literals.ensures) c.in_ok-put_mark.ensures) c.in_err-put_hints.ensures))

-- all parts of the line, one after the other
pub returns : goal.returns
returns g c =
    Gathers-same (line_parts c.args.numbers.now c.args.lemma.now c.number.result c.as_slice.result.now c.as_slice-2.result.now c.number.ensures c.as_slice.ensures c.as_slice-2.ensures)
    (Gathers-then (Gathers-then (Gathers-then (Gathers-then c.in_ok-put_word.ensures c.in_ok-put_literals.ensures) c.in_ok-put_mark.ensures) c.in_ok-put_hints.ensures) c.put_mark-2.ensures)
