use Rattle.std.proofs.Common.{sym, arith}
use Rattle.std.proofs.lemmas.Result.{err_from_is_err_and}
use Rattle.cnf_text.proofs.Numerals.{front_fault, front_read, front_length}
use Rattle.cnf_text.proofs.scan.Scan.advance.Goals as goal

-- the number at the front is read
pub returns-in-Some : goal.returns-in-Some
returns-in-Some c =
    let same = front_read c.args.self.now c.step_number.new.self c.in-Some.numeral c.args.bytes.now (sym c.if-is_between.ensures) (sym c.if-is_body.ensures) c.in-Some.ensures c.in_ok-step_number.ensures.judged in
    let within = front_length c.in-Some.numeral c.args.bytes.now c.in-Some.ensures in
    record { reads = (same, within, omega (arith, c.in_ok-step_number.ensures.lines)); some = omega arith }

-- or it is a fault
pub returns-in_err-step_number : goal.returns-in_err-step_number
returns-in_err-step_number c =
    let p = err_from_is_err_and c.from_residual.result c.from_residual.ensures.1 in
    rw (p.1, p.2) (record {
      reads = (
        front_fault c.args.self.now c.in-Some.numeral c.args.bytes.now c.in_err-step_number.field-0.0 (sym c.if-is_between.ensures) (sym c.if-is_body.ensures) c.in-Some.ensures c.in_err-step_number.ensures.judged,
        omega (arith, c.in_err-step_number.ensures.lines, c.requires.some),
      );
      some = tt;
    })
