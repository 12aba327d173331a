-- Lemmas on writing a text piece by piece.
use Rattle.std.proofs.Common.{◌≡◌, ℕ, ◌-◌, ◌≤◌, List, ◌++◌, Option, Some, None, Result, Ok, Err, length, take, drop, refl, ap, ◌∙◌, append_assoc, arith}
use Rattle.std.proofs.lemmas.List.{take-append-drop, take_all, length-drop}
use Rattle.std.specs.Io.KnownBytes.{append_known}
use Rattle.desk_io.specs.declared.Port.{Port}
use Rattle.desk_io.specs.declared.Port.TheVariants.{Answer, Log, Complaint}
use Rattle.desk_io.specs.declared.PortFault.{PortFault}
use Rattle.desk_io.specs.declared.PortFault.TheVariants.{Failed, NoMemory}
use Rattle.desk_io.specs.Told.{PortTold, OutputsTold, Rose, KeepsOtherPorts}
use Rattle.desk_io.specs.Outputs.{Writes, WritesWhole, OnFailed}

-- of `text` the port has taken a front, and `rest` is still to come
pub record HasWritten (port : Port) (text rest : List ℕ) (start now : OutputsTold) : Type 0 where
  pub done : List ℕ
  pub parts : done ++ rest ≡ text
  pub bytes : (now.at port).written ≡ append_known (start.at port).written done
  pub creates : now.creates ≡ start.creates
  pub names : now.names ≡ start.names
  pub later : (start.at port).faults ≤ (now.at port).faults
  pub others : KeepsOtherPorts port start.at now.at

-- bytes that grow twice grow by both parts
append_known-twice : (known : Option (List ℕ)) (xs ys : List ℕ) → append_known (append_known known xs) ys ≡ append_known known (xs ++ ys)
append_known-twice None xs ys = refl
append_known-twice (Some bytes) xs ys = ap Some (append_assoc bytes xs ys)

-- what two calls on one port leave, both leave together
pub KeepsOtherPorts-twice : (port : Port) (start mid after : Port → PortTold) → KeepsOtherPorts port start mid → KeepsOtherPorts port mid after → KeepsOtherPorts port start after
KeepsOtherPorts-twice Answer start mid after first second = (second.0 ∙ first.0, second.1 ∙ first.1)
KeepsOtherPorts-twice Log start mid after first second = (second.0 ∙ first.0, second.1 ∙ first.1)
KeepsOtherPorts-twice Complaint start mid after first second = (second.0 ∙ first.0, second.1 ∙ first.1)

-- a text behind its first n bytes, as a slice from n on gives it
take-drop_to_end : (n : ℕ) (xs : List ℕ) → take (length xs - n) (drop n xs) ≡ drop n xs
take-drop_to_end n xs = take_all (length xs - n) (drop n xs) (omega (arith, length-drop n xs))

-- one more write takes the first n bytes of what was still to come
pub HasWritten-more : {port : Port} {text rest : List ℕ} {start mid after : OutputsTold} (n : ℕ) → HasWritten port text rest start mid → Writes port rest mid after (Ok n)
    → HasWritten port text (take (length rest - n) (drop n rest)) start after
HasWritten-more {port} {text} {rest} {start} {mid} {after} n before write = record {
  done = before.done ++ take n rest;
  parts = append_assoc before.done (take n rest) _ ∙ ap (λ xs. before.done ++ (take n rest ++ xs)) (take-drop_to_end n rest)
      ∙ ap (λ xs. before.done ++ xs) (take-append-drop n rest) ∙ before.parts;
  bytes = write.written.bytes ∙ ap (λ known. append_known known (take n rest)) before.bytes ∙ append_known-twice (start.at port).written before.done (take n rest);
  creates = write.creates ∙ before.creates;
  names = write.names ∙ before.names;
  later = omega (arith, before.later, write.later);
  others = KeepsOtherPorts-twice port start.at mid.at after.at before.others write.others;
}

-- a fault that rose from a later count rose from an earlier one
pub OnFailed-later : (result : Result (Unit {0}) PortFault) (start mid after : ℕ) → start ≤ mid → OnFailed result (Rose mid after) → OnFailed result (Rose start after)
OnFailed-later (Ok done) start mid after later rose = tt
OnFailed-later (Err Failed) start mid after later rose = omega (arith, rose)
OnFailed-later (Err NoMemory) start mid after later rose = tt

-- a text that was written whole, and then another, were written as one
pub WritesWhole-then : {port : Port} {first second : List ℕ} {start mid after : OutputsTold} → WritesWhole port first start mid (Ok tt) →
    WritesWhole port second mid after (Ok tt) → WritesWhole port (first ++ second) start after (Ok tt)
WritesWhole-then {port} {first} {second} {start} {mid} {after} front back = record {
  creates = back.creates ∙ front.creates;
  names = back.names ∙ front.names;
  written = back.written ∙ ap (λ known. append_known known second) front.written ∙ append_known-twice (start.at port).written first second;
  later = omega (arith, front.later, back.later);
  failed = tt;
  others = KeepsOtherPorts-twice port start.at mid.at after.at front.others back.others;
}

-- a text of which a front was written whole, and no more since the port stopped
pub WritesWhole-front : {port : Port} {text done : List ℕ} {start after : OutputsTold} {fault : PortFault} (rest : List ℕ) → done ++ rest ≡ text → WritesWhole port done start after (Ok tt) →
    OnFailed {T = Unit {0}} (Err fault) (Rose (start.at port).faults (after.at port).faults) → WritesWhole port text start after (Err fault)
WritesWhole-front {done = done} rest parts front failed = record {
  creates = front.creates;
  names = front.names;
  written = record { done = done; rest = rest; parts = parts; bytes = front.written };
  later = front.later;
  failed = failed;
  others = front.others;
}
