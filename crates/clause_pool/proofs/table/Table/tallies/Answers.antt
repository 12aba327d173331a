use Rattle.std.proofs.Common.{◌≡◌, List, reverse, map, ap, sym, ◌∙◌, subst, arith}
use Rattle.std.proofs.lemmas.List.{length-reverse}
use Rattle.std.proofs.lemmas.Result.{IfOk-weaker}
use Rattle.lit_base.specs.Held.{is_among}
use Rattle.lit_base.specs.Literal.{Literal}
use Rattle.lit_base.specs.declared.name.Name.{Name}
use Rattle.clause_pool.specs.Arena.{IsArena}
use Rattle.clause_pool.specs.Slots.{ends_of, clauses_in, slot_names, AreApart}
use Rattle.clause_pool.specs.Tallies.{tallies_but}
use Rattle.clause_pool.proofs.Placing.{apart_read}
use Rattle.clause_pool.proofs.Dropping.{flags_written}
use Rattle.clause_pool.proofs.table.Table.tallies.Goals as goal

-- no two slots have the same name
pub flag-requires-clause-apart : goal.flag-requires-clause-apart
flag-requires-clause-apart c =
    subst (λ items. AreApart (slot_names (reverse items))) (sym c.deref-2.ensures.value)
    (apart_read c.self.inside.literals.items c.self.inside.slots.items c.args.self.now c.self.view_is c.requires)

-- the flags are raised for the names
pub returns : goal.returns
returns c =
    let literals = c.self.inside.literals.items in
    let slots = c.self.inside.slots.items in
    let names = c.args.but.now in
    let flags = flags_written c.in_ok-flags.flags slots c.deref-2.result.now c.deref_mut.result.now c.flag.new.flags names c.deref-2.ensures.value c.flag.ensures
    c.deref_mut.ensures.value c.deref_mut.ensures.len (omega (arith, c.in_ok-flags.ensures.len, c.len.ensures, length-reverse slots)) in
    IfOk-weaker c.tallies_of.result
    (λ tallies. (lits : List Literal) (ns : List Name) → IsArena lits (ends_of (reverse c.deref-3.result.now)) → c.deref-4.result.now ≡ map (λ s. is_among ns s.name) c.deref-3.result.now →
    reverse tallies.items ≡ tallies_but ns (clauses_in lits (reverse c.deref-3.result.now)))
    (λ tallies. reverse tallies.items ≡ tallies_but names c.args.self.now)
    (λ tallies told.
    told literals names (subst (λ xs. IsArena literals (ends_of (reverse xs))) (sym c.deref-3.ensures.value) c.self.invariant.arena)
    (c.deref-4.ensures.value ∙ (flags ∙ ap (map (λ s. is_among names s.name)) (sym c.deref-3.ensures.value)))
    ∙ (ap (λ xs. tallies_but names (clauses_in literals (reverse xs))) c.deref-3.ensures.value ∙ ap (tallies_but names) c.self.view_is))
    c.tallies_of.ensures
