-- The table without rows.
use Rattle.std.proofs.Common.{◌≡◌, ℕ, ◌+◌, ◌*◌, List, [], length, replicate, refl, ap, sym, ◌∙◌, subst, arith}
use Rattle.std.specs.Prelude.{Some, None, slice_get}
use Rattle.std.proofs.lemmas.List.{length-replicate}
use Rattle.round_prop.specs.declared.node.Node.{Node}
use Rattle.round_prop.specs.declared.row.Row.{Row}
use Rattle.round_prop.specs.declared.table.Table.{Table}
use Rattle.round_prop.specs.Chains.{no_node, lits_of, AreThreaded}
use Rattle.round_prop.specs.Noting.{AreNotesOf, load_of}
use Rattle.round_prop.specs.Readied.{row_names, IsReady}
use Rattle.round_prop.proofs.ThreadSteps.{none_threaded, all_threaded}

none : {X : Type 0} {x : X} → None ≡ Some x → ⊥
none is = cc

pub made_ready : (variables count : ℕ) (t : Table) → t.rows.items ≡ [] → t.links.heads.items ≡ replicate count no_node → t.links.nodes.items ≡ [] → t.noted.notes.items ≡ [] → t.noted.flags.items ≡ [] → count ≡ 2 * variables + 2 →
    IsReady variables [] [] [] t
made_ready variables count t rows heads nodes notes flags many = record {
  table = record {
    sized = record {
      nodes = let a = ap length nodes in let b = ap length rows in omega (arith, a, b);
      flags = let a = ap length flags in let b = ap length rows in omega (arith, a, b);
    };
    threaded = subst (λ hs. AreThreaded hs t.links.nodes.items) (sym heads) (subst (λ ns. AreThreaded (replicate count no_node) ns) (sym nodes)
        (all_threaded (replicate count no_node) [] 0 refl (none_threaded count [] (omega (arith, many)) (omega arith))));
    rows = λ n name a b named own other. absurd (none (sym (ap (λ (ns : List Node). slice_get (lits_of ns) n) nodes) ∙ own));
    flagged = λ row name named set_now. absurd (none (sym (ap (λ fs. slice_get fs row) flags) ∙ set_now));
    sound = subst (λ ns. AreNotesOf [] [] ns) (sym notes) tt;
  };
  covered = tt;
  apart = λ i j name one two. absurd (none (sym (ap (λ (rs : List Row). slice_get (row_names rs) i) rows) ∙ one));
  wide = let e = ap length heads in omega (arith, e, length-replicate count no_node, many);
  room = let a = ap (λ ns. load_of ns t.noted.flags.items) notes in let b = ap (λ fs. load_of [] fs) flags in omega (arith, a, b);
}
