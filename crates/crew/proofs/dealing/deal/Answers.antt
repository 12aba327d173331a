use Rattle.std.proofs.Common.{◌≡◌, ◌∙◌, ◌++◌, ◌∷◌, ◌%◌, [], Vec, length, ap, sym, subst, arith}
use Rattle.std.proofs.lemmas.List.{length-set}
use Rattle.crossbeam_utils.specs.Padded.{padded_value, padded_with_value}
use Rattle.crew.specs.Groups.{AreDealt, lists_of}
use Rattle.crew.proofs.Groups.{deal_step}
use Rattle.crew.proofs.dealing.deal.Goals as goal

-- one item more is dealt
pub loop-item-preserved : goal.loop-item-preserved
loop-item-preserved g c =
    let l = c.loop-item in
    let d = c.index_mut.result.now in
    let count = c.args.count in
    let i = c.len-in-Some.result % count in
    let group = padded_with_value d c.push.new.self in
    record {
      count = length-set l.groups.items i group ∙ l.invariant.count;
      dealt = deal_step c.pop.new.self.items c.args.items.now.items c.in-Some.item l.groups.items c.len-in-Some.result count d group c.requires (sym l.invariant.count)
          (omega (arith, c.len-in-Some.ensures, c.pop.new.self.ok.0))
          (c.in_ok-push.ensures.items ∙ ap (λ (held : Vec _ _). held.items ++ c.in-Some.item ∷ []) (c.deref_mut.ensures.value ∙ ap padded_value c.index_mut.ensures.value))
          (subst (λ xs. (later : _) × (xs ++ later ≡ c.args.items.now.items) × AreDealt (length xs) later (lists_of l.groups.items)) c.in-Some.ensures.items l.invariant.dealt);
    }
