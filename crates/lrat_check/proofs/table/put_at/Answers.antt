use Rattle.std.proofs.Common.{◌≡◌, ◌<◌, ◌≤◌, ◌-◌, ◌==◌, cond, ◌∙◌, ◌∷◌, ◌++◌, [], ap, sym, refl, length, take, replicate, arith, vec_len}
use Rattle.lrat_check.specs.declared.table.ShortSpan.{ShortSpan}
use Rattle.lrat_check.specs.Table.{long, part_at}
use Rattle.lrat_check.proofs.Spans.{part_is, part_set, part_put}
use Rattle.lrat_check.proofs.table.put_at.Goals as goal

-- the place is there
pub returns-then-place-len : goal.returns-then-place-len
returns-then-place-len c n =
    let spans = c.args.spans.now.items in
    let within : c.args.place < length spans = omega (arith, c.if-place-len.true, c.len.ensures, c.args.spans.now.ok) in
    part_set spans c.args.place c.args.short within n ∙ ap (λ o. cond (c.args.place == n) o (part_at spans n)) (part_is (long c.args.short) c.requires)

-- the array grows up to it
pub returns-in_ok-push : goal.returns-in_ok-push
returns-in_ok-push c n =
    let spans = c.args.spans.now.items in
    let hole : ShortSpan = record { from = 1; to = 0 } in
    let past : length spans ≤ c.args.place = omega (arith, c.if-place-len.false, c.len.ensures, c.args.spans.now.ok) in
    let size : vec_len c.args.spans.now ≡ length spans = omega (arith, c.args.spans.now.ok) in
    let items : c.push.new.self.items ≡ (take c.args.place spans ++ replicate (c.args.place - length spans) hole) ++ c.args.short ∷ [] =
    c.in_ok-push.ensures.items ∙ (ap (λ xs. xs ++ c.args.short ∷ []) c.in_ok-resize.ensures.items
    ∙ ap (λ k. (take c.args.place spans ++ replicate (c.args.place - k) hole) ++ c.args.short ∷ []) size)
    in ap (λ xs. part_at xs n) items
    ∙ (part_put spans c.args.place hole c.args.short refl past n ∙ ap (λ o. cond (c.args.place == n) o (part_at spans n)) (part_is (long c.args.short) c.requires))
