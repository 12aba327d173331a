use Rattle.std.proofs.Common.{◌≡◌, ℕ, suc, ◌+◌, ◌-◌, ◌<◌, List, ◌++◌, ap, ◌∙◌, append_assoc, arith}
use Rattle.std.specs.Prelude.{flat_map}
use Rattle.std.specs.List.{range_with_len}
use Rattle.answer_text.specs.Trace.{core_line_of}
use Rattle.answer_text.proofs.trace.push_cores.Goals as goal

-- the loop over the numbers below n: one more text
range_step : (f : ℕ → List ℕ) (i n : ℕ) (text after : List ℕ) → i < n → after ≡ text ++ f i →
    after ++ flat_map f (range_with_len (i + 1) (n - (i + 1))) ≡ text ++ flat_map f (range_with_len i (n - i))
range_step f i n text after below added =
    let left : suc (n - (i + 1)) ≡ n - i = omega arith in
    ap (λ t. t ++ flat_map f (range_with_len (i + 1) (n - (i + 1)))) added
    ∙ (append_assoc text (f i) (flat_map f (range_with_len (i + 1) (n - (i + 1))))
    ∙ ap (λ k. text ++ flat_map f (range_with_len i k)) left)

-- one more line is added
pub loop-core-preserved : goal.loop-core-preserved
loop-core-preserved c =
    range_step (core_line_of c.args.settings.now) c.loop-core.core c.args.settings.now.cores c.loop-core.buffer.items c.push_core_of.new.buffer.items (omega arith) c.in_ok-push_core_of.ensures
    ∙ c.loop-core.invariant
