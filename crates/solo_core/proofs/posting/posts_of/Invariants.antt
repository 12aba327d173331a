use Rattle.std.proofs.Common.{◌≡◌, take}
use Rattle.solo_core.specs.Posts.{posts_of}
use Rattle.solo_core.proofs.posting.posts_of.Given as goal

-- the lemmas so far are looked at
abbrev pub invariant-loop-lemma : goal.invariant-loop-lemma
invariant-loop-lemma l = l.posts ≡ posts_of l.share (take l.lemma-index l.lemmas)
