use Rattle.solo_core.proofs.PostedLemmas.{stretch_posts}
use Rattle.solo_core.proofs.laws.periods.law_posts_may_be_imported.Goals as goal

pub returns : goal.returns
returns c = stretch_posts
