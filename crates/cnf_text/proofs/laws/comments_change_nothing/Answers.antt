use Rattle.cnf_text.proofs.Comments.{comment_means_nothing}
use Rattle.cnf_text.proofs.laws.comments_change_nothing.Goals as goal

pub returns : goal.returns
returns c = comment_means_nothing
