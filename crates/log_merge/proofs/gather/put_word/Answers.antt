use Rattle.std.proofs.Common.{◌++◌}
use Rattle.std.specs.Prelude.{decimal}
use Rattle.log_merge.proofs.Gathered.{Gathers-stopped, Gathers-refused}
use Rattle.log_merge.proofs.gather.put_word.Goals as goal

pub returns-in_err-make_room : goal.returns-in_err-make_room
returns-in_err-make_room g c = Gathers-stopped (c.args.mark.now ++ decimal c.args.number) _ c.from_residual.result c.from_residual.ensures.1 c.in_err-make_room.ensures

pub returns-in_err-push_word : goal.returns-in_err-push_word
returns-in_err-push_word g c = Gathers-refused (c.args.mark.now ++ decimal c.args.number) _ c.from_residual-in_err-push_word.result c.from_residual-in_err-push_word.ensures.1 c.in_ok-make_room.ensures
