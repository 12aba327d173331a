use Rattle.log_merge.proofs.Gathered.{Gathers-stopped, Gathers-refused}
use Rattle.log_merge.proofs.gather.put_mark.Goals as goal

pub returns-in_err-make_room : goal.returns-in_err-make_room
returns-in_err-make_room g c = Gathers-stopped c.args.mark.now _ c.from_residual.result c.from_residual.ensures.1 c.in_err-make_room.ensures

pub returns-in_err-push_mark : goal.returns-in_err-push_mark
returns-in_err-push_mark g c = Gathers-refused c.args.mark.now _ c.from_residual-in_err-push_mark.result c.from_residual-in_err-push_mark.ensures.1 c.in_ok-make_room.ensures
