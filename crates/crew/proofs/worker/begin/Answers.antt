use denote.Param.Send.{sendable}
use Rattle.std.proofs.Crossing.{crosses}
use Rattle.crossbeam_utils.proofs.cache_padded.CachePadded.TheSendSync as Padded
use Rattle.lit_base.proofs.formula.Formula.TheSendSync as Formula
use Rattle.solo_core.proofs.sheet.Settings.TheSendSync as Settings
use Rattle.era_board.proofs.board.Board.TheSendSync as Board
use Rattle.crew.proofs.Sent.{post_send, party_send}
use Rattle.crew.proofs.worker.begin.Goals as goal

-- the work may go to another thread
pub spawn_with-requires-send-F : goal.spawn_with-requires-send-F
spawn_with-requires-send-F g c κs within =
    let sync_r = c.type_bounds.sync-R in
    let sync_g = c.type_bounds.sync-G in
    search (crosses, sendable, party_send, post_send, Board.the_sync, Formula.the_sync, Settings.the_sync, Padded.the_send) depth 60 fits 8000

-- and how it ends may come back
pub spawn_with-requires-send-T : goal.spawn_with-requires-send-T
spawn_with-requires-send-T g c κs within = search (crosses, sendable, party_send) depth 30
