-- A core may go to another thread, alone and as a party of a board.
use denote.Param.Send.{IsSend, recorded_send, struct_send, sendable}
use denote.Struct.Declared.{shape}
use Rattle.std.proofs.Crossing.{crosses}
use Rattle.clause_pool.specs.contracts.pool.Pool as Pool
use Rattle.trail_book.specs.contracts.trail.Trail as Trail
use Rattle.round_prop.specs.contracts.rounds.Rounds as Rounds
use Rattle.first_uip.specs.contracts.analysis.Analyser as Analyser
use Rattle.var_order.specs.contracts.order.Order as Order
use Rattle.tempo.specs.contracts.tempo.Tempo as Tempo
use Rattle.core_rows.specs.contracts.row.Row as Row
use Rattle.solo_core.specs.contracts.lemma.Lemma as Lemma
use Rattle.solo_core.specs.contracts.search.Search as Search
use Rattle.solo_core.specs.contracts.solo.Core as Core
use Rattle.solo_core.proofs.sheet.Mail.TheSendSync as Mail
use Rattle.era_board.proofs.pass.Seated.TheSendSync as Seated
use Rattle.crew.specs.contracts.searcher.Searcher as Searcher
use Rattle.solo_core.specs.contracts.sheet.Mail as MailRow
use Rattle.crew.proofs.post.Post.TheSendSync as PostCrossing
use Rattle.crew.specs.contracts.post.Post as Post
use Rattle.crew.specs.contracts.party.Party as Party

pub tempo_send : IsSend Tempo.the_row
tempo_send = search (crosses, sendable) depth 30

pub row_send : IsSend Row.the_row
row_send = search (crosses, sendable) depth 30

pub trail_send : IsSend Trail.the_row
trail_send = search (crosses, sendable) depth 30

pub order_send : IsSend Order.the_row
order_send = search (crosses, sendable) depth 30

pub analyser_send : IsSend Analyser.the_row
analyser_send = search (crosses, sendable) depth 30

pub pool_send : IsSend Pool.the_row
pool_send = search (crosses, sendable) depth 30

pub rounds_send : IsSend Rounds.the_row
rounds_send = search (crosses, sendable) depth 30

pub lemma_send : IsSend Lemma.the_row
lemma_send = search (crosses, sendable) depth 30

pub search_send : IsSend Search.the_row
search_send = search (tempo_send, row_send, trail_send, order_send, analyser_send, pool_send, rounds_send, lemma_send, crosses, sendable) depth 60 fits 8000

pub core_send : IsSend Core.the_row
core_send = search (crosses, sendable, search_send) depth 30

pub searcher_send : IsSend Searcher.the_row
searcher_send = search (crosses, sendable, core_send) depth 30

-- what it posts
pub mail_send : IsSend MailRow.the_row
mail_send = Mail.the_send

pub post_send : IsSend Post.the_row
post_send = PostCrossing.the_send

-- a core with its pass and its mails, field by field
pub party_send : IsSend Party.the_row
party_send = recorded_send (Party.the_field).row _ _ (Party.the_type).to_one (struct_send (shape Party.the_type) (
  search (crosses, sendable, core_send) depth 40,
  (
    search (crosses, sendable, Seated.the_field_send, post_send) depth 40,
    (search (crosses, sendable, mail_send) depth 40, (search (crosses, sendable, mail_send) depth 40, (search sendable, tt))),
  ),
))
