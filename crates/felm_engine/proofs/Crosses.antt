-- That an engine may cross threads, from its parts.
use denote.Param.Send.{IsSend, param_send, plain_send, view_send}
use denote.Param.SendFields.{declared_send, variants_send}
use Rattle.std.proofs.Crossing.{crosses}
use Rattle.std.specs.contracts.option.Option as Option
use Rattle.felm_term.specs.contracts.event.Event as Event
use Rattle.felm_term.specs.contracts.message.Message as Message
use Rattle.felm_term.specs.contracts.value.Value as Value
use Rattle.felm_meaning.specs.contracts.plan.Plan as Plan
use Rattle.felm_edges.specs.contracts.edges.Edges as Edges
use Rattle.felm_engine.specs.contracts.answers.Stop as Stop
use Rattle.felm_engine.specs.contracts.engine.Engine as Engine
use Rattle.felm_engine.specs.contracts.lists.Asyncs as Asyncs
use Rattle.felm_engine.specs.contracts.waiting.Waiting as Waiting

-- a struct or an enum may where its fields may
pub ruleset by_fields = (tt, view_send, declared_send, variants_send, plain_send, param_send, crosses)

stop_sent : IsSend (Option.the_row Stop.the_row)
stop_sent = search by_fields depth 60

asyncs_sent : IsSend Asyncs.the_row
asyncs_sent = search by_fields depth 60

message_sent : IsSend Value.the_row → IsSend Message.the_row
message_sent value = search by_fields depth 60

event_sent : IsSend Value.the_row → IsSend Event.the_row
event_sent value = search by_fields depth 60

-- by all its parts
whole : IsSend Value.the_row → IsSend Message.the_row → IsSend Event.the_row → IsSend Plan.the_row → IsSend Edges.the_row
    → IsSend Waiting.the_row → IsSend Asyncs.the_row → IsSend Engine.the_row
whole value message event plan edges waiting asyncs = search (by_fields, stop_sent) depth 60 fits 20000

pub engine_sent : IsSend Value.the_row → IsSend Plan.the_row → IsSend Edges.the_row → IsSend Waiting.the_row → IsSend Engine.the_row
engine_sent value plan edges waiting = whole value (message_sent value) (event_sent value) plan edges waiting asyncs_sent
