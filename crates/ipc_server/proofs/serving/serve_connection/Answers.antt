use Rattle.std.proofs.Common.{◌∙◌}
use Rattle.ipc_server.proofs.DoingLemmas.{asks_as, serves_as, serves_none}
use Rattle.ipc_server.proofs.serving.serve_connection.Goals as goal

pub check_in-port-requires-clause-asks : goal.check_in-port-requires-clause-asks
check_in-port-requires-clause-asks g c =
    asks_as _ _ _ c.serve_both_ways-posts.result.1.asked c.note_of-note.ensures c.serve_both_ways-posts.ensures.asks

pub check_in-port-requires-clause-did : goal.check_in-port-requires-clause-did
check_in-port-requires-clause-did g c = c.serve_both_ways-posts.ensures.did

pub returns-in-Ok : goal.returns-in-Ok
returns-in-Ok g c =
    serves_as _ _ _ _ _ _ _ c.serve_both_ways-posts.result.1.asked _ (c.serve_both_ways-posts.ensures.home.space ∙ c.in-Ok.ensures.space)
    c.note_of-note.ensures c.check_in-port.ensures

pub returns-in-Err : goal.returns-in-Err
returns-in-Err g c = serves_none _ _ _ _ _ c.turn_away.result.asked _ c.turn_away.ensures.came c.turn_away.ensures.asked
