use Rattle.std.proofs.Common.{arith}
use Rattle.ipc_exchange.proofs.OutputLemmas.{first_waits, mid_long, put_all, put_back, put_back_room, put_more, used_up}
use Rattle.ipc_exchange.proofs.connection.Connection.output.Goals as goal

pub returns-in_default-clause-count : goal.returns-in_default-clause-count
returns-in_default-clause-count c = put_all _ _ _ _ _ (omega (arith, c.loop-filled.self-inside.queue.ok, c.in_default.ensures.cases)) c.loop-filled.invariant.put

pub loop-filled-preserved-then-filled-out : goal.loop-filled-preserved-then-filled-out
loop-filled-preserved-then-filled-out c = record {
  put = put_more _ _ _ _ _ _ _ _ _ (first_waits _ _ _ _ _ _ _ c.in-Some.ensures.items c.loop-filled.invariant.put) c.next-filled.ensures.count c.next-filled.auto.out c.next-filled.ensures.bytes c.next-filled.ensures.behind (put_back _ _ _ c.in-Some.answer _ c.next-filled.result c.push_front.ensures.items (c.push_front.ensures.succeeds (omega (arith, c.loop-filled.self-inside.queue.ok, c.pop_front.ensures.capacity, c.in-Some.ensures.len))) c.next-filled.ensures.left);
  space = c.loop-filled.invariant.space;
  stage = c.loop-filled.invariant.stage;
  version = c.loop-filled.invariant.version;
  free = put_back_room _ _ _ _ _ _ _ c.loop-filled.invariant.free c.in-Some.ensures.len c.push_front.ensures.len (omega (arith, c.pop_front.ensures.capacity, c.push_front.ensures.capacity));
}

pub loop-filled-preserved : goal.loop-filled-preserved
loop-filled-preserved c = record {
  put = put_more _ _ _ _ _ _ _ _ _ (first_waits _ _ _ _ _ _ _ c.in-Some.ensures.items c.loop-filled.invariant.put) c.next-filled.ensures.count c.next-filled.auto.out c.next-filled.ensures.bytes c.next-filled.ensures.behind (used_up c.loop-filled.out c.in-Some.answer c.pop_front.new.self.items c.loop-filled.filled c.next-filled.result _ c.next-filled.ensures.count c.if-filled-out.false (mid_long _ _ _ c.loop-filled.invariant.put.within c.next-filled.auto.out) c.loop-filled.invariant.put.within);
  space = c.loop-filled.invariant.space;
  stage = c.loop-filled.invariant.stage;
  version = c.loop-filled.invariant.version;
  free = omega (arith, c.loop-filled.invariant.free, c.pop_front.ensures.capacity, c.in-Some.ensures.len);
}
