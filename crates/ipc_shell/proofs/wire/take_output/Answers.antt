use Rattle.std.proofs.Common.{◌≡◌, ◌<◌, ◌++◌, length, take, subst, sym, arith}
use Rattle.std.proofs.lemmas.Grind.{common_steps}
use Rattle.ipc_exchange.specs.Service.{without_bytes}
use Rattle.ipc_shell.proofs.WireLemmas.{TakenOut, taken_all, taken_more}
use Rattle.ipc_shell.proofs.wire.take_output.Goals as goal

pub returns-then-count-eq0 : goal.returns-then-count-eq0
returns-then-count-eq0 c = λ place parts is within shows.
    let taken = c.loop-turn.invariant place parts is within shows in
    let some : 0 < length c.loop-turn.piece = omega (arith, c.requires.room, c.loop-turn.auto.piece) in
    let none : c.in_ok-count.count ≡ 0 = omega (arith, c.if-count-eq0.true) in
    taken_all parts place (length c.loop-turn.piece) c.in_ok-count.count c.loop-turn.bytes.items c.put_out.new.piece c.loop-turn.exchange c.put_out.new.exchange
    within some none taken (c.in_ok-count.ensures.puts place (record parts { service = without_bytes place taken.count parts.service }) is taken.shows)

pub loop-turn-preserved : goal.loop-turn-preserved
loop-turn-preserved c = λ place parts is within shows.
    let taken = c.loop-turn.invariant place parts is within shows in
    let piece = take c.in_ok-count.count c.put_out.new.piece in
    let items : c.extend_from_slice.new.self.items ≡ c.loop-turn.bytes.items ++ piece = grind (arith, common_steps) in
    subst (λ bytes. TakenOut parts place bytes c.put_out.new.exchange) (sym items)
    (taken_more parts place (length c.loop-turn.piece) c.in_ok-count.count c.loop-turn.bytes.items c.put_out.new.piece c.loop-turn.exchange c.put_out.new.exchange
    within taken (c.in_ok-count.ensures.puts place (record parts { service = without_bytes place taken.count parts.service }) is taken.shows))
