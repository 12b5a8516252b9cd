use Rattle.std.proofs.Common.{List, ℕ, ap, length, min, take, ◌∙◌, arith}
use Rattle.std.proofs.lemmas.List.{with_items_is}
use Rattle.ipc_exchange.specs.Service.{connection_at}
use Rattle.ipc_exchange.specs.Rooms.{service_of}
use Rattle.ipc_exchange.proofs.RunningLemmas.{connected_replied, copy_replied, finish_replied, output_replied, piece_replied, reading_replied, refused_replied}
use Rattle.ipc_exchange.proofs.exchange.Exchange.happen.Goals as goal

pub returns-in-Ok : goal.returns-in-Ok
returns-in-Ok c = connected_replied c.args.self.now c.connect.new.self c.args.event _ _ c.in-Connect.is c.in-Ok.ensures.happened c.in-Ok.ensures.ok

pub returns-in-Err : goal.returns-in-Err
returns-in-Err c = refused_replied c.args.self.now c.connect.new.self c.args.event _ _ c.in-Connect.is c.in-Err.ensures.err c.in-Err.ensures.cause

pub returns-in-Piece : goal.returns-in-Piece
returns-in-Piece c = piece_replied c.args.self.now c.feed.new.self c.args.event _ _ _ _ c.in-Piece.is c.deref.ensures.value c.feed.ensures.happened c.feed.ensures.progress c.feed.ensures.zero c.feed.ensures.none

pub returns-in-Finish : goal.returns-in-Finish
returns-in-Finish c = finish_replied c.args.self.now c.end.new.self c.args.event _ c.in-Finish.is c.end.ensures.happened c.end.ensures.zero

pub returns-in-Reading : goal.returns-in-Reading
returns-in-Reading c = reading_replied c.args.self.now c.at.new.self c.args.event _ c.in-Reading.is c.at.ensures

pub returns-in-Copy : goal.returns-in-Copy
returns-in-Copy c = copy_replied c.args.self.now c.advance.new.self c.args.event c.in-Copy.is c.advance.ensures

pub returns-in-Output : goal.returns-in-Output
returns-in-Output c =
    let same = ap length c.deref_mut.ensures.value in
    let whole = with_items_is c.in-Output.bytes c.output-count.new.out (omega (arith, c.output-count.auto.out, same, c.in-Output.bytes.ok)) in
    output_replied c.args.self.now c.output-count.new.self c.args.event _ c.output-count.result c.in-Output.bytes c.truncate.new.self c.output-count.new.out c.in-Output.is
    (c.truncate.ensures.items ∙ ap (take c.output-count.result) whole)
    (λ place at. c.output-count.ensures.count place at ∙ ap (λ (l : List ℕ). min (length l) (length (connection_at (service_of c.args.self.now.service).connections place).out)) c.deref_mut.ensures.value)
    c.output-count.ensures.bytes c.output-count.ensures.left c.output-count.ensures.zero c.output-count.ensures.none
