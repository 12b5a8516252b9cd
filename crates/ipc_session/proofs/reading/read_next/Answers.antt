use Rattle.std.proofs.Common.{◌≡◌, ℕ, List, ◌+◌, ◌++◌, length, Option, Some, None, Result, Ok, refl, sym, subst, arith}
use Rattle.ipc_base.proofs.Giving.{gives_then}
use Rattle.ipc_base.specs.Ports.{Gives, Input, input_of}
use Rattle.ipc_connection.specs.ReadOn.{Fails, TakesMore, TakesOn}
use Rattle.ipc_base.specs.declared.fault.PortFault.{PortFault}
use Rattle.ipc_connection.specs.Taking.{Decoding, Holds}
use Rattle.ipc_connection.specs.declared.stage.Stage.{Stage}
use Rattle.ipc_session.proofs.ReadLemmas.{begin, leaves_piece, on_not_over, over_is, over_not_on, stop}
use Rattle.ipc_session.proofs.TakeLemmas.{took_none}
use Rattle.ipc_session.specs.Reading.{HasRead, Log, ServesPiece, reader_of}
use Rattle.ipc_session.specs.declared.turned.Turned.TheVariants.{On}
use Rattle.ipc_session.proofs.reading.read_next.Goals as goal

-- so many bytes were read
took_more : (input left_input : Input) (old new : Decoding) (read : Result ℕ PortFault) (count : ℕ) → read ≡ Ok count → TakesOn input left_input old new (Some read) → TakesMore input left_input old new count
took_more input left_input old new read count is taken = subst (λ (r : Result ℕ PortFault). TakesOn input left_input old new (Some r)) is taken

not_failed : (input left_input : Input) (before after : ℕ) (read : Result ℕ PortFault) (count : ℕ) → read ≡ Ok count → Fails input left_input before after (Some read) → after ≡ before
not_failed input left_input before after read count is fails = subst (λ (r : Result ℕ PortFault). Fails input left_input before after (Some r)) is fails

-- what was read straight into memory brings no frame
serves_nothing : (log : Log) (stage : Stage) (input left_input : Input) (old new : Decoding) (count : ℕ) (left : List ℕ) → (more : TakesMore input left_input old new count) → Holds old left → ServesPiece log log stage (left ++ more.more) left_input.left new (On stage)
serves_nothing log stage input left_input old new count left more holds =
    let turns = length more.more + 1 in
    let progress = begin log stage left more.more old turns holds (omega arith) in
    stop log log stage stage (left ++ more.more) old new more.more turns left_input.left progress
    (took_none progress.held more.more new count None refl (more.takes progress.held progress.holds))

pub returns-in-Some-Ok-eq0 : goal.returns-in-Some-Ok-eq0
returns-in-Some-Ok-eq0 g c = λ start first bytes left gave holds served.
    let more = took_more (input_of (g.P.PortRead.came c.args.port.now) (g.P.PortRead.remaining c.args.port.now)) (input_of (g.P.PortRead.came c.read_on.new.port) (g.P.PortRead.remaining c.read_on.new.port)) c.args.decoder.now c.read_on.new.self c.in-Some-Ok-eq0.field-0 c.in-Some-Ok-eq0.field-0-0 c.in-Some-Ok-eq0.field-0-is c.in-Some-Ok-eq0.ensures.taken in
    let piece = serves_nothing (g.K.KernelPort.log c.args.kernel_port.now) c.args.stage _ (input_of (g.P.PortRead.came c.read_on.new.port) (g.P.PortRead.remaining c.read_on.new.port)) c.args.decoder.now c.read_on.new.self _ left more holds in
    let all = leaves_piece _ _ _ _ bytes left _ (g.P.PortRead.remaining c.read_on.new.port) c.read_on.new.self (On c.args.stage) served piece in
    let at_end = more.at_end c.in-Some-Ok-eq0.field-0-0-test in record {
      bytes = bytes ++ more.more;
      gave = gives_then _ _ _ bytes _ gave more.gave;
      leaves = c.end_input.ensures.calls _ (bytes ++ more.more) all.0 _ all.2 all.1 at_end;
      device = λ is. absurd (c.end_input.ensures.only (over_is _ _ is));
      kept = λ stage is. absurd (over_not_on _ stage is);
      ended = λ is. at_end;
      not_stopped = λ is. absurd (c.end_input.ensures.never (over_is _ _ is));
    }

pub returns-in-Some-Ok : goal.returns-in-Some-Ok
returns-in-Some-Ok g c = λ start first bytes left gave holds served.
    let more = took_more (input_of (g.P.PortRead.came c.args.port.now) (g.P.PortRead.remaining c.args.port.now)) (input_of (g.P.PortRead.came c.read_on.new.port) (g.P.PortRead.remaining c.read_on.new.port)) c.args.decoder.now c.read_on.new.self c.in-Some-Ok.field-0 c.in-Some-Ok.field-0-0 c.in-Some-Ok.field-0-is c.in-Some-Ok.ensures.taken in
    let piece = serves_nothing (g.K.KernelPort.log c.args.kernel_port.now) c.args.stage _ (input_of (g.P.PortRead.came c.read_on.new.port) (g.P.PortRead.remaining c.read_on.new.port)) c.args.decoder.now c.read_on.new.self _ left more holds in record {
      bytes = bytes ++ more.more;
      gave = gives_then _ _ _ bytes _ gave more.gave;
      leaves = leaves_piece _ _ _ _ bytes left _ (g.P.PortRead.remaining c.read_on.new.port) c.read_on.new.self (On c.args.stage) served piece;
      device = λ is. absurd (on_not_over c.args.stage _ is);
      kept = λ stage is. not_failed (input_of (g.P.PortRead.came c.args.port.now) (g.P.PortRead.remaining c.args.port.now)) (input_of (g.P.PortRead.came c.read_on.new.port) (g.P.PortRead.remaining c.read_on.new.port)) (g.P.PortRead.failures c.args.port.now) (g.P.PortRead.failures c.read_on.new.port) c.in-Some-Ok.field-0 c.in-Some-Ok.field-0-0 c.in-Some-Ok.field-0-is c.in-Some-Ok.ensures.fails;
      ended = λ is. absurd (on_not_over c.args.stage _ is);
      not_stopped = λ is. absurd (on_not_over c.args.stage _ is);
    }

pub returns-in-None : goal.returns-in-None
returns-in-None g c = λ start first bytes left gave holds served.
    let same = c.in-None.ensures.taken in
    let fails = c.in-None.ensures.fails in
    let gave_so = subst (λ (i : Input). Gives start i bytes) (sym fails.0) gave in
    let holds_so = subst (λ (d : Decoding). Holds d left) (sym same) holds in
    let reader = reader_of (g.P.PortRead.came c.read_piece.new.port) (g.P.PortRead.remaining c.read_piece.new.port) (g.K.KernelPort.log c.read_piece.new.kernel_port) c.read_piece.new.decoder (g.P.PortRead.failures c.read_piece.new.port) in
    subst (λ (failures : ℕ). HasRead start first failures reader c.read_piece.result.0) fails.1
    (c.read_piece.ensures start first bytes left gave_so holds_so served)
