use Rattle.std.proofs.Common.{◌++◌, ◌<◌, length, refl, rules}
use Rattle.ipc_base.proofs.Giving.{gives_kept, gives_no_more, gives_then}
use Rattle.ipc_session.proofs.ReadLemmas.{device_not_end, device_not_stopped, leaves_piece, not_at_end, not_by_piece, not_device, not_stopped, over_is, over_not_on}
use Rattle.ipc_session.proofs.reading.read_turn.Goals as goal

pub returns-in-Err : goal.returns-in-Err
returns-in-Err g c = λ start first bytes left gave holds served. record {
  bytes = bytes;
  gave = gives_kept _ _ _ bytes gave (c.in-Err.ensures.came, c.in-Err.ensures.bytes);
  leaves = (left, c.args.stage, served);
  device = λ is. c.in-Err.ensures.failed;
  kept = λ stage is. absurd (over_not_on _ stage is);
  ended = λ is. absurd (device_not_end is);
  not_stopped = λ is. absurd (device_not_stopped is);
}

pub returns-then-count-eq0 : goal.returns-then-count-eq0
returns-then-count-eq0 g c = λ start first bytes left gave holds served.
    let read = c.in-Ok.ensures.bytes in
    let some = c.requires.some in
    let long : 0 < length c.read.new.buf = search rules in
    let at_end = read.1 c.if-count-eq0.true long in record {
      bytes = bytes;
      gave = gives_no_more _ _ _ bytes _ _ gave (record { came = c.in-Ok.ensures.came; consumed = read.0 }) c.if-count-eq0.true;
      leaves = c.end_input-ending.ensures.calls _ bytes left _ holds served at_end;
      device = λ is. absurd (c.end_input-ending.ensures.only (over_is _ _ is));
      kept = λ stage is. absurd (over_not_on _ stage is);
      ended = λ is. at_end;
      not_stopped = λ is. absurd (c.end_input-ending.ensures.never (over_is _ _ is));
    }

pub returns : goal.returns
returns g c = λ start first bytes left gave holds served.
    let piece = c.serve_piece-turned.ensures left (g.P.PortRead.remaining c.read.new.self) holds in record {
      bytes = bytes ++ _;
      gave = gives_then _ _ _ bytes _ gave (record { came = c.in-Ok.ensures.came; consumed = c.in-Ok.ensures.bytes.0 });
      leaves = leaves_piece _ _ _ _ bytes left _ _ _ _ served piece;
      device = λ is. absurd (not_device _ _ _ _ _ _ (not_by_piece _ _ _ _ _ _ _ _ piece is) refl);
      kept = λ stage is. c.in-Ok.ensures.kept;
      ended = λ is. absurd (not_at_end _ _ _ _ _ _ (not_by_piece _ _ _ _ _ _ _ _ piece is) refl);
      not_stopped = λ is. absurd (not_stopped _ _ _ _ _ _ (not_by_piece _ _ _ _ _ _ _ _ piece is) refl);
    }
