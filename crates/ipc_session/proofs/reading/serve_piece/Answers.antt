use Rattle.std.proofs.Common.{◌≡◌, arith}
use Rattle.ipc_session.proofs.ReadLemmas.{begin, failed, over, step, stop, used_up}
use Rattle.ipc_session.proofs.TakeLemmas.{took_fault, took_none, took_one}
use Rattle.ipc_session.proofs.reading.serve_piece.Goals as goal

pub frames-init : goal.frames-init
frames-init g c = λ left holds.
    let turns = c.saturating_add-turns.ensures in
    begin _ _ left c.args.piece.now _ _ holds (omega (arith, turns))

pub returns-in-Err : goal.returns-in-Err
returns-in-Err g c = λ left input holds.
    let p = c.frames.invariant left holds in
    failed _ _ _ _ _ _ _ _ _ _ _ input _ c.requires p (took_fault p.held _ _ _ (c.in-Err.ensures.taken p.held p.holds).1) c.serve.ensures

pub returns-in-Ok-default-None : goal.returns-in-Ok-default-None
returns-in-Ok-default-None g c = λ left input holds.
    let p = c.frames.invariant left holds in
    stop _ _ _ _ _ _ _ _ _ input p (took_none p.held _ _ _ _ c.in-Ok-default-None.field-0-1-is (c.in-Ok-default-None.ensures.taken p.held p.holds).1)

pub returns-in-Over : goal.returns-in-Over
returns-in-Over g c = λ left input holds.
    let p = c.frames.invariant left holds in
    over _ _ _ _ _ _ _ _ c.take_in.new.self _ _ _ _ input _ c.requires p (took_one p.held _ _ _ _ _ c.in-Ok-default-Some.field-0-1-is (c.in-Ok-default-Some.ensures.taken p.held p.holds).1) c.in-Over.ensures

pub frames-preserved : goal.frames-preserved
frames-preserved g c = λ left holds.
    let p = c.frames.invariant left holds in
    let one = took_one p.held _ _ _ _ _ c.in-Ok-default-Some.field-0-1-is (c.in-Ok-default-Some.ensures.taken p.held p.holds).1 in
    let some = c.frames-test.true in
    let within = one.within in
    let least = c.min.ensures in
    let same : c.min.result ≡ c.in-Ok-default-Some.used = omega (arith, within, least) in
    rw (c.min-turns.ensures, c.split_at.ensures.back, same) (step _ _ _ _ _ _ _ _ _ _ _ _ _ p some one c.in-On.ensures)

pub returns : goal.returns
returns g c = λ left input holds.
    used_up _ _ _ _ _ _ _ _ input (c.frames.invariant left holds) (let done = c.frames-test.false in omega (arith, done))
