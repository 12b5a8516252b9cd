use Rattle.std.proofs.Common.{ap, ◌∙◌}
use Rattle.std.proofs.lemmas.List.{take_rest}
use Rattle.ipc_frame.specs.Numbers.{number_in}
use Rattle.ipc_connection.proofs.HearLemmas.{hears_hello, hears_exreg, hears_bye, hears_call, hears_fault}
use Rattle.ipc_connection.proofs.held.hear.Goals as goal

pub returns-then-kind-eq1 : goal.returns-then-kind-eq1
returns-then-kind-eq1 c = hears_hello c.args.start.now c.args.payload.items _ _ c.if-kind-eq1.true (c.read_u16.ensures ∙ ap (number_in 2) (take_rest c.args.start.now 5)) c.version_at.ensures

pub returns-then-kind-eq3 : goal.returns-then-kind-eq3
returns-then-kind-eq3 c =
    let start = c.args.start.now in
    hears_exreg start c.args.payload.items _ _ c.if-kind-eq3.true (c.from_word-target.ensures ∙ (c.read_u64.ensures ∙ ap (number_in 8) (take_rest start 5))) (c.from_word-control.ensures ∙ (c.read_u64-then-kind-eq3.ensures ∙ ap (number_in 8) (take_rest start 13)))

pub returns : goal.returns
returns c = hears_bye c.args.start.now c.args.payload.items c.if-kind-eq1.false c.if-kind-eq2.false c.if-kind-eq3.false

pub returns-in-Ok : goal.returns-in-Ok
returns-in-Ok c = hears_call c.args.start.now c.args.payload.items c.in-Ok.call c.if-kind-eq2.true c.in-Ok.ensures

pub returns-in-Err : goal.returns-in-Err
returns-in-Err c = hears_fault c.args.start.now c.args.payload.items c.in-Err.fault c.if-kind-eq2.true c.in-Err.ensures
