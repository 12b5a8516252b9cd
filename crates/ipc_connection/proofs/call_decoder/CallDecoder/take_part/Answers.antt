use Rattle.std.proofs.Common.{true, false, Ok, ◌∙◌, ap, refl}
use Rattle.ipc_connection.proofs.FillLemmas.{some_gone}
use Rattle.ipc_connection.proofs.TakeLemmas.{new_unfinished, filled, is_true, is_false, fills_flag, takes_none, takes_bad, takes_heard, takes_fault, taken_behind}
use Rattle.ipc_connection.proofs.call_decoder.CallDecoder.take_part.Goals as goal

pub hear-requires : goal.hear-requires
hear-requires g c =
    let held = c.self.inside.held in
    let flag = is_true c.in-Ok.found.1 c.if-not-found.false in
    let f = filled _ c.args.piece.now c.fill.new.held c.in-Ok.found.0 (fills_flag _ c.args.piece.now c.fill.new.held c.in-Ok.found.0 c.in-Ok.found.1 true flag (c.in-Ok.ensures.fills _ (some_gone held))) in
    (f.gone, f.frame, f.are_gone, f.whole)

pub returns-in-Err-clause-taken : goal.returns-in-Err-clause-taken
returns-in-Err-clause-taken g c =
    taken_behind c.self.inside.held c.self.inside.spent c.args.self.now _ c.args.piece.now _ c.self.view_is (c.self.invariant c.if-self.false) (λ gone are. takes_bad _ c.args.piece.now c.fill.new.held _ c.in-Err.fault refl (c.in-Err.ensures.fills gone are))

pub invariant_of-self-then-not-found : goal.invariant_of-self-then-not-found
invariant_of-self-then-not-found g c = λ unspent.
    let flag = is_false c.in-Ok.found.1 c.if-not-found.true in
    c.fill.ensures.rest c.in-Ok.found.0 (c.in-Ok.is ∙ ap (λ b. Ok (c.in-Ok.found.0, b)) flag)

pub returns-then-not-found-clause-taken : goal.returns-then-not-found-clause-taken
returns-then-not-found-clause-taken g c =
    let flag = is_false c.in-Ok.found.1 c.if-not-found.true in
    taken_behind c.self.inside.held c.self.inside.spent c.args.self.now _ c.args.piece.now _ c.self.view_is (c.self.invariant c.if-self.false) (λ gone are. takes_none _ c.args.piece.now c.fill.new.held _ c.in-Ok.found.0 (rw c.if-self.false refl) (fills_flag _ c.args.piece.now c.fill.new.held c.in-Ok.found.0 c.in-Ok.found.1 false flag (c.in-Ok.ensures.fills gone are)))

pub invariant_of-self-in-Ok-hear : goal.invariant_of-self-in-Ok-hear
invariant_of-self-in-Ok-hear g c = λ unspent gone are. new_unfinished c.clear.new.self c.clear.ensures gone are

pub returns-in-Ok-hear-clause-taken : goal.returns-in-Ok-hear-clause-taken
returns-in-Ok-hear-clause-taken g c =
    let flag = is_true c.in-Ok.found.1 c.if-not-found.false in
    taken_behind c.self.inside.held c.self.inside.spent c.args.self.now _ c.args.piece.now _ c.self.view_is (c.self.invariant c.if-self.false) (λ gone are. takes_heard _ c.args.piece.now c.fill.new.held _ c.in-Ok.found.0 c.in-Ok-hear.heard (rw (c.clear.ensures, c.if-self.false) refl) (fills_flag _ c.args.piece.now c.fill.new.held c.in-Ok.found.0 c.in-Ok.found.1 true flag (c.in-Ok.ensures.fills gone are)) c.in-Ok-hear.ensures)

pub returns-in-Err-hear-clause-taken : goal.returns-in-Err-hear-clause-taken
returns-in-Err-hear-clause-taken g c =
    let flag = is_true c.in-Ok.found.1 c.if-not-found.false in
    taken_behind c.self.inside.held c.self.inside.spent c.args.self.now _ c.args.piece.now _ c.self.view_is (c.self.invariant c.if-self.false) (λ gone are. takes_fault _ c.args.piece.now c.fill.new.held _ c.in-Ok.found.0 c.in-Err-hear.fault refl (fills_flag _ c.args.piece.now c.fill.new.held c.in-Ok.found.0 c.in-Ok.found.1 true flag (c.in-Ok.ensures.fills gone are)) c.in-Err-hear.ensures)
