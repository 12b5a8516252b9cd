use Rattle.std.proofs.Common.{IsTrue, arith, subst, sym}
use Rattle.ipc_chain.specs.Judging.{IsFirstFile}
use Rattle.ipc_chain.proofs.witness.seek.Goals as goal
use Rattle.ipc_chain.proofs.witness.seek.Goals.{in-Entry+in_ok-step-in-Entry+else-not-branch, in-LetGo+in_ok-let_go-in-LetGo, in-Again}

pub turns-preserved : goal.turns-preserved
turns-preserved c = elim c.match-turn.branch [
  | in-Entry+in_ok-step-in-Entry+else-not-branch w ↦ (let follows : IsTrue w.in_ok-step-in-Entry.field-0 = grind (arith, w.if-not-branch.false) in subst IsFirstFile (sym w.chain-is) (w.in_ok-step-in-Entry.ensures.first follows))
  | in-LetGo+in_ok-let_go-in-LetGo w ↦ subst IsFirstFile (sym w.chain-is) w.in_ok-let_go-in-LetGo.ensures.first
  | in-Again w ↦ subst IsFirstFile (sym w.chain-is) c.turns.invariant
]
