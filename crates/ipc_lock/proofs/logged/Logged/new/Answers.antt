use Rattle.ipc_lock.proofs.Together.{tells_first}
use Rattle.ipc_lock.proofs.Turning.{first_parts}
use Rattle.ipc_lock.proofs.logged.Logged.new.Goals as goal

pub returns-clause-inside : goal.returns-clause-inside
returns-clause-inside g c =
    first_parts _ _ _ c.in_ok-inside.ensures.kernel c.in_ok-inside.ensures.upkeep c.in_ok-inside.ensures.boxes c.in_ok-inside.ensures.owners c.new-2.ensures

pub invariant_of-result : goal.invariant_of-result
invariant_of-result g c = tells_first _ _ _ _ _ _ _ c.requires.nothing c.requires.none (returns-clause-inside g c)
