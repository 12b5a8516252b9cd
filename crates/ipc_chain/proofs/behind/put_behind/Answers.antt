use Rattle.std.proofs.Common.{[], ◌∷◌}
use Rattle.ipc_chain.proofs.Walking.{chain_longer}
use Rattle.ipc_chain.proofs.behind.put_behind.Goals as goal

pub returns : goal.returns
returns g c = λ done.
    let begun = c.in_ok-put-in-None.ensures.done done in
    let on = c.in_ok-verdict.ensures.on c.in-None.is (begun.part ∷ []) in
    record { part = begun.part; put = begun.put; chain = on.1 (chain_longer c.walk_files.new.chain begun.part begun.taken c.legal.ensures begun.empty begun.begins) }
