use Rattle.std.proofs.Common.{◌≡◌, [], ◌∷◌, Some}
use Rattle.ipc_chain.specs.declared.behind.Put.{Put}
use Rattle.ipc_chain.specs.declared.behind.Put.TheVariants.{Done}
use Rattle.ipc_chain.proofs.Walking.{chain_longer}
use Rattle.ipc_chain.proofs.behind.put_behind_parts.Goals as goal

some_is : (put : Put) → Some put ≡ Some Done → put ≡ Done
some_is put is = cc

pub returns-in_ok-put-in-Whole : goal.returns-in_ok-put-in-Whole
returns-in_ok-put-in-Whole g c = λ done.
    let stands = rw c.in-Whole.is at c.in_ok-chain.ensures.whole in
    let begun = c.in_ok-put-in-Whole.ensures.done (some_is c.in_ok-put-in-Whole.put done) in
    record {
      part = begun.part;
      put = begun.put;
      chain = (stands.before, stands.goes (begun.part ∷ []) (chain_longer c.in-Whole.chain begun.part begun.taken c.legal.ensures begun.empty begun.begins));
    }
