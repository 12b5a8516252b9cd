use Rattle.std.proofs.Common.{append-nil, map, refl, subst, sym, []}
use Rattle.ipc_chain.specs.Chains.{IsChain, parts_of}
use Rattle.ipc_chain.proofs.verdict.check_chain.Goals as goal

pub returns-in-Some : goal.returns-in-Some
returns-in-Some c =
    let no = rw c.in-Some.is at c.in_ok-verdict.ensures.no in
    record { yes = (λ is. absurd (no.0 is), λ chain. absurd (no.1 [] (subst (IsChain c.args.entries.items) (sym (append-nil (map parts_of c.args.parts.items))) chain))) }

pub returns : goal.returns
returns c =
    let on = c.in_ok-verdict.ensures.on c.in-None.is [] in
    record { yes = (λ is. subst (IsChain c.args.entries.items) (append-nil (map parts_of c.args.parts.items)) (on.1 c.legal.ensures), λ chain. refl) }
