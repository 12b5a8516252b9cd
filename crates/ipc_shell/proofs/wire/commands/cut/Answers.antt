use Rattle.std.proofs.Common.{◌≡◌, Some, None, rules, tests}
use Rattle.std.specs.Prelude.{◌==◌}
use Rattle.std.proofs.lemmas.Iterator.{YieldsList-from_slice}
use Rattle.std.proofs.lemmas.Iterator.Search.{position_from_yields_List}
use Rattle.ipc_lines.proofs.Cuts.{place_of, cut_at}
use Rattle.ipc_shell.proofs.wire.commands.cut.Goals as goal

pub returns-in_err-place-clause-only : goal.returns-in_err-place-clause-only
returns-in_err-place-clause-only c front back none e =
    let r = position_from_yields_List (λ other. other == 32) _ _ _ c.position.ensures.ran (YieldsList-from_slice c.args.bytes.now c.iter.ensures.rest) (λ x b q k. search (rules, tests)) in
    let at = place_of c.args.bytes.now front back 32 c.position.result none e r in
    let was : c.position.result ≡ None = c.in_err-place.was in
    absurd (cc (at, was))

pub returns-clause-only : goal.returns-clause-only
returns-clause-only c front back none e =
    let r = position_from_yields_List (λ other. other == 32) _ _ _ c.position.ensures.ran (YieldsList-from_slice c.args.bytes.now c.iter.ensures.rest) (λ x b q k. search (rules, tests)) in
    let at = place_of c.args.bytes.now front back 32 c.position.result none e r in
    let was : c.position.result ≡ Some c.in_ok-place.place = c.in_ok-place.was in
    cut_at c.args.bytes.now front back 32 c.in_ok-place.place (cc (at, was)) e
