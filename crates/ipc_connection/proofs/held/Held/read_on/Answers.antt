use Rattle.std.proofs.Common.{◌≡◌, ◌<◌, ◌++◌, [], length, take, replicate, sym, ap, subst, ◌∙◌, arith, length-append}
use Rattle.std.proofs.lemmas.Bool.{eqb-false}
use Rattle.std.proofs.lemmas.List.{append-nil}
use Rattle.ipc_base.specs.Ports.{input_of}
use Rattle.ipc_frame.specs.declared.kind.Side.TheVariants.{Server}
use Rattle.ipc_frame.specs.Reading.{reading}
use Rattle.ipc_frame.proofs.ShortLemmas.{short_within}
use Rattle.ipc_connection.specs.Holding.{Kept}
use Rattle.ipc_connection.specs.ReadOn.{KeepsOn}
use Rattle.ipc_connection.proofs.FillLemmas.{some_gone}
use Rattle.ipc_connection.proofs.ReadOnLemmas.{keeps_on}
use Rattle.ipc_connection.proofs.held.Held.read_on.Goals as goal

pub read_behind-requires-clause-few : goal.read_behind-requires-clause-few
read_behind-requires-clause-few g c =
    let held = c.args.self.now in
    let within = short_within Server _ c.in-Short.wanted (c.in-Short.ensures.tells _ (some_gone held)) in
    let front = take c.self.inside.len c.self.inside.start in
    let bytes = ap (λ k. length k.bytes) c.self.view_is in
    omega (arith, within, length-append held.bytes (replicate held.lost 0), length-append front c.self.inside.payload, bytes, c.min.ensures)

pub invariant_of-self : goal.invariant_of-self
invariant_of-self g c =
    let was = c.self.invariant in
    let few = read_behind-requires-clause-few g c.before in
    let some = eqb-false (length c.self.inside.payload) 0 (sym c.is_empty.ensures ∙ c.if-is_empty.false) in
    let none = c.if-self-gt0.false in
    (was.0, was.1, λ more. was.2 (omega (arith, some)), omega (arith, few, c.read_behind.ensures.within, none))

pub returns-clause-read : goal.returns-clause-read
returns-clause-read g c =
    let input = input_of (g.P.PortRead.came c.args.port.now) (g.P.PortRead.remaining c.args.port.now) in
    let left = input_of (g.P.PortRead.came c.read_behind.new.port) (g.P.PortRead.remaining c.read_behind.new.port) in
    let start = take c.self.inside.len c.self.inside.start in
    let old = c.self.inside.payload in
    let new = c.read_behind.new.self in
    let none : c.self.inside.lost ≡ 0 = omega (arith, c.if-self-gt0.false) in
    let was = ap (λ k. record { bytes = start ++ old; lost = k }) (sym none) ∙ c.self.view_is in
    let held = c.args.self.now in
    let bare : held.bytes ≡ start ++ old = ap (λ (k : Kept). k.bytes) (sym was) in
    let bare_lost : held.lost ≡ 0 = ap (λ (k : Kept). k.lost) (sym was) in
    let told = c.in-Short.ensures.tells [] (record { counted = sym bare_lost; are_bytes = λ i. omega arith }) in
    let short = ap (reading Server) (sym bare) ∙ (ap (reading Server) (sym (append-nil held.bytes)) ∙ told) in
    let most = c.min.result in
    let less : most < c.in-Short.wanted = omega (arith, c.min.ensures, c.if-wanted-le-FEW.false) in
    let result = c.read_behind.result in
    let kept = keeps_on input left start old new most c.in-Short.wanted short less result c.read_behind.ensures.read in
    subst (λ (k : Kept). KeepsOn input left k (record { bytes = start ++ new; lost = c.self.inside.lost }) result) was
    (subst (λ n. KeepsOn input left (record { bytes = start ++ old; lost = 0 }) (record { bytes = start ++ new; lost = n }) result) (sym none) kept)
