use Rattle.std.proofs.Common.{false, sym, ap, subst, ◌∙◌}
use Rattle.ipc_base.specs.Ports.{input_of}
use Rattle.ipc_connection.specs.ReadOn.{TakesOn}
use Rattle.ipc_connection.specs.Taking.{Decoding}
use Rattle.ipc_connection.proofs.ReadOnLemmas.{takes_on}
use Rattle.ipc_connection.proofs.call_decoder.CallDecoder.read_on.Goals as goal

pub returns-clause-taken : goal.returns-clause-taken
returns-clause-taken g c =
    let input = input_of (g.P.PortRead.came c.args.port.now) (g.P.PortRead.remaining c.args.port.now) in
    let left = input_of (g.P.PortRead.came c.read_on.new.port) (g.P.PortRead.remaining c.read_on.new.port) in
    let old = c.self.inside.held in
    let new = c.read_on.new.self in
    let result = c.read_on.result in
    let unspent = sym c.if-self.false in
    let was = ap (λ b. record { kept = old.bytes; lost = old.lost; spent = b }) unspent ∙ c.self.view_is in
    let takes = takes_on input left old new result c.read_on.ensures.read in
    subst (λ (k : Decoding). TakesOn input left k (record { kept = new.bytes; lost = new.lost; spent = c.self.inside.spent }) result) was
    (subst (λ b. TakesOn input left (record { kept = old.bytes; lost = old.lost; spent = false }) (record { kept = new.bytes; lost = new.lost; spent = b }) result) unspent takes)
