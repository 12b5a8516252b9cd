use Rattle.std.proofs.Common.{ap}
use Rattle.ipc_compact.specs.Bases.{written_to}
use Rattle.ipc_compact.proofs.BaseLemmas.{base_written}
use Rattle.ipc_compact.proofs.partner_base.base_of.Goals as goal

pub write_over-requires-clause-room : goal.write_over-requires-clause-room
unfolding written_to
write_over-requires-clause-room c = ap (λ r. r.over) c.write_numbers.ensures

pub returns : goal.returns
returns c =
    base_written c.args.desks.now.past c.args.desks.now.taken c.args.kept.now c.requires.kept c.write_numbers.new.room c.write_over.new.room c.write_numbers.ensures c.write_over.ensures
    c.now.result c.calls_made.result c.args.takes (rw c.requires.slots at c.now.ensures) (rw c.requires.slots at c.calls_made.ensures) c.requires.takes c.into_base.result c.into_base.ensures
