use Rattle.ipc_trace.specs.Versions.{version_so_far}
use Rattle.ipc_trace.proofs.Unknown.{read_as_unknown}
use Rattle.ipc_trace.proofs.reading.read_entries.Goals as goal

pub returns-clause-unknown : goal.returns-clause-unknown
returns-clause-unknown g c =
    read_as_unknown c.lines_hold_no_newline.ensures (g.P.PortRead.remaining c.args.port.now) (g.P.PortRead.remaining c.read_whole-end.new.port) (version_so_far c.read_whole-end.new.reader) (g.S.EntrySink.given c.read_whole-end.new.sink)
    c.read_whole-end.result c.read_whole-end.ensures.read
