use Rattle.ipc_server.proofs.DoingLemmas.{reads_to_end}
use Rattle.ipc_server.proofs.serving.read_to_the_end.Goals as goal

pub returns : goal.returns
returns g c =
    reads_to_end _ _ _ c.args.posts c.new-kernel_port.result c.read_with.new.kernel_port c.into_end-end.result c.new-kernel_port.ensures.end
    c.read_with.ensures.asks c.read_with.ensures.home c.into_end-end.ensures.end c.into_end-end.ensures.did
