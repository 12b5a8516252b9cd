use Rattle.std.specs.String.{string_bytes}
use Rattle.ipc_trace.proofs.Pieces.{where_ok}
use Rattle.ipc_trace.proofs.Written.{counts_written}
use Rattle.ipc_trace.proofs.base_text.write_counts.Goals as goal

pub returns : goal.returns
returns c =
    where_ok c.write_count-3.result
    (counts_written (string_bytes c.args.out.now) (string_bytes c.push_str.new.self) (string_bytes c.write_count.new.out) (string_bytes c.write_count-2.new.out) (string_bytes c.write_count-3.new.out)
    c.args.moment c.args.calls c.args.takes c.in_ok-push_str.ensures.bytes c.in_ok-write_count.ensures c.in_ok-write_count-2.ensures)
    c.write_count-3.ensures
