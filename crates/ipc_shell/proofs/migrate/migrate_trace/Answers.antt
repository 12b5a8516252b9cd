use Rattle.std.proofs.Common.{◌≡◌, true, refl, subst}
use Rattle.ipc_trace.specs.Traces.{IsRead}
use Rattle.ipc_shell.specs.Migrating.{WritesMigrated}
use Rattle.ipc_shell.specs.declared.exit.Exit.TheVariants.{Done}
use Rattle.ipc_shell.proofs.CheckLemmas.{bad_line, torn_lines}
use Rattle.ipc_shell.proofs.CheckLemmas.{whole_lines}
use Rattle.ipc_shell.proofs.MigrateLemmas.{bad_unmigrated, device_in_trace, migrated, migrated_torn, not_migrated, torn_is_no_failure}
use Rattle.ipc_shell.proofs.migrate.migrate_trace.Goals as goal

pub returns-in-Whole-clause-migrates : goal.returns-in-Whole-clause-migrates
returns-in-Whole-clause-migrates g c =
    let bytes = g.R.PortRead.remaining c.args.reader.now in
    let left = g.R.PortRead.remaining c.read_trace-read.new.port in
    let version = c.read_trace-read.result.version in
    let entries = c.read_trace-read.result.entries.items in
    let before = c.args.trace.now.written in
    let after = c.write_migrated.new.trace.written in
    let read = subst (IsRead bytes left version entries) c.in-Whole.is c.read_trace-read.ensures.read in
    let writes = subst (λ es. WritesMigrated es before after c.write_migrated.result) c.deref.ensures.value c.write_migrated.ensures.writes in
    migrated bytes before after (g.W.PortWrite.written c.args.writer.now) version entries c.write_migrated.result (whole_lines bytes left version entries read) writes

pub returns-in-Done-clause-migrates : goal.returns-in-Done-clause-migrates
returns-in-Done-clause-migrates g c =
    let bytes = g.R.PortRead.remaining c.args.reader.now in
    let left = g.R.PortRead.remaining c.read_trace-read.new.port in
    let version = c.read_trace-read.result.version in
    let entries = c.read_trace-read.result.entries.items in
    let before = c.args.trace.now.written in
    let after = c.write_migrated-in-Torn.new.trace.written in
    let read = subst (IsRead bytes left version entries) c.in-Torn.is c.read_trace-read.ensures.read in
    let writes = subst (λ es. WritesMigrated es before after Done) c.deref-in-Torn.ensures.value c.in-Done.ensures.writes in
    migrated_torn bytes before after (g.W.PortWrite.written c.args.writer.now) (g.W.PortWrite.written c.tell_torn.new.writer) version entries c.tell_torn.result
    (torn_lines bytes left version entries read) writes c.tell_torn.ensures.tells

pub returns-in-Torn : goal.returns-in-Torn
returns-in-Torn g c =
    let bytes = g.R.PortRead.remaining c.args.reader.now in
    let left = g.R.PortRead.remaining c.read_trace-read.new.port in
    let version = c.read_trace-read.result.version in
    let entries = c.read_trace-read.result.entries.items in
    let before = c.args.trace.now.written in
    let after = c.write_migrated-in-Torn.new.trace.written in
    let exit = c.write_migrated-in-Torn.result in
    let read = subst (IsRead bytes left version entries) c.in-Torn.is c.read_trace-read.ensures.read in
    let writes = subst (λ es. WritesMigrated es before after exit) c.deref-in-Torn.ensures.value c.write_migrated-in-Torn.ensures.writes in
    let reads_kept = c.read_trace-read.ensures.kept (torn_is_no_failure c.read_trace-read.result.end c.in-Torn.is) in
    record {
      migrates = not_migrated bytes before after (g.W.PortWrite.written c.args.writer.now) version entries true exit (torn_lines bytes left version entries read) writes c.in_default.not-Done;
      device = λ failed. device_in_trace (c.args.trace.now.is_stopped ≡ true) (g.R.PortRead.failures c.args.reader.now) (g.R.PortRead.failures c.read_trace-read.new.port)
          c.args.trace.now.failures c.write_migrated-in-Torn.new.trace.failures (g.W.PortWrite.failures c.args.writer.now) reads_kept (c.write_migrated-in-Torn.ensures.device failed);
      kept = λ other. (reads_kept, c.write_migrated-in-Torn.ensures.kept other, refl);
      flushed = λ done. absurd (c.in_default.not-Done done);
    }

pub returns-in-BadLine-clause-migrates : goal.returns-in-BadLine-clause-migrates
returns-in-BadLine-clause-migrates g c =
    let bytes = g.R.PortRead.remaining c.args.reader.now in
    let left = g.R.PortRead.remaining c.read_trace-read.new.port in
    let version = c.read_trace-read.result.version in
    let entries = c.read_trace-read.result.entries.items in
    let read = subst (IsRead bytes left version entries) c.in-BadLine.is c.read_trace-read.ensures.read in
    bad_unmigrated bytes c.args.trace.now.written (g.W.PortWrite.written c.args.writer.now) c.in-BadLine.number (bad_line bytes left version entries c.in-BadLine.number read)
