use Rattle.std.proofs.Common.{◌≡◌, ◌<◌, length, None, Some, refl, subst, ◌∙◌, arith}
use Rattle.std.proofs.lemmas.Grind.{common_steps}
use Rattle.std.specs.Io.KnownBytes.{prepend_known}
use Rattle.ipc_trace.specs.Taking.{TakesEntry}
use Rattle.ipc_trace.proofs.Ends.{ends_whole, ends_torn, ends_failed, ends_without_memory, ends_at_line, newline_is_no_failure, input_is_no_failure, input_is_no_newline, input_is_not_no_memory, no_memory_is_no_failure, failed_is_no_newline, failed_is_not_no_memory, taken_is_no_failure}
use Rattle.ipc_trace.proofs.Stages.{no_lines, one_more}
use Rattle.ipc_trace.proofs.reading.read_lines.Goals as goal

pub returns-in-Some-clause-read : goal.returns-in-Some-clause-read
returns-in-Some-clause-read g c =
    let entries = g.S.EntrySink.given c.lines.sink in
    let more = g.S.EntrySink.given c.take_line.new.sink in
    let before = c.lines.reader in
    let after = c.take_line.new.reader in
    let taken = subst (λ l. TakesEntry before after entries more l (Some c.in-Some.end)) c.deref.ensures.value c.in-Some.ensures in
    ends_at_line (g.P.PortRead.remaining c.args.port.now) (prepend_known c.lines.buffer (g.P.PortRead.remaining c.lines.port))
    (prepend_known c.next_line.new.buffer (g.P.PortRead.remaining c.next_line.new.port)) (g.P.PortRead.remaining c.next_line.new.port)
    before after entries more c.next_line.new.line.items c.in-Some.end c.lines.invariant.so_far c.in-Newline.ensures.line taken

pub lines-preserved : goal.lines-preserved
lines-preserved g c =
    let entries = g.S.EntrySink.given c.lines.sink in
    let more = g.S.EntrySink.given c.take_line.new.sink in
    let before = c.lines.reader in
    let after = c.take_line.new.reader in
    let taken =
    subst (λ l. TakesEntry before after entries more l None) c.deref.ensures.value (subst (TakesEntry before after entries more c.deref.result.now) c.in_default.is c.take_line.ensures) in
    record {
      so_far = one_more (g.P.PortRead.remaining c.args.port.now) (prepend_known c.lines.buffer (g.P.PortRead.remaining c.lines.port))
          (prepend_known c.next_line.new.buffer (g.P.PortRead.remaining c.next_line.new.port)) before after entries more c.next_line.new.line.items
          c.lines.invariant.so_far c.in-Newline.ensures.line taken;
      failures = c.in-Newline.ensures.kept newline_is_no_failure ∙ c.lines.invariant.failures;
    }

pub returns-in-Input-clause-read : goal.returns-in-Input-clause-read
returns-in-Input-clause-read g c =
    let empty : length c.next_line.new.line.items ≡ 0 = grind (arith, common_steps) in
    ends_whole (g.P.PortRead.remaining c.args.port.now) (prepend_known c.lines.buffer (g.P.PortRead.remaining c.lines.port)) (g.P.PortRead.remaining c.next_line.new.port)
    c.next_line.new.buffer c.lines.reader (g.S.EntrySink.given c.lines.sink) c.next_line.new.line.items c.lines.invariant.so_far c.in-Input.ensures.line
    (c.in-Input.ensures.used input_is_not_no_memory input_is_no_newline) empty

pub returns-in-Input-2-clause-read : goal.returns-in-Input-2-clause-read
returns-in-Input-2-clause-read g c =
    let some : 0 < length c.next_line.new.line.items = grind (arith, common_steps) in
    ends_torn (g.P.PortRead.remaining c.args.port.now) (prepend_known c.lines.buffer (g.P.PortRead.remaining c.lines.port)) (g.P.PortRead.remaining c.next_line.new.port)
    c.next_line.new.buffer c.lines.reader (g.S.EntrySink.given c.lines.sink) c.next_line.new.line.items c.lines.invariant.so_far c.in-Input-2.ensures.line
    (c.in-Input-2.ensures.used input_is_not_no_memory input_is_no_newline) some

pub returns-in-Some-clause-failed : goal.returns-in-Some-clause-failed
returns-in-Some-clause-failed g c failed =
    absurd (taken_is_no_failure c.lines.reader c.take_line.new.reader (g.S.EntrySink.given c.lines.sink) (g.S.EntrySink.given c.take_line.new.sink) c.deref.result.now c.in-Some.end c.in-Some.ensures failed)

pub returns-in-Some-clause-kept : goal.returns-in-Some-clause-kept
returns-in-Some-clause-kept g c kept = c.in-Newline.ensures.kept newline_is_no_failure ∙ c.lines.invariant.failures

pub returns-in-Input-clause-kept : goal.returns-in-Input-clause-kept
returns-in-Input-clause-kept g c kept = c.in-Input.ensures.kept input_is_no_failure ∙ c.lines.invariant.failures

pub returns-in-Input-2-clause-kept : goal.returns-in-Input-2-clause-kept
returns-in-Input-2-clause-kept g c kept = c.in-Input-2.ensures.kept input_is_no_failure ∙ c.lines.invariant.failures

pub returns-in-Failed-clause-read : goal.returns-in-Failed-clause-read
returns-in-Failed-clause-read g c =
    ends_failed (g.P.PortRead.remaining c.args.port.now) (prepend_known c.lines.buffer (g.P.PortRead.remaining c.lines.port)) (g.P.PortRead.remaining c.next_line.new.port)
    c.next_line.new.buffer c.lines.reader (g.S.EntrySink.given c.lines.sink) c.next_line.new.line.items c.lines.invariant.so_far c.in-Failed.ensures.line
    (c.in-Failed.ensures.used failed_is_not_no_memory failed_is_no_newline)

pub returns-in-Failed-clause-failed : goal.returns-in-Failed-clause-failed
returns-in-Failed-clause-failed g c failed = omega (arith, c.in-Failed.ensures.failed refl, c.lines.invariant.failures)

pub returns-in-Failed-clause-kept : goal.returns-in-Failed-clause-kept
returns-in-Failed-clause-kept g c kept = absurd (kept refl)

pub returns-in-NoMemory-clause-read : goal.returns-in-NoMemory-clause-read
returns-in-NoMemory-clause-read g c =
    ends_without_memory (g.P.PortRead.remaining c.args.port.now) (prepend_known c.lines.buffer (g.P.PortRead.remaining c.lines.port)) (g.P.PortRead.remaining c.next_line.new.port)
    c.lines.reader (g.S.EntrySink.given c.lines.sink) c.lines.invariant.so_far

pub returns-in-NoMemory-clause-kept : goal.returns-in-NoMemory-clause-kept
returns-in-NoMemory-clause-kept g c kept = c.in-NoMemory.ensures.kept no_memory_is_no_failure ∙ c.lines.invariant.failures
