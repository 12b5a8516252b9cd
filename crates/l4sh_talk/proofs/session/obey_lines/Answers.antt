use Rattle.std.proofs.Common.{◌≡◌, ◌∙◌, refl, subst, sym}
use Rattle.std.specs.Io.KnownBytes.{prepend_known}
use Rattle.ipc_trace.specs.Reading.{TakesLine}
use Rattle.ipc_trace.specs.declared.lines.LineEnd.TheVariants.{Input}
use Rattle.l4sh_talk.specs.Talks.{EndsAtLine, Obeys, Quits, talk_of}
use Rattle.l4sh_talk.proofs.TalkLemmas.{ends_at, last_done, last_ends, quits_at, turn_more}
use Rattle.l4sh_talk.proofs.session.obey_lines.Goals as goal

pub lines-preserved : goal.lines-preserved
lines-preserved g c =
    let old = talk_of (g.R.PortRead.remaining c.args.reader.now) c.args.client.now (g.W.PortWrite.written c.args.writer.now) in
    let now = talk_of (prepend_known c.lines.buffer (g.R.PortRead.remaining c.lines.reader)) c.lines.client (g.W.PortWrite.written c.lines.writer) in
    let new = talk_of (prepend_known c.next_line.new.buffer (g.R.PortRead.remaining c.next_line.new.port)) c.obey_line.new.client
    (g.W.PortWrite.written c.obey_line.new.writer) in
    record {
      read = c.in-Newline.ensures.kept (λ e. cc) ∙ c.lines.invariant.read;
      written = c.in-Next.ensures.kept (λ e. cc) ∙ c.lines.invariant.written;
      talked = turn_more old now new c.next_line.new.line.items c.lines.invariant.talked c.in-Newline.ensures.line
          (subst (Obeys now.client new.client now.said new.said) c.deref.ensures.value (c.in-Next.ensures.next refl));
    }

pub returns-in-Quit-clause-done : goal.returns-in-Quit-clause-done
returns-in-Quit-clause-done g c =
    let old = talk_of (g.R.PortRead.remaining c.args.reader.now) c.args.client.now (g.W.PortWrite.written c.args.writer.now) in
    let now = talk_of (prepend_known c.lines.buffer (g.R.PortRead.remaining c.lines.reader)) c.lines.client (g.W.PortWrite.written c.lines.writer) in
    let typed = prepend_known c.next_line.new.buffer (g.R.PortRead.remaining c.next_line.new.port) in
    let said = g.W.PortWrite.written c.obey_line.new.writer in
    quits_at old now typed c.obey_line.new.client said c.next_line.new.line.items c.lines.invariant.talked c.in-Newline.ensures.line
    (subst (Quits now.client c.obey_line.new.client now.said said) c.deref.ensures.value (c.in-Quit.ensures.quit refl))

pub returns-in-End-clause-ends : goal.returns-in-End-clause-ends
returns-in-End-clause-ends g c =
    let old = talk_of (g.R.PortRead.remaining c.args.reader.now) c.args.client.now (g.W.PortWrite.written c.args.writer.now) in
    let now = talk_of (prepend_known c.lines.buffer (g.R.PortRead.remaining c.lines.reader)) c.lines.client (g.W.PortWrite.written c.lines.writer) in
    let typed = prepend_known c.next_line.new.buffer (g.R.PortRead.remaining c.next_line.new.port) in
    ends_at old now typed c.obey_line.new.client c.next_line.new.line.items c.in-End.ending c.lines.invariant.talked c.in-Newline.ensures.line
    (subst (λ l. EndsAtLine now.client c.obey_line.new.client l c.in-End.ending) c.deref.ensures.value (c.in-End.ensures.ends c.in-End.ending refl))

pub returns-in-Input-clause-done : goal.returns-in-Input-clause-done
returns-in-Input-clause-done g c =
    let old = talk_of (g.R.PortRead.remaining c.args.reader.now) c.args.client.now (g.W.PortWrite.written c.args.writer.now) in
    let now = talk_of (prepend_known c.lines.buffer (g.R.PortRead.remaining c.lines.reader)) c.lines.client (g.W.PortWrite.written c.lines.writer) in
    let typed = prepend_known c.next_line.new.buffer (g.R.PortRead.remaining c.next_line.new.port) in
    last_done c.obey_last.result old now typed c.obey_last.new.client (g.W.PortWrite.written c.obey_last.new.writer) c.deref-in-Input.result.now
    c.lines.invariant.talked (subst (λ l. TakesLine now.typed typed l Input) (sym c.deref-in-Input.ensures.value) c.in-Input.ensures.line) c.obey_last.ensures.done

pub returns-in-Input-clause-ends : goal.returns-in-Input-clause-ends
returns-in-Input-clause-ends g c =
    let old = talk_of (g.R.PortRead.remaining c.args.reader.now) c.args.client.now (g.W.PortWrite.written c.args.writer.now) in
    let now = talk_of (prepend_known c.lines.buffer (g.R.PortRead.remaining c.lines.reader)) c.lines.client (g.W.PortWrite.written c.lines.writer) in
    let typed = prepend_known c.next_line.new.buffer (g.R.PortRead.remaining c.next_line.new.port) in
    last_ends c.obey_last.result old now typed c.obey_last.new.client c.deref-in-Input.result.now c.lines.invariant.talked
    (subst (λ l. TakesLine now.typed typed l Input) (sym c.deref-in-Input.ensures.value) c.in-Input.ensures.line) c.obey_last.ensures.ends
