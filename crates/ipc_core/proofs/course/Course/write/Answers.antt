use Rattle.std.proofs.Common.{◌∙◌, ◌++◌, ◌∷◌, [], ap, subst, inl, inr}
use Rattle.std.proofs.lemmas.Bool.{false≢true}
use Rattle.ipc_history.specs.declared.entry.Entry.TheVariants.{Written}
use Rattle.ipc_core.specs.CourseParts.{SameBooks}
use Rattle.ipc_core.proofs.CourseLemmas.{output_follows}
use Rattle.ipc_core.proofs.PassedCourse.{write_room}
use Rattle.ipc_core.proofs.course.Course.write.Goals as goal

pub returns-then-pass-clause-entries : goal.returns-then-pass-clause-entries
returns-then-pass-clause-entries c = inr (c.pass.ensures.passed c.if-pass.true)

pub append-requires-clause-follows : goal.append-requires-clause-follows
append-requires-clause-follows c = rw (c.pass.ensures.not c.if-pass.false) (output_follows _ _ c.requires.next)

pub append-requires-clause-room : goal.append-requires-clause-room
append-requires-clause-room c = rw (c.pass.ensures.not c.if-pass.false) (write_room c.args.self.now.entries c.args.output c.args.self.now.room c.requires.legal c.requires.next c.requires.room)

pub append-requires-clause-fresh : goal.append-requires-clause-fresh
append-requires-clause-fresh c = λ t none. absurd (false≢true none)

pub returns-clause-entries : goal.returns-clause-entries
returns-clause-entries c = inl (c.append.ensures.entries ∙ ap (λ v. v.entries ++ Written c.args.output ∷ []) (c.pass.ensures.not c.if-pass.false))

pub returns-clause-room : goal.returns-clause-room
returns-clause-room c = c.append.ensures.room ∙ ap (λ v. v.room) (c.pass.ensures.not c.if-pass.false)

pub returns-clause-books : goal.returns-clause-books
returns-clause-books c = subst (λ v. SameBooks v c.append.new.self) (c.pass.ensures.not c.if-pass.false) c.append.ensures.books
