use Rattle.std.proofs.Common.{◌∷◌, Some, ap, sym, ◌∙◌}
use Rattle.std.proofs.lemmas.Result.{IfOk-weaker}
use Rattle.ipc_lines.specs.Reading.{texts_of}
use Rattle.ipc_lines.specs.Names.{entry_name}
use Rattle.ipc_lines.proofs.EntryNaming.{at_only, opened_only, called_only, exreg_only, broke_only, moved_only, began_only, turned_only, ended_only, overflowed_only, aborted_only, failed_only}
use Rattle.ipc_lines.proofs.reading.entry_of.Goals as goal

pub returns-in-At-clause-only : goal.returns-in-At-clause-only
returns-in-At-clause-only c entry is e =
    let k = at_only entry (texts_of c.args.fields.now) is (ap (λ n. entry_name n ∷ texts_of c.args.fields.now) (sym c.in-At.is) ∙ e) in
    c.read_at.ensures.only k.0 k.1 k.3 ∙ ap Some k.2

pub returns-in-Opened-clause-only : goal.returns-in-Opened-clause-only
returns-in-Opened-clause-only c entry is e =
    let k = opened_only entry (texts_of c.args.fields.now) is (ap (λ n. entry_name n ∷ texts_of c.args.fields.now) (sym c.in-Opened.is) ∙ e) in
    c.read_opened.ensures.only k.0 k.1 k.2.0 k.2.1 k.4 ∙ ap Some k.3

pub returns-in-Called-clause-only : goal.returns-in-Called-clause-only
returns-in-Called-clause-only c entry is e =
    let k = called_only entry (texts_of c.args.fields.now) is (ap (λ n. entry_name n ∷ texts_of c.args.fields.now) (sym c.in-Called.is) ∙ e) in
    IfOk-weaker c.read_called.result _ _ (λ answer a. a ∙ ap Some k.4) (c.read_called.ensures.only k.0 k.1 k.2 k.3.0 k.3.1 k.5)

pub returns-in-Exreg-clause-only : goal.returns-in-Exreg-clause-only
returns-in-Exreg-clause-only c entry is e =
    let k = exreg_only entry (texts_of c.args.fields.now) is (ap (λ n. entry_name n ∷ texts_of c.args.fields.now) (sym c.in-Exreg.is) ∙ e) in
    c.read_exreg.ensures.only k.0 k.1 k.2 k.3.0 k.3.1 k.3.2 k.5 ∙ ap Some k.4

pub returns-in-Broke-clause-only : goal.returns-in-Broke-clause-only
returns-in-Broke-clause-only c entry is e =
    let k = broke_only entry (texts_of c.args.fields.now) is (ap (λ n. entry_name n ∷ texts_of c.args.fields.now) (sym c.in-Broke.is) ∙ e) in
    c.read_broke.ensures.only k.0 k.1 k.3 ∙ ap Some k.2

pub returns-in-Moved-clause-only : goal.returns-in-Moved-clause-only
returns-in-Moved-clause-only c entry is e =
    let k = moved_only entry (texts_of c.args.fields.now) is (ap (λ n. entry_name n ∷ texts_of c.args.fields.now) (sym c.in-Moved.is) ∙ e) in
    c.read_moved.ensures.only k.0 k.1 k.2.0 k.2.1 k.4 ∙ ap Some k.3

pub returns-in-Began-clause-only : goal.returns-in-Began-clause-only
returns-in-Began-clause-only c entry is e =
    let k = began_only entry (texts_of c.args.fields.now) is (ap (λ n. entry_name n ∷ texts_of c.args.fields.now) (sym c.in-Began.is) ∙ e) in
    c.read_began.ensures.only k.0 k.1 k.2.0 k.2.1 k.4 ∙ ap Some k.3

pub returns-in-Turned-clause-only : goal.returns-in-Turned-clause-only
returns-in-Turned-clause-only c entry is e =
    let k = turned_only entry (texts_of c.args.fields.now) is (ap (λ n. entry_name n ∷ texts_of c.args.fields.now) (sym c.in-Turned.is) ∙ e) in
    c.read_turned.ensures.only k.0 k.1 k.2.0 k.2.1 k.4 ∙ ap Some k.3

pub returns-in-Ended-clause-only : goal.returns-in-Ended-clause-only
returns-in-Ended-clause-only c entry is e =
    let k = ended_only entry (texts_of c.args.fields.now) is (ap (λ n. entry_name n ∷ texts_of c.args.fields.now) (sym c.in-Ended.is) ∙ e) in
    c.read_ended.ensures.only k.0 k.1 k.2.0 k.2.1 k.4 ∙ ap Some k.3

pub returns-in-Overflowed-clause-only : goal.returns-in-Overflowed-clause-only
returns-in-Overflowed-clause-only c entry is e =
    let k = overflowed_only entry (texts_of c.args.fields.now) is (ap (λ n. entry_name n ∷ texts_of c.args.fields.now) (sym c.in-Overflowed.is) ∙ e) in
    c.read_overflowed.ensures.only k.0 k.1 k.2 k.3.0 k.3.1 k.3.2 k.5 ∙ ap Some k.4

pub returns-in-Aborted-clause-only : goal.returns-in-Aborted-clause-only
returns-in-Aborted-clause-only c entry is e =
    let k = aborted_only entry (texts_of c.args.fields.now) is (ap (λ n. entry_name n ∷ texts_of c.args.fields.now) (sym c.in-Aborted.is) ∙ e) in
    c.read_aborted.ensures.only k.0 k.1 k.2 k.3.0 k.3.1 k.3.2 k.5 ∙ ap Some k.4

pub returns-in-Failed-clause-only : goal.returns-in-Failed-clause-only
returns-in-Failed-clause-only c entry is e =
    let k = failed_only entry (texts_of c.args.fields.now) is (ap (λ n. entry_name n ∷ texts_of c.args.fields.now) (sym c.in-Failed.is) ∙ e) in
    c.read_failed.ensures.only k.0 k.1 k.2.0 k.2.1 k.4 ∙ ap Some k.3
