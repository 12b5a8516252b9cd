use Rattle.std.proofs.Common.{◌≡◌, [], ◌∷◌, Some, ◌∙◌, None, refl}
use Rattle.ipc_lines.proofs.ListTexts.{field_at, three_of}
use Rattle.ipc_lines.proofs.Options.{none_not_some, some_same}
use Rattle.ipc_lines.proofs.reading.values.read_threads_and_control.Goals as goal

pub returns-clause-only : goal.returns-clause-only
returns-clause-only c thread dest control is_thread is_dest masked e =
    let a : c.in_ok-thread.thread ≡ thread = some_same _ _ (c.in_ok-thread.ensures.only thread is_thread (field_at c.args.fields.now _ 0 e)) in
    let b : c.in_ok-dest.dest ≡ dest = some_same _ _ (c.in_ok-dest.ensures.only dest is_dest (field_at c.args.fields.now _ 1 e)) in
    let d : c.in_ok-read_control.field-0 ≡ control = some_same _ _ (c.in_ok-read_control.ensures.only control masked (field_at c.args.fields.now _ 2 e)) in
    λ i. Some (a i, b i, d i)

pub returns-clause-found : goal.returns-clause-found
returns-clause-found c =
    three_of c.args.fields.now c.in-len3.len_at_least c.in-len3.len_below
    ∙ (λ i. c.in_ok-thread.ensures.found i ∷ c.in_ok-dest.ensures.found i ∷ c.in_ok-read_control.ensures.found i ∷ [])

pub returns-in_err-thread-clause-only : goal.returns-in_err-thread-clause-only
returns-in_err-thread-clause-only c thread dest control is_thread is_dest masked e =
    let none = c.in_err-thread.ensures.only thread is_thread (field_at c.args.fields.now _ 0 e) in
    absurd (none_not_some None _ refl none)

pub returns-in_err-dest-clause-only : goal.returns-in_err-dest-clause-only
returns-in_err-dest-clause-only c thread dest control is_thread is_dest masked e =
    let none = c.in_err-dest.ensures.only dest is_dest (field_at c.args.fields.now _ 1 e) in
    absurd (none_not_some None _ refl none)

pub returns-in_err-read_control-clause-only : goal.returns-in_err-read_control-clause-only
returns-in_err-read_control-clause-only c thread dest control is_thread is_dest masked e =
    let none = c.in_err-read_control.ensures.only control masked (field_at c.args.fields.now _ 2 e) in
    absurd (none_not_some None _ refl none)
