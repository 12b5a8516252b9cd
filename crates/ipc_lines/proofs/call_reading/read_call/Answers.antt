use Rattle.std.proofs.Common.{ℕ, List, Option, ◌≡◌, take, drop, ap, sym, ◌∙◌, ◌++◌, Some, IsTrue, subst}
use Rattle.ipc_history.specs.CallParts.{CallParts, is_normal}
use Rattle.ipc_items.specs.declared.buffer_list.Substring.{Substring}
use Rattle.ipc_lines.specs.Reading.{texts_of}
use Rattle.ipc_lines.specs.declared.call_reading.Numbers.{Numbers}
use Rattle.ipc_lines.specs.Lines.{call_fields}
use Rattle.ipc_lines.proofs.ListTexts.{map_halves, map_take, map_drop}
use Rattle.ipc_lines.proofs.Options.{none_of, is_some_and, some_same, none_is_not}
use Rattle.ipc_lines.proofs.call_reading.read_call.Goals as goal

abbrev parts : Numbers → List ℕ → List (List ℕ) → Option (List (List Substring)) → CallParts
parts n words strings buffers = record { to = n.to; from = n.from; send_period = n.send_period; receive_period = n.receive_period; tag = n.tag; originator = n.originator; words = words; strings = strings; buffers = buffers }

pub returns-in_default-2-clause-only : goal.returns-in_default-2-clause-only
returns-in_default-2-clause-only c thread call is e =
    let last = ap texts_of c.split_at.ensures.back ∙ map_drop (λ field. field.now) 6 c.args.fields.now ∙ ap (drop 6) e in
    absurd (none_of _ c.in_ok-lists.field-0 c.in_default-2.is (c.in_ok-lists.ensures.only thread call is last))

pub returns-in-None-clause-only : goal.returns-in-None-clause-only
returns-in-None-clause-only c thread call is e =
    let first = ap texts_of c.split_at.ensures.front ∙ map_take (λ field. field.now) 6 c.args.fields.now ∙ ap (take 6) e in
    let last = ap texts_of c.split_at.ensures.back ∙ map_drop (λ field. field.now) 6 c.args.fields.now ∙ ap (drop 6) e in
    let numbers = some_same _ _ (c.in-Some.ensures.only thread call is first) in
    let lists = is_some_and _ c.in_ok-lists.field-0 c.in-Some-2.lists c.in-Some-2.is (c.in_ok-lists.ensures.only thread call is last) in
    let same : parts c.in-Some.numbers c.in-Some-2.lists.words.items c.in-Some-2.lists.strings c.in-Some-2.lists.buffers ≡ call = λ i. parts (numbers i) (lists.0 i) (lists.1 i) (lists.2 i) in
    let some = c.new.ensures.normal.1 (subst (λ p. IsTrue (is_normal p)) (sym same) is.normal) in
    absurd (none_is_not _ c.in-None.is some)

pub returns-in-Some-new-clause-found : goal.returns-in-Some-new-clause-found
returns-in-Some-new-clause-found c =
    let first = ap texts_of (sym c.split_at.ensures.front) ∙ c.in-Some.ensures.found in
    let read = rw c.in-Some-2.is at c.in_ok-lists.ensures.found in
    let last = ap texts_of (sym c.split_at.ensures.back) ∙ read in
    sym (map_halves (λ field. field.now) 6 c.args.fields.now) ∙ (λ i. first i ++ last i) ∙ ap (call_fields c.in-Some.numbers.thread) (sym c.in-Some-new.ensures.value)

pub returns-in-Some-new-clause-only : goal.returns-in-Some-new-clause-only
returns-in-Some-new-clause-only c thread call is e =
    let first = ap texts_of c.split_at.ensures.front ∙ map_take (λ field. field.now) 6 c.args.fields.now ∙ ap (take 6) e in
    let last = ap texts_of c.split_at.ensures.back ∙ map_drop (λ field. field.now) 6 c.args.fields.now ∙ ap (drop 6) e in
    let numbers = some_same _ _ (c.in-Some.ensures.only thread call is first) in
    let lists = is_some_and _ c.in_ok-lists.field-0 c.in-Some-2.lists c.in-Some-2.is (c.in_ok-lists.ensures.only thread call is last) in
    let same : parts c.in-Some.numbers c.in-Some-2.lists.words.items c.in-Some-2.lists.strings c.in-Some-2.lists.buffers ≡ call = λ i. parts (numbers i) (lists.0 i) (lists.1 i) (lists.2 i) in
    λ i. Some ((numbers i).thread, (c.in-Some-new.ensures.value ∙ same) i)
