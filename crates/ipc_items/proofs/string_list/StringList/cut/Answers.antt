use Rattle.std.proofs.Common.{◌≡◌, None, sym, subst, ◌∙◌}
use Rattle.ipc_items.specs.ItemFault.{string_fault}
use Rattle.ipc_items.specs.ItemWords.{items_of}
use Rattle.ipc_items.specs.Strings.{AreStrings}
use Rattle.ipc_items.proofs.LimitLemmas.{few_strings, strings_within}
use Rattle.ipc_items.proofs.string_list.StringList.cut.Goals as goal

pub invariant_of-result : goal.invariant_of-result
invariant_of-result g c =
    let words = c.args.words.now in
    let none = subst (λ n. string_fault n 0 (items_of words) ≡ None) (c.len.ensures ∙ c.args.payload.ok.0) c.in_ok-bytes.ensures.ok in
    subst AreStrings (sym (c.shared.ensures ∙ c.in_ok-rows.ensures.rows)) (strings_within words c.args.payload.items c.requires none)

pub returns-clause-few : goal.returns-clause-few
returns-clause-few g c =
    let words = c.args.words.now in
    let none = subst (λ n. string_fault n 0 (items_of words) ≡ None) (c.len.ensures ∙ c.args.payload.ok.0) c.in_ok-bytes.ensures.ok in
    rw (c.shared.ensures ∙ c.in_ok-rows.ensures.rows) (few_strings words c.args.payload.items none)
