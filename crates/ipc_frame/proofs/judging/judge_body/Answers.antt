use Rattle.std.proofs.Common.{rules, ◌≡◌, [], ◌∷◌, sym, ◌∙◌, arith}
use Rattle.std.proofs.lemmas.List.{nil_from_length}
use Rattle.ipc_frame.proofs.JudgeLemmas.{no_more, short_body, bad_kind, bad_size, right_kind, pieced_side}
use Rattle.ipc_frame.proofs.judging.judge_body.Goals as goal

pub returns-in_default : goal.returns-in_default
returns-in_default c =
    let shape : c.args.body.now ≡ [] = nil_from_length c.args.body.now c.in_default.ensures.cases in
    let none = no_more c.args.behind 46 0 (λ h. rw shape at (c.requires.head h)) (omega arith) in
    rw shape (short_body c.args.side c.args.size c.args.behind c.requires.within c.requires.some none)

pub returns-in_default-of : goal.returns-in_default-of
returns-in_default-of c =
    let shape : c.args.body.now ≡ c.in-Some.byte.now ∷ c.in-Some.rest.now = search rules in
    rw shape (bad_kind c.args.side c.args.size c.args.behind c.requires.within c.requires.some c.in-Some.byte.now c.in-Some.rest.now (sym c.of.ensures ∙ c.in_default-of.is))

pub returns-then-is_wrong_size : goal.returns-then-is_wrong_size
returns-then-is_wrong_size c =
    let shape : c.args.body.now ≡ c.in-Some.byte.now ∷ c.in-Some.rest.now = search rules in
    rw shape (bad_size c.args.side c.args.size c.args.behind c.requires.within c.requires.some c.in-Some.byte.now c.in-Some.rest.now c.in-Some-of.kind (sym c.of.ensures ∙ c.in-Some-of.is) (sym c.is_wrong_size.ensures ∙ c.if-is_wrong_size.true))

pub returns : goal.returns
returns c =
    let shape : c.args.body.now ≡ c.in-Some.byte.now ∷ c.in-Some.rest.now = search rules in
    rw shape (right_kind c.args.side c.args.size c.args.behind c.requires.within c.requires.some c.in-Some.byte.now c.in-Some.rest.now c.in-Some-of.kind c.judge_kind.result (sym c.of.ensures ∙ c.in-Some-of.is) c.judge_kind.ensures)

pub judge_kind-requires-clause-server : goal.judge_kind-requires-clause-server
judge_kind-requires-clause-server c = λ pieced. c.requires.server (pieced_side c.args.side c.args.size c.in-Some.byte.now c.in-Some-of.kind (sym c.of.ensures ∙ c.in-Some-of.is) pieced)
