use Rattle.std.proofs.Common.{◌≡◌, ◌+◌, ◌-◌, ◌<◌, length, drop, sum, arith, sym, ◌∙◌, ap}
use Rattle.std.proofs.lemmas.List.{take_rest}
use Rattle.ipc_frame.specs.Numbers.{number_in}
use Rattle.ipc_frame.specs.Frames.{widths}
use Rattle.ipc_frame.proofs.JudgeLemmas.{no_more, short_head, bad_words, short_tail, whole_tail, version_tail}
use Rattle.ipc_frame.proofs.judging.judge_kind.Goals as goal

pub returns-then-rest-head : goal.returns-then-rest-head
returns-then-rest-head c =
    let short : length c.args.rest.now < sum (widths c.args.kind) = omega (arith, c.if-rest-head.true, c.head-head.ensures) in
    rw c.head-head.ensures (short_head c.args.kind c.args.size c.args.behind c.args.rest.now c.requires.right short (no_more c.args.behind _ _ c.requires.head short))

pub returns-in-Some : goal.returns-in-Some
returns-in-Some c =
    bad_words c.args.kind c.args.size c.args.behind c.args.rest.now c.requires.right (omega (arith, c.if-rest-head.false, c.head-head.ensures)) c.in-Some.fault (sym c.fields_fault.ensures ∙ c.in-Some.is)

pub returns-then-there-wanted : goal.returns-then-there-wanted
returns-then-there-wanted c =
    short_tail c.args.kind c.args.size c.args.behind c.args.rest.now c.requires.right (omega (arith, c.if-rest-head.false, c.head-head.ensures)) (sym c.fields_fault.ensures ∙ c.in_default.is) _ _ (ap (λ n. c.args.size - (1 + n)) c.head-head.ensures) (ap (λ n. (length c.args.rest.now - n) + c.args.behind) c.head-head.ensures) c.if-there-wanted.true

pub returns-then-is_pieced : goal.returns-then-is_pieced
returns-then-is_pieced c = rw (c.requires.server (sym c.is_pieced.ensures ∙ c.if-is_pieced.true)) c.judge_pieces.ensures

pub returns-in-HelloTwo : goal.returns-in-HelloTwo
returns-in-HelloTwo c =
    let kind = c.in-HelloTwo.is in
    let head : c.head-head.result ≡ 4 = c.head-head.ensures ∙ ap (λ k. sum (widths k)) kind in
    let there = version_tail c.args.size c.args.behind c.args.rest.now (rw kind at c.requires.right) (omega (arith, c.if-rest-head.false, head)) (rw kind at (sym c.fields_fault.ensures ∙ c.in_default.is)) (c.args.size - (1 + c.head-head.result)) ((length c.args.rest.now - c.head-head.result) + c.args.behind) (ap (λ n. c.args.size - (1 + n)) head) (ap (λ n. (length c.args.rest.now - n) + c.args.behind) head) c.if-there-wanted.false in
    let version : c.read_u16.result ≡ number_in 2 (drop 2 c.args.rest.now) = c.read_u16.ensures ∙ ap (number_in 2) (take_rest c.args.rest.now 2) in
    rw (kind, c.judge_version.ensures, version) there

pub returns-in_default-kind : goal.returns-in_default-kind
returns-in_default-kind c =
    whole_tail c.args.kind c.args.size c.args.behind c.args.rest.now c.requires.right (omega (arith, c.if-rest-head.false, c.head-head.ensures)) (sym c.fields_fault.ensures ∙ c.in_default.is) _ _ (ap (λ n. c.args.size - (1 + n)) c.head-head.ensures) (ap (λ n. (length c.args.rest.now - n) + c.args.behind) c.head-head.ensures) c.if-there-wanted.false (sym c.is_pieced.ensures ∙ c.if-is_pieced.false) c.in_default-kind.not-HelloTwo
