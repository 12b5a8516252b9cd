use Rattle.std.proofs.Common.{refl, inl, arith}
use Rattle.ipc_frame.specs.declared.judging.Judgement.TheVariants as judged
use Rattle.ipc_frame.proofs.DecodeLemmas.{told_alone, left_over, stopped_for, one_taken, decoded, refused}
use Rattle.ipc_frame.proofs.FoundLemmas.{whole_within}
use Rattle.ipc_frame.proofs.decoding.take_frame.Goals as goal

pub whole_frame-requires : goal.whole_frame-requires
whole_frame-requires g c = told_alone judged.Whole c.args.side c.args.bytes.now c.in-Whole.ensures

pub returns-in-Short-clause-takes : goal.returns-in-Short-clause-takes
returns-in-Short-clause-takes g c = left_over c.args.side c.args.bytes.now c.in-Short.field-0 c.args.frames.now.items _ (told_alone (judged.Short c.in-Short.field-0) c.args.side c.args.bytes.now c.in-Short.ensures) refl

pub returns-in-Bad : goal.returns-in-Bad
returns-in-Bad g c =
    let stops = stopped_for c.args.side c.args.bytes.now c.in-Bad.fault c.args.frames.now.items _ (told_alone (judged.Bad c.in-Bad.fault) c.args.side c.args.bytes.now c.in-Bad.ensures) refl in
    record { takes = inl stops; ample = λ _. stops }

pub returns-in-Ok-push_frame-clause-takes : goal.returns-in-Ok-push_frame-clause-takes
returns-in-Ok-push_frame-clause-takes g c =
    let told = told_alone judged.Whole c.args.side c.args.bytes.now c.in-Whole.ensures in
    let e = decoded c.args.side c.args.bytes.now told.0 c.in-Ok.frame told.1.0 c.in-Ok.size told.1.1 c.in-Ok.ensures.decodes in
    let within = whole_within c.args.side c.args.bytes.now c.in-Ok.frame c.in-Ok.size e in
    (one_taken c.args.side c.args.bytes.now c.in-Ok.size c.in-Ok.frame c.args.frames.now.items _ e c.in-Ok-push_frame.ensures.ok, omega (arith, within.0), within.1)

pub returns-in-Err-clause-takes : goal.returns-in-Err-clause-takes
returns-in-Err-clause-takes g c =
    let told = told_alone judged.Whole c.args.side c.args.bytes.now c.in-Whole.ensures in
    refused c.args.side c.args.bytes.now told.0 told.1.0 c.in-Err.refused c.args.frames.now.items _ told.1.1 c.in-Err.ensures.decodes refl
