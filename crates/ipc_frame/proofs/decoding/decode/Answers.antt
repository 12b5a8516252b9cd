use Rattle.std.proofs.Common.{refl}
use Rattle.ipc_frame.specs.declared.judging.Judgement.TheVariants as judged
use Rattle.ipc_frame.proofs.DecodeLemmas.{told_alone}
use Rattle.ipc_frame.proofs.decoding.decode.Goals as goal

pub whole_frame-requires : goal.whole_frame-requires
whole_frame-requires g c = told_alone judged.Whole c.args.side c.args.bytes.now c.in-Whole.ensures

pub returns-in-Short : goal.returns-in-Short
returns-in-Short g c = let e = told_alone (judged.Short c.in-Short.field-0) c.args.side c.args.bytes.now c.in-Short.ensures in record { decodes = rw e refl; ample = λ _. rw e refl }

pub returns-in-Bad : goal.returns-in-Bad
returns-in-Bad g c = let e = told_alone (judged.Bad c.in-Bad.fault) c.args.side c.args.bytes.now c.in-Bad.ensures in record { decodes = rw e refl; ample = λ _. rw e refl }
