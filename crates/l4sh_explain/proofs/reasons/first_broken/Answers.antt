use Rattle.std.proofs.Common.{◌≡◌, ◌+◌, None, Some, ap, refl, sym, ◌∙◌}
use Rattle.std.specs.Prelude.{slice_get}
use Rattle.ipc_lines.specs.Reading.{texts_of}
use Rattle.ipc_lines.proofs.Options.{some_same, none_not_some}
use Rattle.l4sh_explain.specs.Reasons.{SpellsCall}
use Rattle.l4sh_explain.specs.Rules.{shape_of, broken_rule}
use Rattle.l4sh_explain.proofs.CallWells.{call_in, is_call, is_well_formed}
use Rattle.l4sh_explain.proofs.NormalForms.{normal_from, normal_into}
use Rattle.l4sh_explain.proofs.reasons.first_broken.Goals as goal

pub returns-in_default : goal.returns-in_default
returns-in_default c =
    let h = call_in _ c.requires.spelled in
    absurd (none_not_some c.in_ok-shape.field-0 (shape_of h.call) c.in_default.is (c.in_ok-shape.ensures h.thread h.call h.well_formed h.spelled))

pub returns-in_default-broken_rule : goal.returns-in_default-broken_rule
returns-in_default-broken_rule c =
    let h = call_in _ c.requires.spelled in
    let same : c.in-Some.shape ≡ shape_of h.call = some_same _ _ (sym c.in-Some.is ∙ c.in_ok-shape.ensures h.thread h.call h.well_formed h.spelled) in
    let none : broken_rule (shape_of h.call) ≡ None = sym (ap broken_rule same) ∙ sym c.broken_rule.ensures ∙ c.in_default-broken_rule.is in
    (h.thread, h.call, is_call h.thread h.call h.well_formed (normal_from h.thread h.call h.well_formed none), h.spelled)

pub returns : goal.returns
returns c =
    let h = call_in _ c.requires.spelled in
    let same : c.in-Some.shape ≡ shape_of h.call = some_same _ _ (sym c.in-Some.is ∙ c.in_ok-shape.ensures h.thread h.call h.well_formed h.spelled) in
    let some : broken_rule c.in-Some.shape ≡ Some c.in-Some-broken_rule.rule = sym c.broken_rule.ensures ∙ c.in-Some-broken_rule.is in
    let other : SpellsCall _ → ⊥ = λ s.
    let shape : c.in-Some.shape ≡ shape_of s.1 = some_same _ _ (sym c.in-Some.is ∙ c.in_ok-shape.ensures s.0 s.1 (is_well_formed s.0 s.1 s.2) s.3) in
    none_not_some (broken_rule c.in-Some.shape) c.in-Some-broken_rule.rule (ap broken_rule shape ∙ normal_into s.1 s.2.normal) some in (
      other,
      record {
        thread = h.thread;
        call = h.call;
        well_formed = h.well_formed;
        spelled = h.spelled;
        rule = c.in-Some-broken_rule.rule;
        broken = sym (ap broken_rule same) ∙ some;
        text = c.text_at-text.result.now;
        stands = ap (slice_get (texts_of c.args.texts.now)) (sym c.place.ensures.value) ∙ c.text_at-text.ensures;
        says = record { number_is = ap (λ place. c.args.number + place) c.place-2.ensures.value; field_is = c.field.ensures; wanted_is = refl; text_is = refl };
      },
    )
