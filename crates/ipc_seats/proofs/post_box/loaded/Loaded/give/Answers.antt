use Rattle.std.proofs.Common.{◌≡◌, ◌∙◌, ap, sym}
use Rattle.ipc_connection.specs.Pens.{Page, given_next}
use Rattle.ipc_seats.proofs.Giving.{gives_one, knows_one}
use Rattle.ipc_seats.proofs.post_box.loaded.Loaded.give.Goals as goal

pub invariant_of-self : goal.invariant_of-self
invariant_of-self g c =
    let is : c.give.new.self ≡ given_next c.self.inside.pen.value c.args.given = c.give.ensures ∙ ap (λ (p : Page). given_next p c.args.given) c.deref_mut.ensures.value in (
      c.tell.ensures.number ∙ (c.self.invariant.0 ∙ sym (ap (λ (p : Page). p.number) is)),
      knows_one _ _ _ _ c.self.inside.pen.value _ c.tell.ensures.mine is c.self.invariant.1,
    )

pub returns-clause-gives : goal.returns-clause-gives
returns-clause-gives g c =
    let is : c.give.new.self ≡ given_next c.self.inside.pen.value c.args.given = c.give.ensures ∙ ap (λ (p : Page). given_next p c.args.given) c.deref_mut.ensures.value in
    gives_one _ _ _ _ c.self.inside.pen.value _ c.tell.ensures.log is c.self.invariant.0
