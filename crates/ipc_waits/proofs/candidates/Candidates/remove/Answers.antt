use Rattle.std.proofs.Common.{◌≡◌, ◌<◌, ap, ◌∙◌, subst, sym, length, get_or, if◌then◌else◌, false, ◌==◌, arith}
use Rattle.ipc_waits.specs.Finding.{is_among}
use Rattle.ipc_waits.specs.Candidates.{ArePlaces}
use Rattle.ipc_waits.proofs.Dropped.{places_less, removed}
use Rattle.ipc_waits.proofs.candidates.Candidates.remove.Goals as goal

pub returns-in-Some : goal.returns-in-Some
returns-in-Some c k =
    let found = c.in-Some.ensures.found in
    let within = subst (λ l. c.in-Some.index < length l) (sym c.self.view_is) found.0 in
    let is = subst (λ l. get_or l c.in-Some.index c.args.place ≡ c.args.place) (sym c.self.view_is) found.1 in
    ap (λ l. is_among l k) c.remove.ensures.items
    ∙ removed c.self.inside.places.items c.in-Some.index c.args.place within is c.self.invariant.0 k
    ∙ ap (λ l. if c.args.place == k then false else is_among l k) c.self.view_is

pub invariant_of-self : goal.invariant_of-self
invariant_of-self c =
    let found = c.in-Some.ensures.found in
    let within = subst (λ l. c.in-Some.index < length l) (sym c.self.view_is) found.0 in
    let is = subst (λ l. get_or l c.in-Some.index c.args.place ≡ c.args.place) (sym c.self.view_is) found.1 in
    (subst ArePlaces (sym c.remove.ensures.items) (places_less c.self.inside.places.items c.in-Some.index c.args.place within is c.self.invariant.0), omega (arith, c.self.invariant.1, c.remove.ensures.capacity))
