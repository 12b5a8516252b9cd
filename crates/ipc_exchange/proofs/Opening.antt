-- A thread that opens was not opened before, and so has not ended.
use Rattle.std.proofs.lemmas.Bool.{false≢true, false_from_ne_true}
use Rattle.std.proofs.Common.{◌≡◌, ℕ, ◌≤◌, true, false, eq-eqb, eqb-true, List, count_by, refl, arith}
use Rattle.std.specs.List.{list_any}
use Rattle.ipc_history.specs.Entries.{breaks, opens}
use Rattle.ipc_history.specs.Threads.{has_broken, was_opened, is_live}
use Rattle.ipc_history.specs.Legal.{Legal, is_admissible}
use Rattle.ipc_history.specs.declared.entry.Entry.{Entry}
use Rattle.ipc_history.specs.declared.entry.Entry.TheVariants.{Given}
use Rattle.ipc_history.specs.declared.entry.Input.TheVariants.{Opened, Broke}
use Rattle.ipc_laws.proofs.Endings.{live_opened}
use Rattle.ipc_laws.proofs.Histories.{admitted_at}
use Rattle.ipc_laws.proofs.OneLive.{opened_once}
use Rattle.ipc_laws.proofs.Pairing.{legal_before}
use Rattle.ipc_laws.proofs.Places.{Place, any_front, any_place}
use Rattle.ipc_core.proofs.BusyLaws.{counts_two}

-- what ends was live
broken_was_live : (P : List Entry) (thread : ℕ) → is_admissible P (Broke thread) ≡ true → is_live P thread ≡ true
unfolding is_admissible
broken_was_live P thread h = h

-- so what has ended was opened
ended_was_opened : (Q : List Entry) → Legal Q → (thread : ℕ) → has_broken Q thread ≡ true → list_any (opens thread) Q ≡ true
unfolding has_broken was_opened
ended_was_opened Q legal thread broken = let p = any_place (breaks thread) Q broken in go p.0 p.1 p.2
  where
    go : (e : Entry) → Place Q e → breaks thread e ≡ true → list_any (opens thread) Q ≡ true
    go (Given (Broke t)) at ends =
        let same : t ≡ thread = eqb-true t thread ends in
        let live = live_opened at.front t (broken_was_live at.front t (admitted_at Q legal (Broke t) at)) in
        any_front (opens thread) Q (Given (Broke t)) at (rw same at live)
    go _ at ends = absurd (false≢true ends)

-- and does not open again
pub unbroken : (H : List Entry) → Legal H → (thread space : ℕ) (at : Place H (Given (Opened thread space))) → has_broken at.front thread ≡ false
unbroken H legal thread space at = false_from_ne_true _ (λ broken.
    let before = legal_before H legal (Given (Opened thread space)) at in
    let twice : 2 ≤ count_by (opens thread) H = rw at.whole (counts_two (opens thread) at.front at.rest (Given (Opened thread space)) (ended_was_opened at.front before thread broken) (eq-eqb thread thread refl)) in
    omega (arith, twice, opened_once H legal thread))
