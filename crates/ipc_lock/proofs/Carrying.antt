-- Pens go round until none is out.
use Rattle.std.proofs.Common.{◌≡◌, ℕ, suc, List, Option, Some, None, Bool, true, false, MatchBool, refl, subst}
use Rattle.std.specs.Prelude.{◌&&◌, is_some, not, ⊤}
use Rattle.ipc_core.specs.KernelParts.{KernelParts}
use Rattle.ipc_seats.specs.Boxes.{BoxParts}
use Rattle.ipc_seats.specs.Places.{OnlyWrites, TakesBack}
use Rattle.ipc_seats.specs.declared.errands.Errands.{Errands}
use Rattle.ipc_lock.specs.Rounds.{Carries, Rounds}

-- so many rounds
abbrev pub SomeRounds : {C P : Type 0} → Errands C P → Errands C P → Type 0
SomeRounds errands errands_now = (count : ℕ) × Rounds count errands errands_now

pub no_rounds : {C P : Type 0} (errands : Errands C P) → SomeRounds errands errands
no_rounds errands = (0, refl)

-- and one more
pub round_more : {C P : Type 0} (errands between written errands_now : Errands C P) (old new : KernelParts) (boxes after : List BoxParts)
    → SomeRounds errands between → OnlyWrites between.first written.first → OnlyWrites between.second written.second → OnlyWrites between.third written.third
    → TakesBack old new boxes after written errands_now → SomeRounds errands errands_now
round_more errands between written errands_now old new boxes after h first second third takes = (
  suc h.0,
  (
    between,
    h.1,
    record {
      written = written;
      old = old;
      new = new;
      boxes = boxes;
      boxes_now = after;
      writes = record { first = first; second = second; third = third };
      takes = takes;
    },
  ),
)

left_true : (a b : Bool) → a && b ≡ true → a ≡ true
left_true true b h = refl
left_true false b h = h

right_true : (a b : Bool) → a && b ≡ true → b ≡ true
right_true true b h = h
right_true false b h = absurd (subst (λ (c : Bool). MatchBool c ⊥ ⊤) h tt)

is_none : {A : Type 0} (o : Option A) → not (is_some o) ≡ true → o ≡ None
is_none None h = refl
is_none (Some x) h = absurd (subst (λ (c : Bool). MatchBool c ⊥ ⊤) h tt)

-- until none was out
pub all_carried : {C P : Type 0} (errands errands_now : Errands C P) → SomeRounds errands errands_now
    → not (is_some errands_now.first) && not (is_some errands_now.second) && not (is_some errands_now.third) ≡ true → Carries errands errands_now
all_carried errands errands_now h none =
    let both : not (is_some errands_now.first) && not (is_some errands_now.second) ≡ true =
    left_true (not (is_some errands_now.first) && not (is_some errands_now.second)) (not (is_some errands_now.third)) none in
    record {
      count = h.0;
      rounds = h.1;
      none = record {
        first = is_none errands_now.first (left_true (not (is_some errands_now.first)) (not (is_some errands_now.second)) both);
        second = is_none errands_now.second (right_true (not (is_some errands_now.first)) (not (is_some errands_now.second)) both);
        third = is_none errands_now.third (right_true (not (is_some errands_now.first) && not (is_some errands_now.second)) (not (is_some errands_now.third)) none);
      };
    }
