-- The desks of the empty history.
use Rattle.std.proofs.lemmas.Bool.{false≢true}
use Rattle.std.proofs.lemmas.List.{length-replicate}
use Rattle.std.proofs.Common.{◌≡◌, refl, sym, ap, ◌∙◌, ℕ, zero, suc, List, [], length}
use Rattle.std.specs.Prelude.{replicate}
use Rattle.ipc_words.specs.Limits.{table_slots}
use Rattle.ipc_threads.specs.Slots.{live_of}
use Rattle.ipc_desks.specs.CallsOf.{is_busy, last_call, made_by, taken_by}
use Rattle.ipc_desks.specs.Desks.{Keeps, blank_desk, desk_at, desk_of}
use Rattle.ipc_desks.specs.declared.desk.Desk.{Desk}

desk_at-replicate : (n k : ℕ) → desk_at (replicate n blank_desk) k ≡ blank_desk
desk_at-replicate zero k = refl
desk_at-replicate (suc n) zero = refl
desk_at-replicate (suc n) (suc k) = desk_at-replicate n k

desk_none : (k : ℕ) → desk_of [] [] k ≡ blank_desk
unfolding desk_of live_of
desk_none k = refl

pub kept_none : (desks : List Desk) (n : ℕ) → desks ≡ replicate n blank_desk → n ≡ table_slots → Keeps [] [] desks
unfolding taken_by is_busy last_call made_by
kept_none desks n is all = record {
  size = ap length is ∙ (length-replicate n blank_desk ∙ all);
  table = λ k. rw is (desk_at-replicate n k ∙ sym (desk_none k));
  called = λ n among. absurd (false≢true among);
  over = λ n among. absurd (false≢true among);
  counted = λ t. refl;
}
