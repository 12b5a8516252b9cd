-- Two histories whose bases and kept entries are the same have one compact.
use Rattle.std.proofs.lemmas.Bool.{ne_eqb}
use Rattle.std.proofs.lemmas.Bool.Decides.{nat_tests}
use Rattle.std.proofs.Common.{◌≡◌, refl, sym, ap, ◌∙◌, subst, ℕ, zero, suc, ◌+◌, ◌<◌, ◌≤◌, ◌&&◌, Bool, true, List, ◌++◌, map, get_or, drop, None, nat_le, inl, inr, arith}
use Rattle.std.proofs.lemmas.Bool.{cases_order}
use Rattle.ipc_words.specs.Limits.{max_thread_number, table_slots}
use Rattle.ipc_words.specs.ThreadId.{number_of}
use Rattle.ipc_history.specs.Words.{last_some}
use Rattle.ipc_history.specs.Entries.{thread_in}
use Rattle.ipc_history.specs.Legal.{Legal, Quiet, Follows, is_admissible, may_open}
use Rattle.ipc_history.specs.declared.entry.Entry.{Entry}
use Rattle.ipc_history.specs.declared.entry.Entry.TheVariants.{Given, Written}
use Rattle.ipc_history.specs.declared.entry.Input.TheVariants.{At, Opened, Called, Exreg, Broke, Moved}
use Rattle.ipc_laws.proofs.Histories.{legal_induction}
use Rattle.ipc_laws.proofs.WordLemmas.{last_some_push}
use Rattle.ipc_compact.specs.Compact.{from, last_version, base_of, compact}
use Rattle.ipc_compact.specs.Agree.{SameCompact}
use Rattle.ipc_compact.proofs.Following.{follow_compact}

pub from_same : (f g : ℕ → ℕ) (k c : ℕ) → map f (from k c) ≡ map g (from k c) → (i : ℕ) → i < c → f (k + i) ≡ g (k + i)
from_same f g k zero h i l = absurd (omega (arith, l))
from_same f g k (suc c) h zero l = subst (λ j. f j ≡ g j) (omega arith) (ap (λ l. get_or l 0 0) h)
from_same f g k (suc c) h (suc i) l = subst (λ j. f j ≡ g j) (omega arith) (from_same f g (k + 1) c (ap (λ l. drop 1 l) h) i (omega (arith, l)))

second_of : (a b c d e f : Bool) → (a && b && c && d && e && f) ≡ true → b ≡ true
second_of a b c d e f h = grind arith

low : (n : ℕ) → nat_le n max_thread_number ≡ true → n ≤ max_thread_number
low n h = grind (arith, nat_tests)

none_in : (P : List Entry) (e : Entry) → Follows P e → (k : ℕ) → table_slots ≤ k → thread_in k e ≡ None
unfolding Follows is_admissible may_open
none_in P (Given (Opened t space)) follows k h =
    let few : number_of t ≤ max_thread_number = low (number_of t) (second_of (nat_le 1 (number_of t)) (nat_le (number_of t) max_thread_number) _ _ _ _ follows.1) in
    rw (ne_eqb (number_of t) k (λ same. omega (arith, few, h, same))) refl
none_in P (Given (At moment)) follows k h = refl
none_in P (Given (Called n thread call)) follows k h = refl
none_in P (Given (Exreg thread target control)) follows k h = refl
none_in P (Given (Broke thread)) follows k h = refl
none_in P (Given (Moved n count)) follows k h = refl
none_in P (Written output) follows k h = refl

pub last_none : (P : List Entry) → Legal P → (k : ℕ) → table_slots ≤ k → last_some (thread_in k) P ≡ None
last_none = legal_induction (λ P. (k : ℕ) → table_slots ≤ k → last_some (thread_in k) P ≡ None) (λ k h. refl) (λ P e legal before follows k h. last_some_push (thread_in k) P e ∙ rw (none_in P e follows k h) (before k h))

version_none : (P : List Entry) → Legal P → (k : ℕ) → table_slots ≤ k → last_version P k ≡ 0
unfolding last_version
version_none P legal k h = rw (last_none P legal k h) refl

versions_same : (P Q : List Entry) → Legal P → Legal Q → map (last_version P) (from 0 table_slots) ≡ map (last_version Q) (from 0 table_slots) → (k : ℕ) → last_version P k ≡ last_version Q k
versions_same P Q legal legal' h k = elim (cases_order k table_slots) [
  | inl same ↦ above (omega (arith, same))
  | inr (inl less) ↦ subst (λ j. last_version P j ≡ last_version Q j) (omega arith) (from_same (last_version P) (last_version Q) 0 table_slots h k less)
  | inr (inr more) ↦ above (omega (arith, more))
]
  where
    above : table_slots ≤ k → last_version P k ≡ last_version Q k
    above h = version_none P legal k h ∙ sym (version_none Q legal' k h)

pub same_compact : (P Q : List Entry) (one other : List ℕ) → Legal P → Legal Q → compact P one ≡ compact Q other → SameCompact P Q one other
unfolding base_of
same_compact P Q one other legal legal' same = record {
  kept = ap (λ c. c.kept) same;
  over = ap (λ c. c.base.over) same;
  calls = ap (λ c. c.base.calls) same;
  versions = versions_same P Q legal legal' (ap (λ c. c.base.versions) same);
}

pub follow : (P Q : List Entry) (one other : List ℕ) → Legal P → Legal Q → Quiet P → Quiet Q → compact P one ≡ compact Q other → (X : List Entry) → Legal (P ++ X) → Legal (Q ++ X)
follow P Q one other legal legal' quiet quiet' same X h = follow_compact P Q one other legal legal' quiet quiet' (same_compact P Q one other legal legal' same) X h
