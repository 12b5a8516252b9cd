-- What follows one history follows each that ends with the same base and the same kept entries.
use Rattle.std.proofs.Common.{◌≡◌, refl, sym, ap, ◌∙◌, subst, ℕ, ◌+◌, ◌≤◌, List, ◌∷◌, ◌++◌, map, inl, inr, arith}
use Rattle.std.proofs.lemmas.Bool.{cases_order}
use Rattle.ipc_words.specs.Limits.{table_slots}
use Rattle.ipc_history.specs.Legal.{Legal}
use Rattle.ipc_history.specs.declared.entry.Entry.{Entry}
use Rattle.ipc_compact.specs.Agree.{SameCompact}
use Rattle.ipc_compact.specs.Compact.{Base, base_of, from, last_version}
use Rattle.ipc_compact.proofs.Following.{follow_compact}
use Rattle.ipc_trace.specs.Parts.{PartParts}
use Rattle.ipc_chain.specs.Chains.{BeginsAt, FollowsEach, HasBefore}
use Rattle.ipc_chain.proofs.Walking.{chain_legal}
use Rattle.ipc_compact.proofs.SameBases.{from_same, last_none}

module _ (P Q : List Entry) (legal : Legal P) (legal' : Legal Q) where
  version_none : (P : List Entry) → Legal P → (k : ℕ) → table_slots ≤ k → last_version P k ≡ 0
  unfolding last_version
  version_none P legal k h = rw (last_none P legal k h) refl

  versions_same : map (last_version P) (from 0 table_slots) ≡ map (last_version Q) (from 0 table_slots) → (k : ℕ) → last_version P k ≡ last_version Q k
  versions_same h k = elim (cases_order k table_slots) [
    | inl same ↦ above (omega (arith, same))
    | inr (inl less) ↦ subst (λ j. last_version P j ≡ last_version Q j) (omega arith) (from_same (last_version P) (last_version Q) 0 table_slots h k less)
    | inr (inr more) ↦ above (omega (arith, more))
  ]
    where
      above : table_slots ≤ k → last_version P k ≡ last_version Q k
      above h = version_none P legal k h ∙ sym (version_none Q legal' k h)

  same_begun : (base : Base) (kept : List Entry) (one other old old' : List ℕ) (told told' : ℕ) → BeginsAt P old told base kept one → BeginsAt Q old' told' base kept other → SameCompact P Q one other
  unfolding base_of
  same_begun base kept one other old old' told told' begins begins' =
      let same = begins.base_is ∙ sym begins'.base_is in
      record {
        kept = begins.kept_is ∙ sym begins'.kept_is;
        over = ap (λ (b : Base). b.over) same;
        calls = ap (λ (b : Base). b.calls) same;
        versions = versions_same (ap (λ (b : Base). b.versions) same);
      }

-- so do the entries of a part
pub each_follows : (first : PartParts) (parts : List PartParts) → HasBefore (first ∷ parts) → FollowsEach first
each_follows first parts (P, (legal, (one, begins, rest))) Q old other told legal' begins' =
    follow_compact P Q one other legal legal' begins.quiet begins'.quiet
    (same_begun P Q legal legal' first.base first.kept one other _ old _ told begins begins') first.entries
    (chain_legal (P ++ first.entries) one first.base.takes parts rest)
