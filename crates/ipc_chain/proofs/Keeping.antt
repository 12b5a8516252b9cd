-- What is kept of a history stays of it.
use Rattle.std.proofs.Common.{◌≡◌, refl, sym, ap, ◌∙◌, subst, ap₂, ℕ, ◌+◌, ◌≤◌, Bool, true, false, nat_lt, List, [], ◌∷◌, ◌++◌, length, length-append, append-nil, drop, arith}
use Rattle.std.proofs.lemmas.List.{drop_all}
use Rattle.ipc_history.specs.Holding.{compacted, held_of, reached}
use Rattle.ipc_history.specs.HistoryParts.{HistoryParts}
use Rattle.ipc_history.specs.Legal.{Follows, Legal}
use Rattle.ipc_history.specs.declared.entry.Entry.{Entry}
use Rattle.ipc_history.proofs.HoldingLemmas.{reached_most}
use Rattle.ipc_laws.proofs.Settling.{legal_push}
use Rattle.ipc_threads.specs.PastSlots.{PastSlots}
use Rattle.ipc_compact.specs.Compact.{is_kept, kept_before, kept_of}
use Rattle.ipc_compact.specs.Places.{WasPlaced}
use Rattle.ipc_compact.proofs.PlaceLemmas.{to_the_end}
use Rattle.ipc_desks.specs.Desks.{Keeps as DesksKeep}
use Rattle.ipc_desks.specs.PastDesks.{PastDesks}
use Rattle.ipc_desks.specs.declared.desk.Desk.{Desk}
use Rattle.ipc_compact.specs.Kept.{KeptParts, TookOthers, passes}
use Rattle.ipc_compact.specs.PastPartners.{PastPartners}
use Rattle.ipc_core.specs.Compacting.{kept_to}
use Rattle.ipc_core.specs.CourseParts.{ComesIdle}
use Rattle.ipc_core.proofs.CompactLemmas.{among_more, kept_more, kept_none, kept_now, kept_of_all, kept_taken}
use Rattle.ipc_core.proofs.Commands.{nothing_legal}
use Rattle.ipc_core.proofs.BusyLaws.{still_among}
use Rattle.ipc_core.proofs.OtherCalls.{others_none, others_more}
use Rattle.ipc_chain.specs.Judging.{AreBooks, IsJudged}
use Rattle.ipc_chain.proofs.Others.{others_push}

-- one more entry
pub judged_more : (history more : HistoryParts) (slots slots_more : PastSlots) (desks desks_more : PastDesks) (partners partners_more : PastPartners) (takes : ℕ) (e : Entry) → IsJudged history slots desks partners takes
    → Follows history.entries e → ComesIdle history.entries desks.taken e → more.entries ≡ history.entries ++ e ∷ [] → more.held ≡ history.held
    → slots_more.past ≡ slots.past ++ e ∷ [] → desks_more.past ≡ desks.past ++ e ∷ [] → desks_more.taken ≡ desks.taken → partners_more.past ≡ partners.past ++ e ∷ []
    → IsJudged more slots_more desks_more partners_more takes
judged_more history more slots slots_more desks desks_more partners partners_more takes e was follows idle longer held of_slots of_desks same of_partners = record {
  legal = subst Legal (sym longer) (legal_push history.entries e was.legal follows);
  slots_of = of_slots ∙ (ap (λ l. l ++ e ∷ []) was.slots_of ∙ sym longer);
  desks_of = of_desks ∙ (ap (λ l. l ++ e ∷ []) was.desks_of ∙ sym longer);
  partners_of = of_partners ∙ (ap (λ l. l ++ e ∷ []) was.partners_of ∙ sym longer);
  others = subst (λ t. TookOthers more.entries t) (sym same) (subst (λ l. TookOthers l desks.taken) (sym longer) (others_push history.entries was.legal e desks.taken idle was.others));
  counted = was.counted ∙ sym (ap length same);
  kept = subst (λ t. WasPlaced more.entries t more.held.front more.held.places more.held.whole_from) (sym same)
      (subst (λ h. WasPlaced more.entries desks.taken h.front h.places h.whole_from) (sym held) (kept_more history.entries more.entries desks.taken history.held.front history.held.places history.held.whole_from e longer was.kept));
  within = (let within = was.within in omega (arith, within, ap (λ h. h.whole_from) held, ap length longer, length-append history.entries (e ∷ [])));
}

-- one more outcome taken, or none
pub judged_taken : (history : HistoryParts) (slots : PastSlots) (desks after : PastDesks) (partners : PastPartners) (takes : ℕ) (n : ℕ) → IsJudged history slots desks partners takes
    → after.past ≡ desks.past → after.taken ≡ desks.taken ++ n ∷ [] → IsJudged history slots after partners (takes + 1)
judged_taken history slots desks after partners takes n was past taken = record {
  legal = was.legal;
  slots_of = was.slots_of;
  desks_of = past ∙ was.desks_of;
  partners_of = was.partners_of;
  others = subst (TookOthers history.entries) (sym taken) (others_more history.entries desks.taken (desks.taken ++ n ∷ []) was.others (λ k among. still_among k desks.taken (n ∷ []) among));
  counted = (let counted = was.counted in omega (arith, counted, ap length taken, length-append desks.taken (n ∷ [])));
  kept = subst (λ t. WasPlaced history.entries t history.held.front history.held.places history.held.whole_from) (sym taken) (kept_taken history.entries desks.taken (desks.taken ++ n ∷ []) history.held.front history.held.places history.held.whole_from (among_more desks.taken n) was.kept);
  within = was.within;
}

pub judged_same : (history : HistoryParts) (slots : PastSlots) (desks after : PastDesks) (partners : PastPartners) (takes : ℕ) → IsJudged history slots desks partners takes
    → after.past ≡ desks.past → after.taken ≡ desks.taken → IsJudged history slots after partners takes
judged_same history slots desks after partners takes was past taken = record {
  legal = was.legal;
  slots_of = was.slots_of;
  desks_of = past ∙ was.desks_of;
  partners_of = was.partners_of;
  others = subst (TookOthers history.entries) (sym taken) was.others;
  counted = was.counted ∙ sym (ap length taken);
  kept = subst (λ t. WasPlaced history.entries t history.held.front history.held.places history.held.whole_from) (sym taken) was.kept;
  within = was.within;
}

pub judged_none : (history : HistoryParts) (slots : PastSlots) (desks : PastDesks) (partners : PastPartners) → history.entries ≡ [] → history.held ≡ record { front = []; places = []; whole_from = 0; mark = 0 } → slots.past ≡ [] → desks.past ≡ [] → desks.taken ≡ [] → partners.past ≡ []
    → IsJudged history slots desks partners 0
judged_none history slots desks partners empty held of_slots of_desks none of_partners = record {
  legal = subst Legal (sym empty) nothing_legal;
  slots_of = of_slots ∙ sym empty;
  desks_of = of_desks ∙ sym empty;
  partners_of = of_partners ∙ sym empty;
  others = subst (TookOthers history.entries) (sym none) (subst (λ l. TookOthers l []) (sym empty) others_none);
  counted = sym (ap length none);
  kept = subst (λ l. WasPlaced l desks.taken history.held.front history.held.places history.held.whole_from) (sym empty) (subst (λ t. WasPlaced [] t history.held.front history.held.places history.held.whole_from) (sym none) (subst (λ h. WasPlaced [] [] h.front h.places h.whole_from) (sym held) kept_none));
  within = (let start = ap (λ h. h.whole_from) held in omega (arith, start));
}

reached_end : (upto : ℕ) (history : HistoryParts) → history.held.whole_from ≤ length history.entries → upto ≡ length history.entries → reached upto history ≡ length history.entries
reached_end upto history within far = go (nat_lt upto history.held.whole_from) refl (nat_lt upto (length history.entries)) refl
  where
    go : (a : Bool) → nat_lt upto history.held.whole_from ≡ a → (b : Bool) → nat_lt upto (length history.entries) ≡ b → reached upto history ≡ length history.entries
    go true i b j = absurd (past upto history.held.whole_from (length history.entries) within far i)
      where
        past : (a k l : ℕ) → k ≤ l → a ≡ l → nat_lt a k ≡ true → ⊥
        past a k l within far h = grind arith
    go false i true j = absurd (past upto (length history.entries) far j)
      where
        past : (a b : ℕ) → a ≡ b → nat_lt a b ≡ true → ⊥
        past a b far h = grind arith
    go false i false j = rw (i, j) refl

-- compacted up to its end: what is held is what is kept
module _ (history after : HistoryParts) (slots : PastSlots) (desks : PastDesks) (partners : PastPartners) (takes : ℕ) (keeping : KeptParts) (was : IsJudged history slots desks partners takes) (same : (e : Entry) → passes keeping e ≡ is_kept history.entries desks.taken e) (upto : ℕ) (at_end : upto ≡ length history.entries) (entries : after.entries ≡ history.entries) (held : after.held ≡ compacted (passes keeping) upto history) where
  held_is : after.held ≡ kept_to desks.taken upto history
  held_is = held ∙ kept_of_all desks.taken (passes keeping) upto history was.legal same was.kept was.within

  pub judged_compacted : IsJudged after slots desks partners takes
  judged_compacted = record {
    legal = subst Legal (sym entries) was.legal;
    slots_of = was.slots_of ∙ sym entries;
    desks_of = was.desks_of ∙ sym entries;
    partners_of = was.partners_of ∙ sym entries;
    others = subst (λ l. TookOthers l desks.taken) (sym entries) was.others;
    counted = was.counted;
    kept = subst (λ l. WasPlaced l desks.taken after.held.front after.held.places after.held.whole_from) (sym entries)
        (subst (λ h. WasPlaced history.entries desks.taken h.front h.places h.whole_from) (sym held_is) (kept_now history.entries desks.taken _ _ (reached upto history) (reached_most history upto was.within) refl refl));
    within = (let most = reached_most history upto was.within in omega (arith, most, ap (λ h. h.whole_from) held_is, ap length entries));
  }

  reached_all : reached upto history ≡ length history.entries
  reached_all = reached_end upto history was.within at_end

  pub held_kept : held_of after ≡ kept_of history.entries desks.taken
  held_kept =
      let front : after.held.front ≡ kept_of history.entries desks.taken = ap (λ h. h.front) held_is ∙ (ap (kept_before history.entries desks.taken) reached_all ∙ to_the_end history.entries desks.taken) in
      let from : after.held.whole_from ≡ length history.entries = ap (λ h. h.whole_from) held_is ∙ reached_all in
      ap₂ (λ f k. f ++ drop k after.entries) front from
      ∙ (ap (λ l. kept_of history.entries desks.taken ++ drop (length history.entries) l) entries
      ∙ (ap (λ l. kept_of history.entries desks.taken ++ l) (drop_all (length history.entries) history.entries (omega arith))
      ∙ append-nil (kept_of history.entries desks.taken)))

-- so the books are such as may be
pub books_of : (history : HistoryParts) (slots : PastSlots) (desks : PastDesks) (partners : PastPartners) (takes : ℕ) (kept : List Desk) → IsJudged history slots desks partners takes → DesksKeep desks.past desks.taken kept → AreBooks history.entries desks.taken
books_of history slots desks partners takes kept was keeps =
    let here : DesksKeep history.entries desks.taken kept = subst (λ l. DesksKeep l desks.taken kept) was.desks_of keeps in
    record { legal = was.legal; called = here.called; over = here.over; others = was.others }
