-- A history that is judged entry by entry, and a chain of parts behind it.
use Rattle.std.proofs.Common.{◌≡◌, refl, sym, ap, ◌∙◌, subst, ℕ, ◌<◌, List, [], ◌∷◌, ◌++◌, append_assoc, append-nil, get_or, length, length-append, take, Option, inl, inr, arith}
use Rattle.std.proofs.lemmas.Bool.{false≢true}
use Rattle.ipc_history.specs.Legal.{Follows, Legal, Quiet}
use Rattle.ipc_history.specs.NextOutput.{next_output}
use Rattle.ipc_history.specs.declared.entry.Entry.{Entry}
use Rattle.ipc_history.specs.declared.entry.Output.{Output}
use Rattle.ipc_check.specs.Faults.{IsFirstFaultAfter}
use Rattle.ipc_check.proofs.After.{fault_after}
use Rattle.ipc_compact.specs.Compact.{Base, base_of, kept_of}
use Rattle.ipc_compact.specs.Later.{AreAmong}
use Rattle.ipc_trace.specs.Parts.{PartParts}
use Rattle.ipc_chain.specs.Chains.{BeginsAt, ChainFrom, IsChain, IsCount, begun, callers_kept}
use Rattle.ipc_chain.specs.Judging.{AreBooks, ChainParts, GoesOn, IsFirstFile, IsSure, Joins, TakesSure, Walks}
use Rattle.ipc_chain.proofs.Others.{sure_on}

pub walks_none : (start : ChainParts) → Walks start start []
walks_none start = record {
  past = sym (append-nil start.past);
  taken = record { more = λ n among. among; sure = λ n among. inl among };
  told = refl;
}

pub walks_more : (start between after : ChainParts) (entries : List Entry) (e : Entry) → Legal between.past → Walks start between entries → GoesOn between after e → Walks start after (entries ++ e ∷ [])
walks_more start between after entries e legal walks on = record {
  past = on.past ∙ (ap (λ l. l ++ e ∷ []) walks.past ∙ append_assoc start.past entries (e ∷ []));
  taken = record {
    more = λ n among. on.taken.more n (walks.taken.more n among);
    sure = λ n among. elim (on.taken.sure n among) [
      | inr sure ↦ inr sure
      | inl was ↦ elim (walks.taken.sure n was) [
        | inl first ↦ inl first
        | inr sure ↦ inr (subst (λ l. IsSure l n) (sym on.past) (sure_on between.past legal e on.follows n sure))
      ]
    ];
  };
  told = on.told ∙ walks.told;
}

-- the entries of the first file so far, and one more
pub first_more : (old new : ChainParts) (e : Entry) → Legal old.past → GoesOn old new e → IsFirstFile old → IsFirstFile new
first_more old new e legal on first = record {
  sure = record {
    more = λ n among. on.taken.more n (first.sure.more n among);
    sure = λ n among. elim (on.taken.sure n among) [
      | inr sure ↦ inr sure
      | inl was ↦ elim (first.sure.sure n was) [
        | inl none ↦ inl none
        | inr sure ↦ inr (subst (λ l. IsSure l n) (sym on.past) (sure_on old.past legal e on.follows n sure))
      ]
    ];
  };
  untold = on.told ∙ first.untold;
}

-- and where nothing came
pub first_same : (old new : ChainParts) → new.past ≡ old.past → new.taken ≡ old.taken → new.told ≡ old.told → IsFirstFile old → IsFirstFile new
first_same old new past taken told first = record {
  sure = subst (λ l. TakesSure l [] new.taken) (sym past) (subst (λ t. TakesSure old.past [] t) (sym taken) first.sure);
  untold = told ∙ first.untold;
}

-- nothing has come yet
pub first_none : (new : ChainParts) → new.past ≡ [] → new.taken ≡ [] → new.told ≡ 0 → IsFirstFile new
first_none new past taken told = record {
  sure = subst (λ t. TakesSure new.past [] t) (sym taken) (record { more = λ n among. among; sure = λ n among. inl among });
  untold = told;
}

-- a chain is a legal history
pub chain_legal : (H : List Entry) (taken : List ℕ) (told : ℕ) (parts : List PartParts) → ChainFrom H taken told parts → Legal H
chain_legal H taken told [] chain = chain
chain_legal H taken told (part ∷ parts) chain = chain.0

-- it goes on so where fewer outcomes are known to have been taken
pub chain_less : (H : List Entry) (less taken : List ℕ) (told : ℕ) (parts : List PartParts) → AreAmong less taken → ChainFrom H taken told parts → ChainFrom H less told parts
chain_less H less taken told [] among chain = chain
chain_less H less taken told (part ∷ parts) among (legal, (took, begins, rest)) = (
  legal,
  (
    took,
    record {
      quiet = begins.quiet;
      may = record { more = λ n h. begins.may.more n (among n h); called = begins.may.called; over = begins.may.over; others = begins.may.others };
      kept_is = begins.kept_is;
      base_is = begins.base_is;
      count = begins.count;
    },
    rest,
  ),
)

-- and where more are that surely were
pub chain_sure : (H : List Entry) (old new : List ℕ) (told : ℕ) (parts : List PartParts) → TakesSure H old new → ChainFrom H old told parts → ChainFrom H new told parts
chain_sure H old new told [] takes chain = chain
chain_sure H old new told (part ∷ parts) takes (legal, (took, begins, rest)) = (
  legal,
  (
    took,
    record {
      quiet = begins.quiet;
      may = record {
        more = λ n h. elim (takes.sure n h) [ inl was ↦ begins.may.more n was | inr sure ↦ sure took begins.may.others ];
        called = begins.may.called;
        over = begins.may.over;
        others = begins.may.others;
      };
      kept_is = begins.kept_is;
      base_is = begins.base_is;
      count = begins.count;
    },
    rest,
  ),
)

module _ (old between new : ChainParts) (part : PartParts) (rest : List PartParts) (legal : Legal old.past) (joins : Joins old between part.base part.kept) where
  -- a part joins, and its entries follow
  module _ (walks : Walks between new part.entries) where
    whole : new.past ≡ old.past ++ part.entries
    whole = walks.past ∙ ap (λ l. l ++ part.entries) joins.past

    pub part_joined : ChainFrom old.past old.taken old.told (part ∷ rest) → ChainFrom new.past new.taken new.told rest
    part_joined (_, (took, begins, chain)) =
        let less = chain_less (old.past ++ part.entries) between.taken took part.base.takes rest (joins.least took begins) chain in
        let here : ChainFrom new.past between.taken new.told rest = subst (λ l. ChainFrom l between.taken new.told rest) (sym whole) (subst (λ k. ChainFrom (old.past ++ part.entries) between.taken k rest) (sym (walks.told ∙ joins.told)) less) in
        chain_sure new.past between.taken new.taken new.told rest walks.taken here

    pub part_stood : ChainFrom new.past new.taken new.told rest → ChainFrom old.past old.taken old.told (part ∷ rest)
    part_stood chain =
        let less = chain_less new.past between.taken new.taken new.told rest walks.taken.more chain in
        (legal, (between.taken, joins.begins, subst (λ l. ChainFrom l between.taken part.base.takes rest) whole (subst (λ k. ChainFrom new.past between.taken k rest) (walks.told ∙ joins.told) less)))

  -- or an entry does not follow
  pub part_broken : (Legal (between.past ++ part.entries) → ⊥) → ChainFrom old.past old.taken old.told (part ∷ rest) → ⊥
  part_broken refused (_, (took, begins, chain)) =
      refused (subst (λ l. Legal (l ++ part.entries)) (sym joins.past) (chain_legal (old.past ++ part.entries) took part.base.takes rest chain))

  -- before its entries
  pub part_begun : ChainFrom old.past old.taken old.told (begun part ∷ [])
  part_begun = (legal, (between.taken, joins.begins, subst Legal (sym (append-nil old.past)) legal))

-- Where an iterator over a list stands

module _ (X done rest : List Entry) (e : Entry) (i : ℕ) (whole : X ≡ done ++ e ∷ rest) (place : i ≡ length done) where
  pub stands_within : i < length X
  stands_within = omega (arith, place, ap length whole, length-append done (e ∷ rest))

  pub stands_at : e ≡ get_or X i e
  stands_at = sym (ap (λ l. get_or l i e) whole ∙ (ap (λ k. get_or (done ++ e ∷ rest) k e) place ∙ found done))
    where
      found : (done : List Entry) → get_or (done ++ e ∷ rest) (length done) e ≡ e
      found [] = refl
      found (x ∷ done) = found done

  pub stands_front : take i X ≡ done
  stands_front = ap (take i) whole ∙ (ap (λ k. take k (done ++ e ∷ rest)) place ∙ front done)
    where
      front : (done : List Entry) → take (length done) (done ++ e ∷ rest) ≡ done
      front [] = refl
      front (x ∷ done) = ap (λ l. x ∷ l) (front done)

-- the first entry that does not follow
pub first_fault : (start now : ChainParts) (X done rest : List Entry) (e : Entry) (i : ℕ) (expected : Option Output) → X ≡ done ++ e ∷ rest → i ≡ length done → Legal now.past → Walks start now done → (Follows now.past e → ⊥) → expected ≡ next_output now.past → IsFirstFaultAfter start.past X i expected
first_fault start now X done rest e i expected whole place legal walks refused told =
    let front = stands_front X done rest e i whole place in
    let same : now.past ≡ start.past ++ take i X = walks.past ∙ ap (λ l. start.past ++ l) (sym front) in
    fault_after start.past [] X now.past i e (stands_within X done rest e i whole place) (stands_at X done rest e i whole place) same expected (subst Legal same legal) refused told

-- the entries of the first file follow: a chain of all files is one behind them
module _ (start mid : ChainParts) (entries : List Entry) (past : start.past ≡ []) (none : start.taken ≡ []) (untold : start.told ≡ 0) (walks : Walks start mid entries) (parts : List PartParts) where
  past_is : mid.past ≡ entries
  past_is = walks.past ∙ ap (λ l. l ++ entries) past

  told_is : mid.told ≡ 0
  told_is = walks.told ∙ untold

  pub first_on : ChainFrom entries [] 0 parts → ChainFrom mid.past mid.taken mid.told parts
  first_on chain =
      chain_sure mid.past [] mid.taken mid.told parts (subst (λ t. TakesSure mid.past t mid.taken) none walks.taken)
      (subst (λ l. ChainFrom l [] mid.told parts) (sym past_is) (subst (λ k. ChainFrom entries [] k parts) (sym told_is) chain))

  pub first_back : ChainFrom mid.past mid.taken mid.told parts → ChainFrom entries [] 0 parts
  first_back chain =
      subst (λ k. ChainFrom entries [] k parts) told_is (subst (λ l. ChainFrom l [] mid.told parts) past_is
      (chain_less mid.past [] mid.taken mid.told parts (λ n among. absurd (false≢true among)) chain))

-- behind the entries of a first file stands what stands behind a trace of them
module _ (chain : ChainParts) (first : IsFirstFile chain) (parts : List PartParts) where
  pub behind_first : ChainFrom chain.past chain.taken chain.told parts → IsChain chain.past parts
  behind_first behind =
      subst (λ k. ChainFrom chain.past [] k parts) first.untold
      (chain_less chain.past [] chain.taken chain.told parts (λ n among. absurd (false≢true among)) behind)

  pub first_behind : IsChain chain.past parts → ChainFrom chain.past chain.taken chain.told parts
  first_behind whole =
      chain_sure chain.past [] chain.taken chain.told parts first.sure
      (subst (λ k. ChainFrom chain.past [] k parts) (sym first.untold) whole)

-- a part behind a chain makes it longer
pub chain_longer : (chain : ChainParts) (part : PartParts) (taken : List ℕ) → Legal chain.past → part.entries ≡ [] → BeginsAt chain.past chain.taken chain.told part.base part.kept taken → ChainFrom chain.past chain.taken chain.told (part ∷ [])
chain_longer chain part taken legal empty begins = (legal, (taken, begins, subst Legal (sym (append-nil chain.past) ∙ ap (λ l. chain.past ++ l) (sym empty)) legal))

-- the part that begins where a history ends
pub begun_at : (old : ChainParts) (base made : Base) (kept : List Entry) → Quiet old.past → AreBooks old.past old.taken → kept ≡ kept_of old.past old.taken → base ≡ base_of old.past old.taken → record base { takes = made.takes } ≡ made → IsCount old.past old.told (length (callers_kept made kept)) made.takes → BeginsAt old.past old.taken old.told made kept old.taken
begun_at old base made kept quiet books same is rebuilt count = record {
  quiet = quiet;
  may = record { more = λ n among. among; called = books.called; over = books.over; others = books.others };
  kept_is = sym same;
  base_is = ap (λ (b : Base). record b { takes = made.takes }) (sym is) ∙ rebuilt;
  count = count;
}

pub rebuilt : (base made : Base) (v d o : List ℕ) (m n t : ℕ) → made ≡ record { versions = v; dropped = d; moment = m; calls = n; takes = t; over = o } → v ≡ base.versions → d ≡ base.dropped → m ≡ base.moment → n ≡ base.calls → o ≡ base.over → record base { takes = made.takes } ≡ made
rebuilt base made v d o m n t is versions dropped moment calls over =
    subst (λ (b : Base). record base { takes = b.takes } ≡ b) (sym is)
    (λ i. record { versions = sym versions i; dropped = sym dropped i; moment = sym moment i; calls = sym calls i; takes = t; over = sym over i })

-- the same count, told in other words
pub count_moved : (H K : List Entry) (told before n m takes : ℕ) → K ≡ H → before ≡ told → m ≡ n → IsCount K before m takes → IsCount H told n takes
count_moved H K told before n m takes same was number count =
    subst (λ l. IsCount l told n takes) same (subst (λ t. IsCount K t n takes) was (subst (λ k. IsCount K before k takes) number count))
