-- What a pass knows stays true.
use Rattle.std.proofs.Common.{◌≡◌, ◌≢◌, ℕ, List, [], ◌∷◌, ◌++◌, Bool, true, false, true≢false, sym, ap, ◌∙◌, ⊎_elim}
use Rattle.std.specs.Prelude.{Contains}
use Rattle.ipc_base.specs.declared.shared_log.rule.View.{View}
use Rattle.ipc_base.specs.LogRules.{Fits, IsRolled, numbers_of}
use Rattle.ipc_base.proofs.LogRows.{entries_same, given, given_other, numbers_same, prefix_on, still_there, there_or}

pub off : {W : Type 0} → false ≡ true → W
off e = absurd (true≢false (sym e))

-- an entry came with which nobody ends
pub rolled_on : {E : Type 0} (ends : E → List ℕ) (last log : List E) (e : E) → ends e ≡ [] → IsRolled ends last log → IsRolled ends last (log ++ e ∷ [])
rolled_on ends last log e quiet h = record { began = prefix_on last log (e ∷ []) h.began; ended = h.ended ∙ sym (numbers_same ends log e quiet) }

module _ {E : Type 0} (is_of : E → ℕ → Bool) (begins ends : E → List ℕ) where
  -- another pass, where an entry came that is not its own
  pub fits_on : (seat gatherer : ℕ) (holder : ℕ → ℕ) (log : List E) (e : E) (j : ℕ) (u : View E)
      → (u.keeps ≡ true → ⊥) → (u.owns ≡ true → is_of e u.number ≡ false) → (u.owns ≡ true → Contains (ends e) u.number → ⊥) → (u.gathers ≡ true → ends e ≡ [])
      → Fits is_of begins ends seat gatherer holder log j u → Fits is_of begins ends seat gatherer holder (log ++ e ∷ []) j u
  fits_on seat gatherer holder log e j u not_keeper not_its alive quiet f = record {
    seen = prefix_on u.seen log (e ∷ []) f.seen;
    before = prefix_on u.before log (e ∷ []) f.before;
    whole = λ k. absurd (not_keeper k);
    mine = λ o. f.mine o ∙ sym (entries_same is_of u.number log e (not_its o));
    began = λ o. still_there begins log (e ∷ []) u.number (f.began o);
    alone = f.alone;
    lives = λ o there. ⊎_elim (f.lives o) (alive o) (there_or ends log e u.number there);
    rolls = λ g. ((f.rolls g).0, rolled_on ends u.last log e (quiet g) (f.rolls g).1);
  }

  -- another pass, where a number that is not its own goes to some pass
  pub fits_given : (seat gatherer : ℕ) (holder : ℕ → ℕ) (log : List E) (number by j : ℕ) (u : View E)
      → (u.owns ≡ true → u.number ≢ number)
      → Fits is_of begins ends seat gatherer holder log j u → Fits is_of begins ends seat gatherer (given holder number by) log j u
  fits_given seat gatherer holder log number by j u apart f = record {
    seen = f.seen;
    before = f.before;
    whole = f.whole;
    mine = f.mine;
    began = f.began;
    alone = λ o. f.alone o ∙ sym (given_other holder number by u.number (apart o));
    lives = f.lives;
    rolls = f.rolls;
  }

  -- another pass, where the roll goes to some pass
  pub fits_rolled : (seat gatherer by : ℕ) (holder : ℕ → ℕ) (log : List E) (j : ℕ) (u : View E)
      → j ≢ gatherer → Fits is_of begins ends seat gatherer holder log j u → Fits is_of begins ends seat by holder log j u
  fits_rolled seat gatherer by holder log j u apart f = record {
    seen = f.seen;
    before = f.before;
    whole = f.whole;
    mine = f.mine;
    began = f.began;
    alone = f.alone;
    lives = f.lives;
    rolls = λ g. absurd (apart (f.rolls g).0);
  }

  -- one that is not the holder of a number has another one
  pub is_apart : (seat gatherer : ℕ) (holder : ℕ → ℕ) (log : List E) (number by j : ℕ) (u : View E)
      → by ≡ holder number → j ≢ by → Fits is_of begins ends seat gatherer holder log j u → u.owns ≡ true → u.number ≢ number
  is_apart seat gatherer holder log number by j u has apart f o same = apart (f.alone o ∙ (ap holder same ∙ sym has))
