-- There is one log, of which all that is known is true.
use Rattle.std.specs.Prelude.{◌≡◌, ◌==◌, ◌⊎◌, ℕ, List, [], ◌∷◌, ◌++◌, Bool, true, false, Contains, filter, ⊤}
use Rattle.std.specs.List.{IsDistinct}
use mathlib.Core.List.{IsPrefix}
use mathlib.Core.Option.{Option, some, none}
use lib.ListN.{get_elem?}
use Rattle.atomic_table.specs.Table.{State, Me, Step}
use Rattle.ipc_base.specs.LogViews.{fronting, gathering}
use Rattle.ipc_base.specs.declared.shared_log.rule.View.{View}

-- the numbers that owners got by the entries of a log
abbrev pub numbers_of : {E : Type 0} → (E → List ℕ) → List E → List ℕ
numbers_of begins [] = []
numbers_of begins (next ∷ log) = begins next ++ numbers_of begins log

-- the entries of the owner of a number
abbrev pub entries_of : {E : Type 0} → (E → ℕ → Bool) → ℕ → List E → List E
entries_of is_of number log = filter (λ e. is_of e number) log

-- an entry is nobody's
abbrev pub IsNobodys : {E : Type 0} → (E → ℕ → Bool) → E → Type 0
IsNobodys is_of e = (number : ℕ) → is_of e number ≡ false

-- an entry is that of the owner of a number, and of nobody else
abbrev pub IsOnlyOf : {E : Type 0} → (E → ℕ → Bool) → E → ℕ → Type 0
IsOnlyOf is_of e owner = (is_of e owner ≡ true) × ((number : ℕ) → ¬ (number ≡ owner) → is_of e number ≡ false)

abbrev pub first_of : List ℕ → ℕ
first_of [] = 0
first_of (n ∷ ns) = n

-- of two lists one begins the other
abbrev pub AreOne : {E : Type 0} → List E → List E → Type 0
AreOne xs ys = IsPrefix xs ys ⊎ IsPrefix ys xs

-- what two saw is of one log
abbrev pub ComparesTwo : {E : Type 0} → Step E → Me E (View E) → ℕ → Me E (View E) → Type 0
ComparesTwo s v found w = (w ≡ (fronting v.0.seen, v.1)) × AreOne v.0.seen v.0.before

-- of this log as it was the roll was told all ends of owners
pub record IsRolled {E : Type 0} (ends : E → List ℕ) (last log : List E) : Type 0 where
  pub began : IsPrefix last log
  pub ended : numbers_of ends last ≡ numbers_of ends log

module _ {E : Type 0} (is_of : E → ℕ → Bool) where
  -- what is known of an owner is true of what was seen of the log
  abbrev pub IsTrueOf : View E → List E → Type 0
  IsTrueOf v log = IsPrefix v.before log × (v.owns ≡ true → v.mine ≡ entries_of is_of v.number log)

  -- behind the entry with which an owner ends there is no entry of that owner
  abbrev pub EndsLast : (E → List ℕ) → List E → Type 0
  EndsLast ends [] = ⊤
  EndsLast ends (next ∷ log) = ((number : ℕ) → Contains (ends next) number → entries_of is_of number log ≡ []) × EndsLast ends log

  -- the same, and no owner ends twice
  pub record EndsOnce (ends : E → List ℕ) (log : List E) : Type 0 where
    pub over : EndsLast ends log
    pub once : IsDistinct (λ (a b : ℕ). a == b) (numbers_of ends log)

  -- what a pass knows of this log is true: one pass at most, that of this seat, knows it whole, one
  -- at most has the roll, and the number of an owner, who has not ended, stands in one pass
  pub record Fits (begins ends : E → List ℕ) (seat gatherer : ℕ) (holder : ℕ → ℕ) (log : List E) (by : ℕ) (v : View E) : Type 0 where
    pub seen : IsPrefix v.seen log
    pub before : IsPrefix v.before log
    pub whole : v.keeps ≡ true → (by ≡ seat) × (v.seen ≡ log)
    pub mine : v.owns ≡ true → v.mine ≡ entries_of is_of v.number log
    pub began : v.owns ≡ true → Contains (numbers_of begins log) v.number
    pub alone : v.owns ≡ true → by ≡ holder v.number
    pub lives : v.owns ≡ true → ¬ Contains (numbers_of ends log) v.number
    pub rolls : v.gathers ≡ true → (by ≡ gatherer) × IsRolled ends v.last log

  pub record Kept (begins ends : E → List ℕ) (views : List (View E)) : Type 0 where
    pub seat : ℕ
    pub gatherer : ℕ
    pub holder : ℕ → ℕ
    pub log : List E
    pub fits : (by : ℕ) (v : View E) → get_elem? views by ≡ some v → Fits begins ends seat gatherer holder log by v
    pub others : (number : ℕ) → ¬ Contains (numbers_of begins log) number → entries_of is_of number log ≡ []
    pub had : (number : ℕ) → Contains (numbers_of ends log) number → Contains (numbers_of begins log) number
    pub once : EndsOnce ends log

  abbrev pub KeepsOne : (E → List ℕ) → (E → List ℕ) → State E (View E) → Type 0
  KeepsOne begins ends s = Kept begins ends s.views

  abbrev pub said_of : Option E → List E
  said_of none = []
  said_of (some e) = e ∷ []

  -- these entries are added
  abbrev pub added : View E → List E → View E
  added v more = record {
    keeps = v.keeps;
    seen = v.seen ++ more;
    before = v.before;
    owns = v.owns;
    number = v.number;
    mine = v.mine ++ entries_of is_of v.number more;
    gathers = v.gathers;
    last = v.last;
  }

  abbrev pub AddsOne : Step E → Me E (View E) → ℕ → Me E (View E) → Type 0
  AddsOne s v found w = (w ≡ (added v.0 (said_of s.said), v.1)) × IsTrueOf v.0 v.0.seen

  -- these entries are added, from which on there is an owner
  abbrev pub begun : (E → List ℕ) → View E → List E → View E
  begun begins v more = record {
    keeps = v.keeps;
    seen = v.seen ++ more;
    before = [];
    owns = true;
    number = first_of (numbers_of begins more);
    mine = entries_of is_of (first_of (numbers_of begins more)) more;
    gathers = false;
    last = [];
  }

  abbrev pub BeginsOne : (E → List ℕ) → Step E → Me E (View E) → ℕ → Me E (View E) → Type 0
  BeginsOne begins s v found w = w ≡ (begun begins v.0 (said_of s.said), v.1)

  -- these entries are added, with which an owner ends; the roll is told
  abbrev pub EndsOne : (E → List ℕ) → Step E → Me E (View E) → ℕ → Me E (View E) → Type 0
  EndsOne ends s v found w =
      (w ≡ (gathering (v.0.seen ++ said_of s.said) (v.0.seen ++ said_of s.said), v.1)) × IsTrueOf v.0 v.0.seen × IsRolled ends v.0.last v.0.seen

  -- nothing is added; the roll is told
  abbrev pub CallsRoll : (E → List ℕ) → Step E → Me E (View E) → ℕ → Me E (View E) → Type 0
  CallsRoll ends s v found w = (w ≡ (gathering v.0.seen v.0.seen, v.1)) × IsRolled ends v.0.last v.0.seen × EndsOnce ends v.0.seen

  abbrev pub LooksOn : Step E → Me E (View E) → ℕ → Me E (View E) → Type 0
  LooksOn s v found w = (w ≡ v) × IsTrueOf v.0 v.0.seen
