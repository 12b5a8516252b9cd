-- What is known of a log, and by whom.
use Rattle.std.specs.Prelude.{ℕ, List, [], get_or, true, false}
pub use Rattle.atomic_table.specs.Seated.{TableId}
use Rattle.ipc_base.specs.declared.shared_log.rule.View.{View}

-- the name of no table
abbrev pub no_table : TableId
no_table = record { words = 0; slots = 0; views_name = 0; atom = 0; block = 0; offset = 0; slot_names = [] }

-- the table of the log of this kind, among those of a program
abbrev pub table_of : ℕ → List TableId → TableId
table_of kind tables = get_or tables kind no_table

-- what an owner knows: its number, the entries of the log that are its own, and the log so far as
-- it was seen
pub record Known (E : Type 0) : Type 0 where
  pub number : ℕ
  pub mine : List E
  pub seen : List E

module _ {E : Type 0} where
  -- knows the whole log
  abbrev pub keeping : List E → View E
  keeping log = record { keeps = true; seen = log; before = []; owns = false; number = 0; mine = []; gathers = false; last = [] }

  -- knows the whole log, and has the roll, which says what the log was
  abbrev pub gathering : List E → List E → View E
  gathering log last = record { keeps = true; seen = log; before = []; owns = false; number = 0; mine = []; gathers = true; last = last }

  -- has the roll
  abbrev pub rolling : List E → View E
  rolling last = record { keeps = false; seen = []; before = []; owns = false; number = 0; mine = []; gathers = true; last = last }

  abbrev pub owning : Known E → View E
  owning own = record { keeps = false; seen = own.seen; before = []; owns = true; number = own.number; mine = own.mine; gathers = false; last = [] }

  abbrev pub fronting : List E → View E
  fronting seen = record { keeps = false; seen = seen; before = []; owns = false; number = 0; mine = []; gathers = false; last = [] }

  abbrev pub nobody : View E
  nobody = record { keeps = false; seen = []; before = []; owns = false; number = 0; mine = []; gathers = false; last = [] }

  abbrev pub known_of : View E → Known E
  known_of v = record { number = v.number; mine = v.mine; seen = v.seen }

  -- who knows the whole log took an owner in
  abbrev pub joined : View E → View E → View E
  joined v w =
      record { keeps = v.keeps; seen = v.seen; before = w.seen; owns = w.owns; number = w.number; mine = w.mine; gathers = v.gathers; last = v.last }

  -- who knows the whole log took the roll in
  abbrev pub enrolled : View E → View E → View E
  enrolled v w = record { keeps = v.keeps; seen = v.seen; before = []; owns = false; number = 0; mine = []; gathers = w.gathers; last = w.last }

  -- what two saw
  abbrev pub meeting : View E → View E → View E
  meeting v w = record { keeps = false; seen = v.seen; before = w.seen; owns = false; number = 0; mine = []; gathers = false; last = [] }

  -- what is given back: the owner, with all that was seen
  abbrev pub parted : View E → View E
  parted v = record { keeps = false; seen = v.seen; before = []; owns = v.owns; number = v.number; mine = v.mine; gathers = false; last = [] }
