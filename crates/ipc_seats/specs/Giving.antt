-- The log of all that connections were given, and what a pen knows of it.
use Rattle.std.specs.Prelude.{◌≡◌, ◌==◌, ◌++◌, ◌∷◌, [], ℕ, List, Bool, Option, Some, None, if◌then◌else◌}
use Rattle.ipc_connection.specs.Pens.{Follows, Page}
use Rattle.ipc_connection.specs.declared.given.Given.{Given}
use Rattle.ipc_base.specs.LogRules.{numbers_of}
use Rattle.ipc_seats.specs.declared.events.Gave.{Gave}
use Rattle.ipc_seats.specs.declared.events.Gave.TheVariants as gave
use Rattle.ipc_seats.specs.declared.events.Gift.{Gift}

-- the last one of a list, or this one where it has none
abbrev pub last_of : Option Given → List Given → Option Given
last_of last [] = last
last_of last (next ∷ rest) = last_of (Some next) rest

-- what the connection of a number was given, if anything
abbrev pub gift_to : ℕ → Option Given → List Gift
gift_to number None = []
gift_to number (Some given) = record { number = number; given = given } ∷ []

-- what a pen was given last, with the number of its connection
abbrev pub gift_of : Page → List Gift
gift_of pen = gift_to pen.number (last_of None pen.given)

abbrev pub gift_in : Option Page → List Gift
gift_in None = []
gift_in (Some pen) = gift_of pen

-- what the connection of a number was given, in order
abbrev pub given_in : ℕ → List Gift → List Given
given_in number [] = []
given_in number (gift ∷ gifts) = if gift.number == number then gift.given ∷ given_in number gifts else given_in number gifts

-- whether an entry is of the pen of the connection of a number
abbrev pub is_to : Gave → ℕ → Bool
is_to (gave.Began own) number = own == number
is_to (gave.Told own given) number = own == number

-- the number whose connection has a pen from an entry on
abbrev pub pens_by : Gave → List ℕ
pens_by (gave.Began number) = number ∷ []
pens_by (gave.Told number given) = []

-- what an entry says was given
abbrev pub given_by : Gave → List Given
given_by (gave.Began number) = []
given_by (gave.Told number given) = given

-- what entries say was given, in order
abbrev pub all_given : List Gave → List Given
all_given [] = []
all_given (next ∷ more) = given_by next ++ all_given more

-- the same of an entry, and of entries, with whom it was given to
abbrev pub gifts_to : ℕ → List Given → List Gift
gifts_to number [] = []
gifts_to number (given ∷ more) = record { number = number; given = given } ∷ gifts_to number more

abbrev pub gifts_at : Gave → List Gift
gifts_at (gave.Began number) = []
gifts_at (gave.Told number given) = gifts_to number given

abbrev pub gifts_in : List Gave → List Gift
gifts_in [] = []
gifts_in (next ∷ more) = gifts_at next ++ gifts_in more

-- the log of gifts has these more behind what it had, and no pen began
pub record GivesOn (old new : List Gave) (gifts : List Gift) : Type 0 where
  pub more : List Gave
  pub log : new ≡ old ++ more
  pub are : gifts_in more ≡ gifts
  pub none : numbers_of pens_by more ≡ []

-- what went out, where it is told, and then this rest, is the text of what was given
pub record Wrote (out : Option (List ℕ)) (given : List Given) : Type 0 where
  pub rest : List ℕ
  pub follows : Follows out rest given
