-- What the words of `l4d` ask of the files of its trace.
use Rattle.std.specs.Prelude.{◌≡◌, ◌⊎◌, ℕ, ◌*◌, List, ◌++◌, Option, Some, None, codes, option_map}
use Rattle.std.specs.Str.Parse.{digits_value, without_leading_plus}
use Rattle.clap.specs.Words.{Row, Text, first_of}
use Rattle.l4sh_options.specs.Shell.{IsFlagIn}
use Rattle.l4sh_options.specs.declared.trace_words.TraceWords.{TraceWords}

-- digits, and behind them the letter of a unit of so many bytes; without a letter it is 1
abbrev pub HasUnit : Text → Text → ℕ → Type 0
HasUnit text digits unit = ((text ≡ digits) × (unit ≡ 1))
    ⊎ ((text ≡ digits ++ codes "K") × (unit ≡ 1024))
    ⊎ ((text ≡ digits ++ codes "M") × (unit ≡ 1024 * 1024))
    ⊎ ((text ≡ digits ++ codes "G") × (unit ≡ 1024 * 1024 * 1024))

-- a text says so many bytes: a decimal number of a unit
pub record SpellsSize (text : Text) (size : ℕ) : Type 0 where
  pub digits : Text
  pub unit : ℕ
  pub has_unit : HasUnit text digits unit
  pub value : size ≡ digits_value 10 (without_leading_plus digits) * unit

-- the size is that which the matches have a text for; none where they have none
abbrev pub HasSizeOf : Option Text → Option ℕ → Type 0
HasSizeOf None None = Unit {0}
HasSizeOf (Some text) (Some size) = SpellsSize text size
HasSizeOf _ _ = ⊥

abbrev pub HasSizeIn : List Row → Option ℕ → Type 0
HasSizeIn rows size = HasSizeOf (first_of (codes "trace-size") rows) size

-- the number of older files is the decimal number that the matches have for it; none where they
-- have none
abbrev pub HasKeepIn : List Row → Option ℕ → Type 0
HasKeepIn rows keep =
    option_map (λ text. digits_value 10 (without_leading_plus text)) (first_of (codes "trace-keep") rows) ≡ keep

-- what is asked of a trace is what the matches have
pub record HasTraceIn (rows : List Row) (trace : TraceWords) : Type 0 where
  pub file : first_of (codes "trace") rows ≡ option_map (λ file. file.now) trace.file
  pub size : HasSizeIn rows trace.size
  pub keep : HasKeepIn rows trace.keep
  pub is_required : IsFlagIn rows (codes "trace-required") trace.is_required
