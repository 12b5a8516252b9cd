-- What is told of counts.
use Rattle.std.specs.Prelude.{◌≡◌, ℕ, ◌+◌, ◌-◌, List, ◌++◌, Option, Some, None, codes, length, replicate}
use Rattle.std.specs.Fmt.{decimal}
use Rattle.l4sh_look.specs.Rows.{IsRowOf}
use Rattle.l4sh_look.specs.Tallies.{IsTally}
use Rattle.l4sh_look.specs.declared.event.Event.{Event}
use Rattle.l4sh_look.specs.declared.row.Row.{Row}
use Rattle.l4sh_look.specs.declared.tally.Tally.{Tally}
use Rattle.l4sh_look.specs.declared.row.Waits.{Waits}

-- a text, and spaces up to a width; at least two
abbrev pub cell_text : ℕ → List ℕ → List ℕ
cell_text width text = text ++ codes "  " ++ replicate (width - (length text + 2)) 32

-- median, 99 of 100 and longest
abbrev pub times_text : Waits → List ℕ
times_text waits =
    decimal waits.median ++ (codes " " ++ (decimal waits.most ++ (codes " " ++ decimal waits.longest)))

abbrev pub waits_text : Option Waits → List ℕ
waits_text None = codes "-"
waits_text (Some waits) = times_text waits

-- the line of a pair, or of all together
abbrev pub row_text : List ℕ → List ℕ → Row → List ℕ
row_text from to row =
    cell_text 9 from ++ cell_text 9 to ++ cell_text 8 (decimal row.calls)
    ++ cell_text 10 (decimal row.messages) ++ cell_text 12 (decimal row.bytes)
    ++ cell_text 10 (decimal row.failures) ++ cell_text 20 (waits_text row.sent)
    ++ waits_text row.received ++ codes "\n"

-- the line of all together stands at the end of a text
pub record EndsWithAll (all : Tally) (text : List ℕ) : Type 0 where
  pub before : List ℕ
  pub row : Row
  pub is_row : (events : List Event) → IsTally events all → IsRowOf events row
  pub text_is : text ≡ before ++ row_text (codes "all") (codes "all") row

-- the same in JSON
abbrev pub json_times_text : Waits → List ℕ
json_times_text waits =
    codes "{\"median\": " ++ (decimal waits.median ++ (codes ", \"99_of_100\": " ++ (decimal waits.most
    ++ (codes ", \"longest\": " ++ (decimal waits.longest ++ codes "}")))))

abbrev pub json_waits_text : Option Waits → List ℕ
json_waits_text None = codes "null"
json_waits_text (Some waits) = json_times_text waits

abbrev pub json_numbers_text : Row → List ℕ
json_numbers_text row =
    codes "\"calls\": " ++ (decimal row.calls ++ (codes ", \"messages\": " ++ (decimal row.messages
    ++ (codes ", \"bytes\": " ++ (decimal row.bytes ++ (codes ", \"failures\": "
    ++ (decimal row.failures ++ codes ", ")))))))

-- the members of a row, and the end of its object
abbrev pub json_row_text : Row → List ℕ
json_row_text row =
    json_numbers_text row ++ (codes "\"sends_took\": " ++ (json_waits_text row.sent
    ++ (codes ", \"receives_took\": " ++ (json_waits_text row.received ++ codes "}"))))
