-- What the lines of a wire script spell, and what is put out and printed for them.
use Rattle.std.proofs.Common.{◌≡◌, ◌≢◌, ℕ, zero, suc, ◌+◌, ◌-◌, ◌<◌, ◌≤◌, ◌^◌, Bool, true, false, Option, Some, None, IfSome, List, [], ◌∷◌, ◌++◌, length, take, drop, map, codes, refl, sym, ap, subst, ◌∙◌, arith, append_assoc, append-nil}
use Rattle.std.specs.Prelude.{slice_index_or, slice_set, IsNone, if◌then◌else◌, nat_le}
use Rattle.std.specs.Fmt.{decimal}
use Rattle.std.specs.Io.KnownBytes.{Appends}
use Rattle.std.proofs.KnownBytes.{Appends-nil}
use Rattle.std.proofs.lemmas.List.{length-map, get_or-set_same, set-get_or, length-drop, take_all}
use Rattle.std.proofs.Math.Seq.{take-add, take-length, drop-nil}
use Rattle.std.proofs.Math.ListN.{drop_of_length-le}
use Rattle.ipc_base.specs.Ports.{AppendsFront}
use Rattle.ipc_words.specs.Limits.{max_space, max_connections}
use Rattle.ipc_exchange.specs.Service.{ConnectionParts, connection_at, nobody, without_bytes}
use Rattle.ipc_exchange.specs.Rooms.{RoomyConnection, service_of, stage_at}
use Rattle.ipc_exchange.specs.Feeding.{has_finished}
use Rattle.ipc_exchange.specs.Events.{Event, Connect, Piece, Finish, Reading, Copy, ExchangeParts}
use Rattle.ipc_exchange.specs.Exchange.{RoomyExchange, Happened, Shows}
use Rattle.ipc_exchange.specs.declared.progress.ConnectRefused.{ConnectRefused}
use Rattle.ipc_exchange.specs.declared.progress.ConnectRefused.TheVariants.{TooMany, NoMemory}
use Rattle.ipc_exchange.proofs.EndingLemmas.{others_stay}
use Rattle.ipc_exchange.proofs.FeedLemmas.{service_stage}
use Rattle.ipc_exchange.specs.Serving.{MayLack}
use Rattle.ipc_shell.specs.Failing.{most_lines}
use Rattle.ipc_shell.specs.Reading.{ReadsLine}
use Rattle.ipc_shell.specs.ScriptLines.{lines_of}
use Rattle.ipc_shell.specs.declared.lines.NextLine.TheVariants as next
use Rattle.ipc_shell.proofs.ScriptLemmas.{ObeyedSoFar, none_obeyed, many_obeyed, one_empty_line, one_command_line, stops_without_memory, stops_with_device, stops_done, stops_too_long, stops_at_line}
use Rattle.ipc_shell.specs.WireCommands.{IsSpelled, SpellsPiece}
use Rattle.ipc_shell.specs.Wiring.{IsGiven, Obeys, ObeysIn, ends_here, ends_at, has_ended, PutsSome, PutsAll, WritesOutput, WritesOutputs}
use Rattle.ipc_shell.specs.Wiring.{connect_text, ended_text, ended_texts, said_text, output_text, outputs_text, emptied, all_emptied, with_connections, WiresLine, IsNoWire, EndsWireLine, WiresScript}
use Rattle.ipc_shell.specs.declared.exit.Exit.{Exit}
use Rattle.ipc_shell.specs.declared.exit.Exit.TheVariants as exit
use Rattle.ipc_shell.specs.declared.wire.Obeyed.{Obeyed}
use Rattle.ipc_shell.specs.declared.wire.Obeyed.TheVariants.{Connected, Refused, Done, Ended}

-- the byte in a place of a line
abbrev byte : ℕ → List ℕ → ℕ
byte place line = slice_index_or line place 0

-- what begins with a word is spelled by no other command
pub spelled_connect : {Q : Type 0} (event : Event) (rest : List ℕ)
    → ((space : ℕ) → event ≡ Connect space → 1 ≤ space → space ≤ max_space → rest ≡ decimal space → Q)
    → IsSpelled event (codes "connect " ++ rest) → Q
spelled_connect (Connect space) rest leads (one, most, e) = leads space refl one most (ap (drop 8) e)
spelled_connect (Piece place bytes) rest leads s = absurd (omega (arith, ap (byte 0) s.line_is))
spelled_connect (Finish place) rest leads (fits, e) = absurd (omega (arith, ap (byte 0) e))
spelled_connect (Reading moment) rest leads (fits, e) = absurd (omega (arith, ap (byte 0) e))
spelled_connect Copy rest leads e = absurd (omega (arith, ap (byte 0) e))

pub spelled_end : {Q : Type 0} (event : Event) (rest : List ℕ)
    → ((place : ℕ) → event ≡ Finish place → place + 1 < 2 ^ 64 → rest ≡ decimal (place + 1) → Q)
    → IsSpelled event (codes "end " ++ rest) → Q
spelled_end (Connect space) rest leads (one, most, e) = absurd (omega (arith, ap (byte 0) e))
spelled_end (Piece place bytes) rest leads s = absurd (omega (arith, ap (byte 0) s.line_is))
spelled_end (Finish place) rest leads (fits, e) = leads place refl fits (ap (drop 4) e)
spelled_end (Reading moment) rest leads (fits, e) = absurd (omega (arith, ap (byte 0) e))
spelled_end Copy rest leads e = absurd (omega (arith, ap (byte 0) e))

pub spelled_at : {Q : Type 0} (event : Event) (rest : List ℕ)
    → ((moment : ℕ) → event ≡ Reading moment → moment < 2 ^ 64 → rest ≡ decimal moment → Q)
    → IsSpelled event (codes "at " ++ rest) → Q
spelled_at (Connect space) rest leads (one, most, e) = absurd (omega (arith, ap (byte 0) e))
spelled_at (Piece place bytes) rest leads s = absurd (omega (arith, ap (byte 0) s.line_is))
spelled_at (Finish place) rest leads (fits, e) = absurd (omega (arith, ap (byte 0) e))
spelled_at (Reading moment) rest leads (fits, e) = leads moment refl fits (ap (drop 3) e)
spelled_at Copy rest leads e = absurd (omega (arith, ap (byte 1) e))

pub spelled_feed : {Q : Type 0} (event : Event) (rest : List ℕ)
    → ((place : ℕ) (bytes : List ℕ) → event ≡ Piece place bytes → (s : SpellsPiece place bytes (codes "feed " ++ rest))
    → rest ≡ decimal (place + 1) ++ 32 ∷ s.digits → Q)
    → IsSpelled event (codes "feed " ++ rest) → Q
spelled_feed (Connect space) rest leads (one, most, e) = absurd (omega (arith, ap (byte 0) e))
spelled_feed (Piece place bytes) rest leads s = leads place bytes refl s (ap (drop 5) s.line_is)
spelled_feed (Finish place) rest leads (fits, e) = absurd (omega (arith, ap (byte 0) e))
spelled_feed (Reading moment) rest leads (fits, e) = absurd (omega (arith, ap (byte 0) e))
spelled_feed Copy rest leads e = absurd (omega (arith, ap (byte 0) e))

-- a line that begins with none of the words is `advance`
pub spelled_plain : (event : Event) (line : List ℕ)
    → ((rest : List ℕ) → line ≡ codes "feed " ++ rest → ⊥) → ((rest : List ℕ) → line ≡ codes "connect " ++ rest → ⊥)
    → ((rest : List ℕ) → line ≡ codes "end " ++ rest → ⊥) → ((rest : List ℕ) → line ≡ codes "at " ++ rest → ⊥)
    → IsSpelled event line → (event ≡ Copy) × (line ≡ codes "advance")
spelled_plain (Connect space) line feed connect end at (one, most, e) = absurd (connect _ e)
spelled_plain (Piece place bytes) line feed connect end at s = absurd (feed _ s.line_is)
spelled_plain (Finish place) line feed connect end at (fits, e) = absurd (end _ e)
spelled_plain (Reading moment) line feed connect end at (fits, e) = absurd (at _ e)
spelled_plain Copy line feed connect end at e = (refl, e)

-- the parts that an exchange stands for have its connections
pub shows_stage : (exchange : RoomyExchange) (parts : ExchangeParts) (place : ℕ) → Shows exchange parts
    → (connection_at parts.service.connections place).stage ≡ stage_at exchange.service.connections place
shows_stage exchange parts place shows =
    ap (λ s. (connection_at s.connections place).stage) shows.service ∙ service_stage exchange.service place

pub shows_long : (exchange : RoomyExchange) (parts : ExchangeParts) → Shows exchange parts
    → length parts.service.connections ≡ length exchange.service.connections
shows_long exchange parts shows =
    ap (λ s. length s.connections) shows.service ∙ length-map exchange.service.connections (λ (s : RoomyConnection). s.connection)

-- a connection is accepted, or refused
pub accepted_in : (old new : RoomyExchange) (space number : ℕ) → number ≡ length old.service.connections + 1 → number ≤ max_connections
    → Happened old (Connect space) new → ObeysIn old (Connect space) (Connected number) new
accepted_in old new space number is few happened = λ parts shows.
    let (asked, after, happens, now) = happened parts shows in
    (tt, (after, (omega (arith, is, shows_long old parts shows), few, (asked, happens)), now))

pub refused_in : (old new : RoomyExchange) (space : ℕ) (refused : ConnectRefused)
    → refused ≡ (if nat_le max_connections (length old.service.connections) then TooMany else NoMemory)
    → new ≡ old → ObeysIn old (Connect space) (Refused refused) new
refused_in old new space TooMany cause same = λ parts shows.
    (tt, (parts, (grind (arith, shows_long old parts shows), refl), subst (λ e. Shows e parts) (sym same) shows))
refused_in old new space NoMemory cause same = λ parts shows.
    (tt, (parts, (grind (arith, shows_long old parts shows), refl), subst (λ e. Shows e parts) (sym same) shows))

-- a piece of bytes on a connection that was given, and its end
ends_shown : (old new : RoomyExchange) (parts after : ExchangeParts) (place connection : ℕ) (said : Obeyed) → Shows old parts → Shows new after
    → connection ≡ place + 1
    → said ≡ ends_here (has_finished (stage_at old.service.connections place)) (has_finished (stage_at new.service.connections place)) connection
    → said ≡ ends_at parts after place
ends_shown old new parts after place connection said shows now is e =
    e ∙ ap (ends_here (has_finished (stage_at old.service.connections place)) (has_finished (stage_at new.service.connections place))) is
    ∙ ap (λ s. ends_here (has_finished s) (has_finished (stage_at new.service.connections place)) (place + 1)) (sym (shows_stage old parts place shows))
    ∙ ap (λ s. ends_here (has_ended parts place) (has_finished s) (place + 1)) (sym (shows_stage new after place now))

pub fed_in : (old new : RoomyExchange) (place connection : ℕ) (bytes : List ℕ) (said : Obeyed) → connection ≡ place + 1 → place < length old.service.connections
    → Happened old (Piece place bytes) new
    → said ≡ ends_here (has_finished (stage_at old.service.connections place)) (has_finished (stage_at new.service.connections place)) connection
    → ObeysIn old (Piece place bytes) said new
fed_in old new place connection bytes said is within happened e = λ parts shows.
    let (asked, after, happens, now) = happened parts shows in
    (omega (arith, shows_long old parts shows, within), (after, ((asked, happens), ends_shown old new parts after place connection said shows now is e), now))

pub finished_in : (old new : RoomyExchange) (place connection : ℕ) (said : Obeyed) → connection ≡ place + 1 → place < length old.service.connections
    → Happened old (Finish place) new
    → said ≡ ends_here (has_finished (stage_at old.service.connections place)) (has_finished (stage_at new.service.connections place)) connection
    → ObeysIn old (Finish place) said new
finished_in old new place connection said is within happened e = λ parts shows.
    let (asked, after, happens, now) = happened parts shows in
    (omega (arith, shows_long old parts shows, within), (after, ((asked, happens), ends_shown old new parts after place connection said shows now is e), now))

pub never_at : (old : RoomyExchange) (parts : ExchangeParts) (place : ℕ) → length old.service.connections ≤ place → Shows old parts → place < length parts.service.connections → ⊥
never_at old parts place past shows within = omega (arith, shows_long old parts shows, past, within)

-- a reading of the clock, and a copy
pub read_in : (old new : RoomyExchange) (moment : ℕ) → Happened old (Reading moment) new → ObeysIn old (Reading moment) Done new
read_in old new moment happened = λ parts shows.
    let (asked, after, happens, now) = happened parts shows in
    (tt, (after, ((asked, happens), refl), now))

pub copied_in : (old new : RoomyExchange) → Happened old Copy new → ObeysIn old Copy Done new
copied_in old new happened = λ parts shows.
    let (asked, after, happens, now) = happened parts shows in
    (tt, (after, ((asked, happens), refl), now))

-- a connection that is set twice
set_twice : (connections : List ConnectionParts) (place : ℕ) (one two : ConnectionParts) → slice_set (slice_set connections place one) place two ≡ slice_set connections place two
set_twice [] place one two = refl
set_twice (l ∷ ls) zero one two = refl
set_twice (l ∷ ls) (suc place) one two = ap (λ rest. l ∷ rest) (set_twice ls place one two)

drop_twice : (m n : ℕ) (bytes : List ℕ) → drop n (drop m bytes) ≡ drop (m + n) bytes
drop_twice zero n bytes = let same : n ≡ 0 + n = omega arith in ap (λ k. drop k bytes) same
drop_twice (suc m) n [] = drop-nil n ∙ sym (drop-nil (suc m + n))
drop_twice (suc m) n (b ∷ bs) =
    let same : suc (m + n) ≡ suc m + n = omega arith in
    drop_twice m n bs ∙ ap (λ k. drop k (b ∷ bs)) same

-- so many bytes of a connection went out: these
pub record TakenOut (parts : ExchangeParts) (place : ℕ) (bytes : List ℕ) (exchange : RoomyExchange) : Type 0 where
  pub count : ℕ
  pub bytes_are : bytes ≡ take count (connection_at parts.service.connections place).out
  pub shows : Shows exchange (record parts { service = without_bytes place count parts.service })

pub taken_none : (exchange : RoomyExchange) (parts : ExchangeParts) (place : ℕ) → Shows exchange parts → TakenOut parts place [] exchange
taken_none exchange parts place shows = record {
  count = 0;
  bytes_are = refl;
  shows = subst (λ connections. Shows exchange (with_connections parts connections)) (sym (set-get_or parts.service.connections place nobody)) shows;
}

-- the bytes that wait where so many went out
out_left : (parts : ExchangeParts) (place count : ℕ) → place < length parts.service.connections
    → (connection_at (without_bytes place count parts.service).connections place).out ≡ drop count (connection_at parts.service.connections place).out
out_left parts place count within =
    ap (λ (l : ConnectionParts). l.out) (get_or-set_same parts.service.connections place (record (connection_at parts.service.connections place) { out = drop count (connection_at parts.service.connections place).out }) nobody within)

connection_left : (parts : ExchangeParts) (place count : ℕ) → place < length parts.service.connections
    → connection_at (without_bytes place count parts.service).connections place ≡ record (connection_at parts.service.connections place) { out = drop count (connection_at parts.service.connections place).out }
connection_left parts place count within =
    get_or-set_same parts.service.connections place (record (connection_at parts.service.connections place) { out = drop count (connection_at parts.service.connections place).out }) nobody within

-- the connections where so many more went out
without_more : (parts : ExchangeParts) (place m n : ℕ) → place < length parts.service.connections
    → (without_bytes place n (without_bytes place m parts.service)).connections ≡ (without_bytes place (m + n) parts.service).connections
without_more parts place m n within =
    let here = connection_at parts.service.connections place in
    set_twice parts.service.connections place (record here { out = drop m here.out }) (record (connection_at (without_bytes place m parts.service).connections place) { out = drop n (connection_at (without_bytes place m parts.service).connections place).out })
    ∙ ap (λ (l : ConnectionParts). slice_set parts.service.connections place (record l { out = drop n l.out })) (connection_left parts place m within)
    ∙ ap (λ bytes. slice_set parts.service.connections place (record here { out = bytes })) (drop_twice m n here.out)

pub taken_more : (parts : ExchangeParts) (place room count : ℕ) (bytes piece : List ℕ) (before after : RoomyExchange) → place < length parts.service.connections
    → (taken : TakenOut parts place bytes before)
    → PutsSome (record parts { service = without_bytes place taken.count parts.service }) place room count piece after
    → TakenOut parts place (bytes ++ take count piece) after
taken_more parts place room count bytes piece before after within taken puts = record {
  count = taken.count + count;
  bytes_are = ap (λ bs. bs ++ take count piece) taken.bytes_are
      ∙ ap (λ bs. take taken.count (connection_at parts.service.connections place).out ++ bs) (puts.begins ∙ ap (take count) (out_left parts place taken.count within))
      ∙ sym (take-add taken.count count (connection_at parts.service.connections place).out);
  shows = subst (λ connections. Shows after (with_connections parts connections)) (without_more parts place taken.count count within) puts.shows;
}

pub taken_all : (parts : ExchangeParts) (place room count : ℕ) (bytes piece : List ℕ) (before after : RoomyExchange) → place < length parts.service.connections → 0 < room → count ≡ 0
    → (taken : TakenOut parts place bytes before)
    → PutsSome (record parts { service = without_bytes place taken.count parts.service }) place room count piece after
    → PutsAll parts place bytes after
taken_all parts place room count bytes piece before after within some none taken puts =
    let here = connection_at parts.service.connections place in
    let long : length here.out ≤ taken.count = omega (arith, puts.count_is, ap length (out_left parts place taken.count within), length-drop taken.count here.out, some, none) in
    let gone : drop (taken.count + count) here.out ≡ [] = drop_of_length-le here.out {i = taken.count + count} (omega (arith, long)) in (
      taken.bytes_are ∙ take_all taken.count here.out long,
      subst (λ connections. Shows after (with_connections parts connections))
          (without_more parts place taken.count count within ∙ ap (λ bytes. slice_set parts.service.connections place (record here { out = bytes })) gone) puts.shows,
    )

-- the connections where all bytes of the first so many went out
abbrev pub partly : ℕ → List ConnectionParts → List ConnectionParts
partly n connections = map emptied (take n connections) ++ drop n connections

partly_at : (n : ℕ) (connections : List ConnectionParts) → n < length connections → connection_at (partly n connections) n ≡ connection_at connections n
partly_at n [] within = absurd (omega arith)
partly_at zero (l ∷ ls) within = refl
partly_at (suc n) (l ∷ ls) within = partly_at n ls (omega arith)

partly_long : (n : ℕ) (connections : List ConnectionParts) → length (partly n connections) ≡ length connections
partly_long zero connections = refl
partly_long (suc n) [] = refl
partly_long (suc n) (l ∷ ls) = ap suc (partly_long n ls)

partly_set : (n : ℕ) (connections : List ConnectionParts) → n < length connections → slice_set (partly n connections) n (emptied (connection_at connections n)) ≡ partly (suc n) connections
partly_set n [] within = absurd (omega arith)
partly_set zero (l ∷ ls) within = refl
partly_set (suc n) (l ∷ ls) within = ap (λ rest. emptied l ∷ rest) (partly_set n ls (omega arith))

partly_all : (connections : List ConnectionParts) → partly (length connections) connections ≡ map emptied connections
partly_all [] = refl
partly_all (l ∷ ls) = ap (λ rest. emptied l ∷ rest) (partly_all ls)

text_more : (n number : ℕ) (connections : List ConnectionParts) → n < length connections
    → outputs_text number (take (suc n) connections) ≡ outputs_text number (take n connections) ++ output_text (number + n) (connection_at connections n).out
text_more n number [] within = absurd (omega arith)
text_more zero number (l ∷ ls) within =
    let same : number ≡ number + 0 = omega arith in
    append-nil (output_text number l.out) ∙ ap (λ k. output_text k l.out) same
text_more (suc n) number (l ∷ ls) within =
    let same : (number + 1) + n ≡ number + suc n = omega arith in
    ap (λ t. output_text number l.out ++ t) (text_more n (number + 1) ls (omega arith) ∙ ap (λ k. outputs_text (number + 1) (take n ls) ++ output_text k (connection_at ls n).out) same)
    ∙ sym (append_assoc (output_text number l.out) (outputs_text (number + 1) (take n ls)) (output_text (number + suc n) (connection_at ls n).out))

-- the first so many connections were written
pub record WrittenTo (parts : ExchangeParts) (n : ℕ) (before now : List ℕ) (exchange : RoomyExchange) : Type 0 where
  pub text_is : now ≡ before ++ outputs_text 1 (take n parts.service.connections)
  pub shows : Shows exchange (with_connections parts (partly n parts.service.connections))

pub none_written : (exchange : RoomyExchange) (parts : ExchangeParts) (before : List ℕ) → Shows exchange parts → WrittenTo parts 0 before before exchange
none_written exchange parts before shows = record { text_is = sym (append-nil before); shows = shows }

pub one_written : (parts : ExchangeParts) (n : ℕ) (before now after : List ℕ) (old new : RoomyExchange) → n < length parts.service.connections
    → WrittenTo parts n before now old
    → WritesOutput (with_connections parts (partly n parts.service.connections)) n now after new
    → WrittenTo parts (n + 1) before after new
one_written parts n before now after old new within written writes =
    let connections = parts.service.connections in
    let here : connection_at (partly n connections) n ≡ connection_at connections n = partly_at n connections within in
    let next : suc n ≡ n + 1 = omega arith in
    let number : 1 + n ≡ n + 1 = omega arith in
    subst (λ k. WrittenTo parts k before after new) next (record {
      text_is = writes.0 ∙ ap (λ (l : ConnectionParts). now ++ output_text (n + 1) l.out) here
          ∙ ap (λ t. t ++ output_text (n + 1) (connection_at connections n).out) written.text_is
          ∙ append_assoc before (outputs_text 1 (take n connections)) (output_text (n + 1) (connection_at connections n).out)
          ∙ ap (λ t. before ++ t) (ap (λ k. outputs_text 1 (take n connections) ++ output_text k (connection_at connections n).out) (sym number) ∙ sym (text_more n 1 connections within));
      shows = subst (λ ls. Shows new (with_connections parts ls))
          (ap (λ (l : ConnectionParts). slice_set (partly n connections) n (emptied l)) here ∙ partly_set n connections within) writes.1;
    })

pub all_written : (parts : ExchangeParts) (n : ℕ) (before now : List ℕ) (exchange : RoomyExchange) → n ≡ length parts.service.connections
    → WrittenTo parts n before now exchange → WritesOutputs parts before now exchange
all_written parts n before now exchange all written =
    let connections = parts.service.connections in (
      written.text_is ∙ ap (λ k. before ++ outputs_text 1 (take k connections)) all ∙ ap (λ ls. before ++ outputs_text 1 ls) (take-length connections),
      subst (λ ls. Shows exchange (with_connections parts ls)) (ap (λ k. partly k connections) all ∙ partly_all connections) written.shows,
    )

pub partly_within : (parts : ExchangeParts) (n : ℕ) → n < length parts.service.connections → n < length (partly n parts.service.connections)
partly_within parts n within = omega (arith, partly_long n parts.service.connections, within)

-- a connection that has nothing to put out is passed over
still : (connection : ConnectionParts) → connection.out ≡ [] → emptied connection ≡ connection
still connection none = ap (λ bytes. record connection { out = bytes }) (sym none)

nothing_text : (number : ℕ) (bytes : List ℕ) → bytes ≡ [] → output_text number bytes ≡ []
nothing_text number bytes none = ap (output_text number) none

abbrev HasNothing : RoomyExchange → ℕ → Type 0
HasNothing exchange place = (connection_at (service_of exchange.service).connections place).out ≡ []

one_passed : (parts : ExchangeParts) (n : ℕ) (before now : List ℕ) (exchange : RoomyExchange) → n < length parts.service.connections → HasNothing exchange n
    → WrittenTo parts n before now exchange → WrittenTo parts (n + 1) before now exchange
one_passed parts n before now exchange within none written =
    let connections = partly n parts.service.connections in
    let here : (connection_at connections n).out ≡ [] = ap (λ s. (connection_at s.connections n).out) written.shows.service ∙ none in
    let same : slice_set connections n (emptied (connection_at connections n)) ≡ connections = ap (slice_set connections n) (still (connection_at connections n) here) ∙ set-get_or connections n nobody in
    one_written parts n before now now exchange exchange within written (
      sym (append-nil now) ∙ ap (λ t. now ++ t) (sym (nothing_text (n + 1) (connection_at connections n).out here)),
      subst (λ ls. Shows exchange (with_connections parts ls)) (sym same) written.shows,
    )

passed : (parts : ExchangeParts) (n k : ℕ) (before now : List ℕ) (exchange : RoomyExchange) → n + k ≤ length parts.service.connections
    → ((place : ℕ) → n ≤ place → place < n + k → HasNothing exchange place)
    → WrittenTo parts n before now exchange → WrittenTo parts (n + k) before now exchange
passed parts n zero before now exchange within none written =
    let same : n ≡ n + 0 = omega arith in subst (λ m. WrittenTo parts m before now exchange) same written
passed parts n (suc k) before now exchange within none written =
    let same : (n + 1) + k ≡ n + suc k = omega arith in
    let more = one_passed parts n before now exchange (omega (arith, within)) (none n (omega arith) (omega arith)) written in
    subst (λ m. WrittenTo parts m before now exchange) same
    (passed parts (n + 1) k before now exchange (omega (arith, within)) (λ place least less. none place (omega (arith, least)) (omega (arith, less))) more)

passed_to : (parts : ExchangeParts) (n m : ℕ) (before now : List ℕ) (exchange : RoomyExchange) → n ≤ m → m ≤ length parts.service.connections
    → ((place : ℕ) → n ≤ place → place < m → HasNothing exchange place)
    → WrittenTo parts n before now exchange → WrittenTo parts m before now exchange
passed_to parts n m before now exchange least within none written =
    let same : n + (m - n) ≡ m = omega (arith, least) in
    subst (λ k. WrittenTo parts k before now exchange) same
    (passed parts n (m - n) before now exchange (omega (arith, least, within)) (λ place low high. none place low (omega (arith, high, least))) written)

-- the next connection that may have something is written
pub next_written : (parts : ExchangeParts) (behind connection : ℕ) (before now after : List ℕ) (old new : RoomyExchange) → behind < connection → connection ≤ length old.service.connections
    → ((place : ℕ) → behind ≤ place → place + 1 < connection → HasNothing old place)
    → WrittenTo parts behind before now old
    → ((place : ℕ) (ps : ExchangeParts) → connection ≡ place + 1 → place < length ps.service.connections → Shows old ps → WritesOutput ps place now after new)
    → (connection ≤ length parts.service.connections) × WrittenTo parts connection before after new
next_written parts behind connection before now after old new more few none written writes =
    let place = connection - 1 in
    let number : connection ≡ place + 1 = omega (arith, more) in
    let long = shows_long old (with_connections parts (partly behind parts.service.connections)) written.shows in
    let given : connection ≤ length parts.service.connections = omega (arith, long, partly_long behind parts.service.connections, few) in
    let within : place < length parts.service.connections = omega (arith, given, more) in
    let here = passed_to parts behind place before now old (omega (arith, more)) (omega (arith, within)) (λ q low high. none q low (omega (arith, high, more))) written in (
      given,
      subst (λ k. WrittenTo parts k before after new) (sym number)
          (one_written parts place before now after old new within here (writes place (with_connections parts (partly place parts.service.connections)) number (partly_within parts place within) here.shows)),
    )

-- there is none
pub rest_written : (parts : ExchangeParts) (behind : ℕ) (before now : List ℕ) (exchange : RoomyExchange) → behind ≤ length parts.service.connections
    → ((place : ℕ) → behind ≤ place → HasNothing exchange place)
    → WrittenTo parts behind before now exchange → WritesOutputs parts before now exchange
rest_written parts behind before now exchange within none written =
    all_written parts (length parts.service.connections) before now exchange refl
    (passed_to parts behind (length parts.service.connections) before now exchange within (omega arith) (λ place low high. none place low) written)

-- where each connection is at the stage at which it was, none ended
next_at : (connections : List ConnectionParts) (q : ℕ) → connection_at (drop 1 connections) q ≡ connection_at connections (suc q)
next_at [] q = refl
next_at (l ∷ ls) q = refl

not_here : (ended : Bool) (number : ℕ) → ended_text (ends_here ended ended number) ≡ []
not_here true number = refl
not_here false number = refl

first_stays : (number : ℕ) (old : ConnectionParts) (news : List ConnectionParts) → (connection_at news 0).stage ≡ old.stage
    → ended_text (ends_here (has_finished old.stage) (has_finished (connection_at news 0).stage) number) ≡ []
first_stays number old news same =
    ap (λ s. ended_text (ends_here (has_finished old.stage) (has_finished s) number)) same ∙ not_here (has_finished old.stage) number

none_ended : (number : ℕ) (olds news : List ConnectionParts) → ((q : ℕ) → q < length olds → (connection_at news q).stage ≡ (connection_at olds q).stage)
    → ended_texts number olds news ≡ []
none_ended number [] news same = refl
none_ended number (l ∷ ls) news same =
    ap (λ t. t ++ ended_texts (number + 1) ls (drop 1 news)) (first_stays number l news (same 0 (omega arith)))
    ∙ none_ended (number + 1) ls (drop 1 news) (λ q within. ap (λ (n : ConnectionParts). n.stage) (next_at news q) ∙ same (suc q) (omega (arith, within)))

-- where each other one is, no other ended
one_ended : (place number : ℕ) (olds news : List ConnectionParts) → place < length olds
    → ((q : ℕ) → q ≢ place → q < length olds → (connection_at news q).stage ≡ (connection_at olds q).stage)
    → ended_texts number olds news ≡ ended_text (ends_here (has_finished (connection_at olds place).stage) (has_finished (connection_at news place).stage) (number + place))
one_ended place number [] news within same = absurd (omega arith)
one_ended zero number (l ∷ ls) news within same =
    let here : number ≡ number + 0 = omega arith in
    ap (λ t. ended_text (ends_here (has_finished l.stage) (has_finished (connection_at news 0).stage) number) ++ t)
    (none_ended (number + 1) ls (drop 1 news) (λ q w. ap (λ (n : ConnectionParts). n.stage) (next_at news q) ∙ same (suc q) (λ e. omega (arith, e)) (omega (arith, w))))
    ∙ append-nil (ended_text (ends_here (has_finished l.stage) (has_finished (connection_at news 0).stage) number))
    ∙ ap (λ k. ended_text (ends_here (has_finished l.stage) (has_finished (connection_at news 0).stage) k)) here
one_ended (suc place) number (l ∷ ls) news within same =
    let here : (number + 1) + place ≡ number + suc place = omega arith in
    ap (λ t. t ++ ended_texts (number + 1) ls (drop 1 news)) (first_stays number l news (same 0 (λ e. omega (arith, e)) (omega arith)))
    ∙ one_ended place (number + 1) ls (drop 1 news) (omega arith) (λ q other w. ap (λ (n : ConnectionParts). n.stage) (next_at news q) ∙ same (suc q) (λ e. other (omega (arith, e))) (omega (arith, w)))
    ∙ ap (λ (n : ConnectionParts). ended_text (ends_here (has_finished (connection_at ls place).stage) (has_finished n.stage) ((number + 1) + place))) (next_at news place)
    ∙ ap (λ k. ended_text (ends_here (has_finished (connection_at ls place).stage) (has_finished (connection_at news (suc place)).stage) k)) here

-- the connection that is told is all that ended
place_ended : (place : ℕ) (old new : ExchangeParts) (event : Event) (said : Obeyed) → place < length old.service.connections
    → ((q : ℕ) → q ≢ place → q < length old.service.connections → (connection_at new.service.connections q).stage ≡ (connection_at old.service.connections q).stage)
    → said ≡ ends_at old new place → ended_text said ≡ ended_texts 1 old.service.connections new.service.connections
place_ended place old new event said within same e =
    let number : place + 1 ≡ 1 + place = omega arith in
    ap ended_text e ∙ ap (λ k. ended_text (ends_here (has_ended old place) (has_ended new place) k)) number
    ∙ sym (one_ended place 1 old.service.connections new.service.connections within same)

said_ended : (old new : ExchangeParts) (event : Event) (said : Obeyed) → Obeys old event said new → IsGiven old event
    → ended_text said ≡ ended_texts 1 old.service.connections new.service.connections
said_ended old new (Connect space) (Connected number) (is, few, occurs) given =
    sym (none_ended 1 old.service.connections new.service.connections (λ q w. others_stay MayLack (Connect space) old new occurs.0 q occurs.1 tt w))
said_ended old new (Connect space) (Refused TooMany) (full, same) given =
    sym (none_ended 1 old.service.connections new.service.connections (λ q w. ap (λ (e : ExchangeParts). (connection_at e.service.connections q).stage) same))
said_ended old new (Connect space) (Refused NoMemory) (full, same) given =
    sym (none_ended 1 old.service.connections new.service.connections (λ q w. ap (λ (e : ExchangeParts). (connection_at e.service.connections q).stage) same))
said_ended old new (Connect space) Done obeys given = absurd obeys
said_ended old new (Connect space) (Ended number) obeys given = absurd obeys
said_ended old new (Piece place bytes) said (occurs, e) given =
    place_ended place old new (Piece place bytes) said given (λ q other w. others_stay MayLack (Piece place bytes) old new occurs.0 q occurs.1 other w) e
said_ended old new (Finish place) said (occurs, e) given =
    place_ended place old new (Finish place) said given (λ q other w. others_stay MayLack (Finish place) old new occurs.0 q occurs.1 other w) e
said_ended old new (Reading moment) said (occurs, e) given =
    ap ended_text e ∙ sym (none_ended 1 old.service.connections new.service.connections (λ q w. others_stay MayLack (Reading moment) old new occurs.0 q occurs.1 tt w))
said_ended old new Copy said (occurs, e) given =
    ap ended_text e ∙ sym (none_ended 1 old.service.connections new.service.connections (λ q w. others_stay MayLack Copy old new occurs.0 q occurs.1 tt w))

-- a command was obeyed, and what is printed for it is this text
wired : (old between new : RoomyExchange) (event : Event) (said : Obeyed) (line text : List ℕ) (parts : ExchangeParts) → Shows old parts
    → IsSpelled event line → ObeysIn old event said between
    → ((after : ExchangeParts) → Shows between after → (text ≡ said_text said after) × Shows new (all_emptied after))
    → (last : ExchangeParts) × WiresLine parts line text last × Shows new last
wired old between new event said line text parts shows spells obeyed answered =
    let (given, (after, obeys, now)) = obeyed parts shows in
    let (text_is, shown) = answered after now in (
      all_emptied after,
      record {
        event = event;
        spells = spells;
        given = given;
        said = said;
        between = after;
        obeys = obeys;
        text_is = text_is ∙ ap (λ t. connect_text said ++ outputs_text 1 after.service.connections ++ t) (said_ended parts after event said obeys given);
        new_is = refl;
      },
      shown,
    )

not_none : {X : Type 0} {Q : Type 0} (x : X) → IsNone (Some x) → Q
not_none x none = absurd (cc (none))

module _ (old between new : RoomyExchange) (event : Event) (said : Obeyed) (line text : List ℕ) (number : ℕ) (before after : Option (List ℕ))
    (spells : IsSpelled event line) (obeyed : ObeysIn old event said between)
    (answered : (parts : ExchangeParts) → Shows between parts → (text ≡ said_text said parts) × Shows new (all_emptied parts)) where
  pub line_goes_on : Appends before after text → EndsWireLine old new before after line number None
  line_goes_on appended = λ parts shows.
      let (last, wires, shown) = wired old between new event said line text parts shows spells obeyed answered in
      (last, (text, wires, appended), λ _. shown)

  pub line_cut_off : AppendsFront before after text → EndsWireLine old new before after line number (Some exit.DeviceFailed)
  line_cut_off appended = λ parts shows.
      let (last, wires, shown) = wired old between new event said line text parts shows spells obeyed answered in
      (last, (text, wires, appended), not_none exit.DeviceFailed)

-- the lines that were obeyed so far, by an exchange
pub record WiredSoFar (start : ExchangeParts) (bytes rest before now : Option (List ℕ)) (exchange : RoomyExchange) (number : ℕ) : Type 0 where
  pub parts : ExchangeParts
  pub shows : Shows exchange parts
  pub so_far : ObeyedSoFar WiresLine start bytes rest before now parts number

pub none_wired : (start : ExchangeParts) (bytes before : Option (List ℕ)) (exchange : RoomyExchange) → Shows exchange start → WiredSoFar start bytes bytes before before exchange 1
none_wired start bytes before exchange shows = record { parts = start; shows = shows; so_far = none_obeyed ExchangeParts WiresLine IsNoWire start bytes before }

module _ (start : ExchangeParts) (line : List ℕ) (number : ℕ) (before now bytes rest left : Option (List ℕ)) where
  pub empty_wired : (exchange : RoomyExchange) → length line ≡ 0 → WiredSoFar start bytes rest before now exchange number → ReadsLine rest left line next.Line
      → WiredSoFar start bytes left before now exchange (number + 1)
  empty_wired exchange empty wired read = record {
    parts = wired.parts;
    shows = wired.shows;
    so_far = one_empty_line ExchangeParts WiresLine IsNoWire start wired.parts line number before now bytes rest left empty wired.so_far read;
  }

  pub line_wired : (old new : RoomyExchange) (after : Option (List ℕ)) → 0 < length line → WiredSoFar start bytes rest before now old number → ReadsLine rest left line next.Line
      → EndsWireLine old new now after line number None → WiredSoFar start bytes left before after new (number + 1)
  line_wired old new after some wired read ends =
      let (last, line_ends, shown) = ends wired.parts wired.shows in
      record {
        parts = last;
        shows = shown refl;
        so_far = one_command_line ExchangeParts WiresLine IsNoWire start wired.parts last line number before now after bytes rest left some wired.so_far read line_ends;
      }

  pub wired_at_line : (old new : RoomyExchange) (after : Option (List ℕ)) (exit : Exit) → 0 < length line → WiredSoFar start bytes rest before now old number → ReadsLine rest left line next.Line
      → EndsWireLine old new now after line number (Some exit) → WiresScript start bytes before after exit
  wired_at_line old new after exit some wired read ends =
      let (last, line_ends, shown) = ends wired.parts wired.shows in
      stops_at_line ExchangeParts WiresLine IsNoWire start wired.parts last line number before now after bytes rest left exit some wired.so_far read line_ends

  pub wired_too_long : (exchange : RoomyExchange) → WiredSoFar start bytes rest before now exchange number → ReadsLine rest left line next.TooLong → WiresScript start bytes before now (exit.BadLine number)
  wired_too_long exchange wired read = stops_too_long ExchangeParts WiresLine IsNoWire start wired.parts line number before now bytes rest left wired.so_far read

  pub wired_done : (exchange : RoomyExchange) → WiredSoFar start bytes rest before now exchange number → ReadsLine rest left line next.End → WiresScript start bytes before now exit.Done
  wired_done exchange wired read = stops_done ExchangeParts WiresLine IsNoWire start wired.parts line number before now bytes rest left wired.so_far read

module _ (start : ExchangeParts) (number : ℕ) (before now bytes rest : Option (List ℕ)) (exchange : RoomyExchange) (wired : WiredSoFar start bytes rest before now exchange number) where
  pub wired_without_memory : WiresScript start bytes before now exit.NoMemory
  wired_without_memory = stops_without_memory ExchangeParts WiresLine IsNoWire start wired.parts number before now now bytes rest wired.so_far (Appends-nil now)

  pub wired_with_device : WiresScript start bytes before now exit.DeviceFailed
  wired_with_device = stops_with_device ExchangeParts WiresLine IsNoWire start wired.parts number before now now bytes rest wired.so_far (Appends-nil now)

  pub many_wired : most_lines < number → IfSome bytes (λ bytes. most_lines ≤ length (lines_of bytes))
  many_wired many = many_obeyed ExchangeParts WiresLine IsNoWire start bytes rest before now wired.parts number wired.so_far many
