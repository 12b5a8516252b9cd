-- What the bytes of a frame show so far, stage by stage.
use Rattle.std.proofs.Common.{◌≡◌, ◌≢◌, ℕ, zero, suc, ◌+◌, ◌*◌, ◌-◌, ◌<◌, ◌≤◌, ◌^◌, ◌==◌, ◌||◌, inl, inr, true, false, List, [], ◌∷◌, ◌++◌, length, take, drop, sum, slice_index, Option, Some, None, is_some, Bool, refl, sym, ap, ap₂, subst, ◌∙◌, arith, length-append, length-drop, nat_lt, if◌then◌else◌}
use Rattle.std.proofs.lemmas.List.{append-nil, drop-append-le, drop-drop, get_or-drop, nil_from_length, take-append-le, length-take-le, take-append-drop}
use Rattle.std.proofs.lemmas.List.Sums.{sum_by-cons}
use Rattle.std.proofs.lemmas.Bool.{cases_Bool, lt-ltb, le-ltb, ltb-false, ne_eqb, or_parts}
use Rattle.ipc_words.specs.Limits.{max_frame_body}
use Rattle.ipc_frame.specs.declared.fault.FrameFault.{FrameFault}
use Rattle.ipc_frame.specs.declared.fault.FrameFault.TheVariants.{TooLong, UnknownKind, WrongSize, TooManyWords, UnknownVersion}
use Rattle.ipc_frame.specs.declared.kind.FrameKind.{FrameKind}
use Rattle.ipc_frame.specs.declared.kind.FrameKind.TheVariants.{Hello, HelloTwo, Ipc, Exreg, Bye, Welcome, Ipcr, Exregr, Refused, Fault, ExregrTwo}
use Rattle.ipc_frame.specs.declared.kind.Side.{Side}
use Rattle.ipc_frame.specs.declared.judging.Judgement.{Judgement}
use Rattle.ipc_frame.specs.declared.judging.Judgement.TheVariants as judged
use Rattle.ipc_frame.specs.declared.frame.Frame.{Frame}
use Rattle.ipc_frame.specs.declared.frame.Frame.TheVariants as frame
use Rattle.ipc_frame.specs.declared.version.CallEnd.{CallEnd}
use Rattle.ipc_frame.specs.declared.version.WireVersion.{WireVersion}
use Rattle.ipc_frame.specs.Versions.{end_count, end_in, version_of}
use Rattle.std.specs.Option.{option_map}
use Rattle.ipc_frame.specs.Numbers.{number_in, fields_in}
use Rattle.ipc_frame.specs.Parts.{words_of}
use Rattle.ipc_frame.specs.declared.kind.Side.TheVariants.{Server, Client}
use Rattle.ipc_frame.specs.Frames.{side_of, widths}
use Rattle.ipc_frame.specs.Reading.{Reading, Short, Bad, once, kind_in, least_size, is_wrong_size, is_pieced, tag_in, has_too_many_words, least_size_with, pieces_in, ipcr_in, frame_of, missing, whole_if, words_fault, body_known, fields_known, kind_known, size_known, reading, Tells, TellsBefore}
use Rattle.ipc_frame.proofs.NumberLemmas.{number_more}
use Rattle.ipc_frame.proofs.VersionLemmas.{outcome_head, tag_behind, tag_found}
use Rattle.ipc_frame.proofs.FoundLemmas.{side_found}
use Rattle.ipc_frame.proofs.PieceLemmas.{some_mapped_too}

pub number_one : (bytes : List ℕ) → number_in 1 bytes ≡ slice_index bytes 0
unfolding number_in
number_one bytes = omega arith

-- the tag and b, by their places
pub ipc_tag : (head : List ℕ) → slice_index (fields_in (widths Ipc) head) 4 ≡ number_in 8 (drop 28 head)
ipc_tag head = ap (number_in 8) (ap (λ xs. drop 8 (drop 4 xs)) (drop-drop 8 8 head) ∙ (ap (drop 8) (drop-drop 4 16 head) ∙ drop-drop 8 20 head))

pub ipc_few : (head : List ℕ) → slice_index (fields_in (widths Ipc) head) 6 ≡ slice_index head 44
ipc_few head =
    number_one (drop 8 (drop 8 (drop 8 (drop 4 (drop 8 (drop 8 head)))))) ∙ (ap (λ xs. slice_index xs 0) (ap (λ xs. drop 8 (drop 8 (drop 8 (drop 4 xs)))) (drop-drop 8 8 head) ∙ (ap (λ xs. drop 8 (drop 8 (drop 8 xs))) (drop-drop 4 16 head) ∙ (ap (λ xs. drop 8 (drop 8 xs)) (drop-drop 8 20 head) ∙ (ap (drop 8) (drop-drop 8 28 head) ∙ drop-drop 8 36 head)))) ∙ get_or-drop 44 head 0 0)

-- numbers are read from the bytes that they need
pub fields_more : (widths bytes more : List ℕ) → sum widths ≤ length bytes → fields_in widths (bytes ++ more) ≡ fields_in widths bytes
fields_more [] bytes more h = refl
fields_more (width ∷ widths) bytes more h =
    let all = sum_by-cons (λ (y : ℕ). y) width widths in
    let enough : width ≤ length bytes = omega arith in
    ap₂ (λ x xs. x ∷ xs) (number_more width bytes more enough) (ap (fields_in widths) (drop-append-le width bytes more enough) ∙ fields_more widths (drop width bytes) more (omega (arith, length-drop width bytes)))

fields_front : (widths bytes more : List ℕ) → sum widths ≤ length bytes → fields_in widths (take (sum widths) (bytes ++ more)) ≡ fields_in widths bytes
fields_front widths bytes more h =
    let front = take (sum widths) bytes in
    ap (fields_in widths) (take-append-le (sum widths) bytes more h) ∙ (sym (fields_more widths front (drop (sum widths) bytes) (omega (arith, length-take-le (sum widths) bytes h))) ∙ ap (fields_in widths) (take-append-drop (sum widths) bytes))

once_short : (count : ℕ) (bytes : List ℕ) (next : List ℕ → List ℕ → Reading) → length bytes < count → once count bytes next ≡ Short (count - length bytes)
once_short count bytes next h = let t : nat_lt (length bytes) count ≡ true = lt-ltb (length bytes) count h in rw t refl

once_enough : (count : ℕ) (bytes : List ℕ) (next : List ℕ → List ℕ → Reading) → count ≤ length bytes → once count bytes next ≡ next (take count bytes) (drop count bytes)
once_enough count bytes next h = let t : nat_lt (length bytes) count ≡ false = le-ltb (length bytes) count h in rw t refl

module _ (kind : FrameKind) (size : ℕ) (rest more : List ℕ) (right : is_wrong_size kind size ≡ false) where
  pub head_short : length rest + length more < sum (widths kind) → kind_known size (Some kind) (rest ++ more) ≡ Short (sum (widths kind) - (length rest + length more))
  unfolding kind_known
  head_short h =
      let total = length-append rest more in
      rw right (once_short (sum (widths kind)) (rest ++ more) (λ head behind. fields_known kind size (fields_in (widths kind) head) behind) (omega arith) ∙ ap (λ n. Short (sum (widths kind) - n)) total)

  head_told : sum (widths kind) ≤ length rest → kind_known size (Some kind) (rest ++ more) ≡ fields_known kind size (fields_in (widths kind) rest) (drop (sum (widths kind)) rest ++ more)
  unfolding kind_known
  head_told h =
      let total = length-append rest more in
      rw right (once_enough (sum (widths kind)) (rest ++ more) (λ head behind. fields_known kind size (fields_in (widths kind) head) behind) (omega arith) ∙ ap₂ (λ fields behind. fields_known kind size fields behind) (fields_front (widths kind) rest more h) (drop-append-le (sum (widths kind)) rest more h))

fault_told : (kind : FrameKind) (size : ℕ) (fields rest : List ℕ) (fault : FrameFault) → words_fault kind size fields ≡ Some fault → fields_known kind size fields rest ≡ Bad fault
unfolding fields_known
fault_told kind size fields rest fault e = elim (cases_Bool (has_too_many_words kind fields)) [
  | inl many ↦ let e2 = rw many at e in let same : TooManyWords ≡ fault = cc in rw many (ap Bad same)
  | inr few ↦ elim (cases_Bool (nat_lt size (least_size_with kind fields))) [
    | inl short ↦ let e2 = rw (few, short) at e in let same : WrongSize ≡ fault = cc in rw (few, short) (ap Bad same)
    | inr enough ↦ let e2 = rw (few, enough) at e in absurd (cc)
  ]
]

no_fault_told : (kind : FrameKind) (size : ℕ) (fields rest : List ℕ) → words_fault kind size fields ≡ None → fields_known kind size fields rest ≡ once (size - (1 + sum (widths kind))) rest (λ tail behind. body_known kind size fields tail)
unfolding fields_known
no_fault_told kind size fields rest e = elim (cases_Bool (has_too_many_words kind fields)) [
  | inl many ↦ let e2 = rw many at e in absurd (cc)
  | inr few ↦ elim (cases_Bool (nat_lt size (least_size_with kind fields))) [
    | inl short ↦ let e2 = rw (few, short) at e in absurd (cc)
    | inr enough ↦ rw (few, enough) refl
  ]
]

made : (kind : FrameKind) (fields tail : List ℕ) → is_pieced kind ≡ false → kind ≢ HelloTwo → (f : Frame) × (frame_of kind fields tail ≡ Some f)
made Hello fields tail whole named = (_, refl)
made HelloTwo fields tail whole named = absurd (named refl)
made Ipc fields tail whole named = (_, refl)
made Exreg fields tail whole named = (_, refl)
made Bye fields tail whole named = (_, refl)
made Welcome fields tail whole named = (_, refl)
made (Ipcr version) fields tail whole named = absurd (cc)
made Exregr fields tail whole named = (_, refl)
made Refused fields tail whole named = (_, refl)
made Fault fields tail whole named = (_, refl)
made ExregrTwo fields tail whole named = (_, refl)

missing_pieces : (kind : FrameKind) → is_pieced kind ≡ true → missing kind ≡ WrongSize
missing_pieces Hello e = absurd (cc)
missing_pieces HelloTwo e = absurd (cc)
missing_pieces Ipc e = absurd (cc)
missing_pieces Exreg e = absurd (cc)
missing_pieces Bye e = absurd (cc)
missing_pieces Welcome e = absurd (cc)
missing_pieces (Ipcr version) e = refl
missing_pieces Exregr e = absurd (cc)
missing_pieces Refused e = absurd (cc)
missing_pieces Fault e = absurd (cc)
missing_pieces ExregrTwo e = absurd (cc)

module _ (kind : FrameKind) (size behind : ℕ) (rest : List ℕ) (right : is_wrong_size kind size ≡ false) where
  pub short_head : length rest < sum (widths kind) → behind ≡ 0 → TellsBefore (judged.Short (sum (widths kind) - length rest)) behind (λ more. kind_known size (Some kind) (rest ++ more))
  short_head h none more l =
      head_short kind size rest more right (omega arith) ∙ ap (λ n. Short (sum (widths kind) - n)) (let e : length rest + length more ≡ length rest = omega arith in e)

  pub bad_words : sum (widths kind) ≤ length rest → (fault : FrameFault) → words_fault kind size (fields_in (widths kind) rest) ≡ Some fault → TellsBefore (judged.Bad fault) behind (λ more. kind_known size (Some kind) (rest ++ more))
  bad_words h fault e more l = head_told kind size rest more right h ∙ fault_told kind size _ _ fault e

  pub short_tail : sum (widths kind) ≤ length rest → words_fault kind size (fields_in (widths kind) rest) ≡ None → (wanted there : ℕ) → wanted ≡ size - (1 + sum (widths kind)) → there ≡ (length rest - sum (widths kind)) + behind → there < wanted → TellsBefore (judged.Short (wanted - there)) behind (λ more. kind_known size (Some kind) (rest ++ more))
  short_tail h e wanted there is_wanted is_there few more l =
      let back = drop (sum (widths kind)) rest ++ more in
      let total : length back ≡ there = length-append (drop (sum (widths kind)) rest) more ∙ (let d = length-drop (sum (widths kind)) rest in omega arith) in
      head_told kind size rest more right h ∙ (no_fault_told kind size _ _ e ∙ (once_short (size - (1 + sum (widths kind))) back (λ tail behind. body_known kind size (fields_in (widths kind) rest) tail) (omega arith) ∙ ap₂ (λ a b. Short (a - b)) (sym is_wanted) total))

  -- the body is there, whatever so many bytes behind are
  body_there : sum (widths kind) ≤ length rest → words_fault kind size (fields_in (widths kind) rest) ≡ None → (wanted there : ℕ) → wanted ≡ size - (1 + sum (widths kind)) → there ≡ (length rest - sum (widths kind)) + behind → wanted ≤ there → (more : List ℕ) → length more ≡ behind → kind_known size (Some kind) (rest ++ more) ≡ whole_if (missing kind) size (frame_of kind (fields_in (widths kind) rest) (take (size - (1 + sum (widths kind))) (drop (sum (widths kind)) rest ++ more)))
  unfolding body_known
  body_there h e wanted there is_wanted is_there enough more l =
      let back = drop (sum (widths kind)) rest ++ more in
      let total : length back ≡ there = length-append (drop (sum (widths kind)) rest) more ∙ (let d = length-drop (sum (widths kind)) rest in omega arith) in
      head_told kind size rest more right h ∙ (no_fault_told kind size _ _ e ∙ once_enough (size - (1 + sum (widths kind))) back (λ tail behind. body_known kind size (fields_in (widths kind) rest) tail) (omega arith))

  pub whole_tail : sum (widths kind) ≤ length rest → words_fault kind size (fields_in (widths kind) rest) ≡ None → (wanted there : ℕ) → wanted ≡ size - (1 + sum (widths kind)) → there ≡ (length rest - sum (widths kind)) + behind → wanted ≤ there → is_pieced kind ≡ false → kind ≢ HelloTwo → TellsBefore judged.Whole behind (λ more. kind_known size (Some kind) (rest ++ more))
  whole_tail h e wanted there is_wanted is_there enough whole named more l =
      let f = made kind (fields_in (widths kind) rest) (take (size - (1 + sum (widths kind))) (drop (sum (widths kind)) rest ++ more)) whole named in
      (f.0, (4 + size, body_there h e wanted there is_wanted is_there enough more l ∙ ap (whole_if (missing kind) size) f.1))

-- the version that a HELLO names
module _ (size behind : ℕ) (rest : List ℕ) (right : is_wrong_size HelloTwo size ≡ false) where
  abbrev named : ℕ
  named = number_in 2 (drop 2 rest)

  told_by : (o : Option WireVersion) → version_of named ≡ o → (reading : Reading) → reading ≡ whole_if UnknownVersion size (option_map (frame.Hello (number_in 2 rest)) (version_of named)) → Tells (if is_some o then judged.Whole else judged.Bad UnknownVersion) reading
  told_by (Some version) is reading e = (frame.Hello (number_in 2 rest) version, (4 + size, rw is at e))
  told_by None is reading e = rw is at e

  pub version_tail : 4 ≤ length rest → words_fault HelloTwo size (fields_in (widths HelloTwo) rest) ≡ None → (wanted there : ℕ) → wanted ≡ size - 5 → there ≡ (length rest - 4) + behind → wanted ≤ there → TellsBefore (if is_some (version_of named) then judged.Whole else judged.Bad UnknownVersion) behind (λ more. kind_known size (Some HelloTwo) (rest ++ more))
  version_tail h e wanted there is_wanted is_there enough more l =
      told_by (version_of named) refl _ (body_there HelloTwo size behind rest right h e wanted there is_wanted is_there enough more l)

some_there : (o : Option Frame) → is_some o ≡ true → (f : Frame) × (o ≡ Some f)
some_there None h = absurd (cc)
some_there (Some f) h = (f, refl)

none_there : (o : Option Frame) → is_some o ≡ false → o ≡ None
none_there None h = refl
none_there (Some f) h = absurd (cc)

-- the last test of a body that is at hand
module _ (kind : FrameKind) (size behind : ℕ) (rest : List ℕ) (right : is_wrong_size kind size ≡ false) where
  abbrev made_here : Option Frame
  made_here = frame_of kind (fields_in (widths kind) rest) (take (size - (1 + sum (widths kind))) (drop (sum (widths kind)) rest))

  tail_told : sum (widths kind) ≤ length rest → words_fault kind size (fields_in (widths kind) rest) ≡ None → size ≤ 1 + length rest → behind ≡ 0 → (more : List ℕ) → length more ≡ behind → kind_known size (Some kind) (rest ++ more) ≡ whole_if (missing kind) size made_here
  tail_told h e there none more l =
      let back = drop (sum (widths kind)) rest in
      let nothing : more ≡ [] = nil_from_length more (l ∙ none) in
      let behind_head : back ++ more ≡ back = ap (λ xs. back ++ xs) nothing ∙ append-nil back in
      body_there kind size behind rest right h e (size - (1 + sum (widths kind))) ((length rest - sum (widths kind)) + behind) refl refl (omega arith) more l
      ∙ ap (λ xs. whole_if (missing kind) size (frame_of kind (fields_in (widths kind) rest) (take (size - (1 + sum (widths kind))) xs))) behind_head

  pub pieces_end : sum (widths kind) ≤ length rest → words_fault kind size (fields_in (widths kind) rest) ≡ None → size ≤ 1 + length rest → behind ≡ 0 → is_some made_here ≡ true → TellsBefore judged.Whole behind (λ more. kind_known size (Some kind) (rest ++ more))
  pieces_end h e there none some more l =
      let f = some_there made_here some in
      (f.0, (4 + size, tail_told h e there none more l ∙ ap (whole_if (missing kind) size) f.1))

  pub pieces_past : sum (widths kind) ≤ length rest → words_fault kind size (fields_in (widths kind) rest) ≡ None → size ≤ 1 + length rest → behind ≡ 0 → is_pieced kind ≡ true → is_some made_here ≡ false → TellsBefore (judged.Bad WrongSize) behind (λ more. kind_known size (Some kind) (rest ++ more))
  pieces_past h e there none pieced some more l =
      tail_told h e there none more l ∙ (ap (whole_if (missing kind) size) (none_there made_here some) ∙ ap Bad (missing_pieces kind pieced))

-- the tag of an IPCR comes 32 bytes before its words
pub tag_there : (kind : FrameKind) (head : List ℕ) → is_pieced kind ≡ true → number_in 8 (drop (sum (widths kind) - 32) head) ≡ tag_in kind (fields_in (widths kind) head)
tag_there (Ipcr version) head e =
    let place : sum (widths (Ipcr version)) - 32 ≡ 8 * end_count version = omega (arith, outcome_head version) in
    ap (λ n. number_in 8 (drop n head)) place ∙ sym (tag_found version head)
tag_there Hello head e = absurd (cc)
tag_there HelloTwo head e = absurd (cc)
tag_there Ipc head e = absurd (cc)
tag_there Exreg head e = absurd (cc)
tag_there Bye head e = absurd (cc)
tag_there Welcome head e = absurd (cc)
tag_there Exregr head e = absurd (cc)
tag_there Refused head e = absurd (cc)
tag_there Fault head e = absurd (cc)
tag_there ExregrTwo head e = absurd (cc)

pub pieced_head : (kind : FrameKind) → is_pieced kind ≡ true → 32 ≤ sum (widths kind)
pieced_head (Ipcr version) e = omega (arith, outcome_head version)
pieced_head Hello e = absurd (cc)
pieced_head HelloTwo e = absurd (cc)
pieced_head Ipc e = absurd (cc)
pieced_head Exreg e = absurd (cc)
pieced_head Bye e = absurd (cc)
pieced_head Welcome e = absurd (cc)
pieced_head Exregr e = absurd (cc)
pieced_head Refused e = absurd (cc)
pieced_head Fault e = absurd (cc)
pieced_head ExregrTwo e = absurd (cc)

-- of an IPCR: too many words, or a body that is too short for them
pub words_of_ipcr : (kind : FrameKind) (size words : ℕ) (fields : List ℕ) → is_pieced kind ≡ true → words ≡ words_of (tag_in kind fields) → (if nat_lt 63 words then Some TooManyWords else if nat_lt size (sum (widths kind) + 2 + 8 * words) then Some WrongSize else None) ≡ words_fault kind size fields
words_of_ipcr (Ipcr version) size words fields e is =
    let least : sum (widths (Ipcr version)) + 2 + 8 * words ≡ 34 + 8 * end_count version + 8 * words_of (slice_index fields (end_count version)) = omega (arith, outcome_head version, is) in
    ap₂ (λ w k. if nat_lt 63 w then Some TooManyWords else if nat_lt size k then Some WrongSize else None) is least
words_of_ipcr Hello size words fields e is = absurd (cc)
words_of_ipcr HelloTwo size words fields e is = absurd (cc)
words_of_ipcr Ipc size words fields e is = absurd (cc)
words_of_ipcr Exreg size words fields e is = absurd (cc)
words_of_ipcr Bye size words fields e is = absurd (cc)
words_of_ipcr Welcome size words fields e is = absurd (cc)
words_of_ipcr Exregr size words fields e is = absurd (cc)
words_of_ipcr Refused size words fields e is = absurd (cc)
words_of_ipcr Fault size words fields e is = absurd (cc)
words_of_ipcr ExregrTwo size words fields e is = absurd (cc)

-- the pieces of an IPCR body behind its words
pieces_of_ipcr : (end : Option CallEnd) (words : ℕ) (fields tail behind : List ℕ) (fit : Bool) → words ≡ words_of (slice_index fields 0) → behind ≡ drop (8 * words) tail → fit ≡ is_some (pieces_in (slice_index behind 0) (drop 1 behind)) → fit ≡ is_some (ipcr_in end fields tail)
pieces_of_ipcr end words fields tail behind fit is_words is_behind is_fit =
    let there : behind ≡ drop (8 * words_of (slice_index fields 0)) tail = is_behind ∙ ap (λ n. drop (8 * n) tail) is_words in
    is_fit ∙ (ap (λ n. is_some (pieces_in n (drop 1 behind))) (sym (number_one behind)) ∙ (ap (λ xs. is_some (pieces_in (number_in 1 xs) (drop 1 xs))) there ∙ sym (some_mapped_too _ _)))

pub pieces_behind : (kind : FrameKind) (words : ℕ) (fields tail behind : List ℕ) (fit : Bool) → is_pieced kind ≡ true → words ≡ words_of (tag_in kind fields) → behind ≡ drop (8 * words) tail → fit ≡ is_some (pieces_in (slice_index behind 0) (drop 1 behind)) → fit ≡ is_some (frame_of kind fields tail)
pieces_behind (Ipcr version) words fields tail behind fit e is_words is_behind is_fit =
    pieces_of_ipcr (end_in version fields) words (drop (end_count version) fields) tail behind fit (is_words ∙ ap words_of (sym (tag_behind version fields))) is_behind is_fit
pieces_behind Hello words fields tail behind fit e is_words is_behind is_fit = absurd (cc)
pieces_behind HelloTwo words fields tail behind fit e is_words is_behind is_fit = absurd (cc)
pieces_behind Ipc words fields tail behind fit e is_words is_behind is_fit = absurd (cc)
pieces_behind Exreg words fields tail behind fit e is_words is_behind is_fit = absurd (cc)
pieces_behind Bye words fields tail behind fit e is_words is_behind is_fit = absurd (cc)
pieces_behind Welcome words fields tail behind fit e is_words is_behind is_fit = absurd (cc)
pieces_behind Exregr words fields tail behind fit e is_words is_behind is_fit = absurd (cc)
pieces_behind Refused words fields tail behind fit e is_words is_behind is_fit = absurd (cc)
pieces_behind Fault words fields tail behind fit e is_words is_behind is_fit = absurd (cc)
pieces_behind ExregrTwo words fields tail behind fit e is_words is_behind is_fit = absurd (cc)

-- an IPCR body has room for its words and its count byte
pub words_room : (kind : FrameKind) (size : ℕ) (fields : List ℕ) → is_pieced kind ≡ true → words_fault kind size fields ≡ None → sum (widths kind) + 2 + 8 * words_of (tag_in kind fields) ≤ size
words_room kind size fields pieced e =
    go (nat_lt 63 (words_of (tag_in kind fields))) (nat_lt size (sum (widths kind) + 2 + 8 * words_of (tag_in kind fields))) refl (words_of_ipcr kind size (words_of (tag_in kind fields)) fields pieced refl ∙ e)
  where
    go : (many short : Bool) → nat_lt size (sum (widths kind) + 2 + 8 * words_of (tag_in kind fields)) ≡ short → (if many then Some TooManyWords else if short then Some WrongSize else None) ≡ None → sum (widths kind) + 2 + 8 * words_of (tag_in kind fields) ≤ size
    go true short is none = absurd (cc)
    go false true is none = absurd (cc)
    go false false is none = ltb-false size _ is

-- only IPC and IPCR have words to judge
room_left : (kind : FrameKind) (size : ℕ) → is_wrong_size kind size ≡ false → nat_lt size (least_size kind) ≡ false
room_left kind size right = (or_parts _ _ right).0

pub no_words : (kind : FrameKind) (size : ℕ) (fields : List ℕ) → is_wrong_size kind size ≡ false → kind ≢ Ipc → is_pieced kind ≡ false → None ≡ words_fault kind size fields
no_words Hello size fields right a b = rw (room_left Hello size right) refl
no_words Ipc size fields right a b = absurd (a refl)
no_words Exreg size fields right a b = rw (room_left Exreg size right) refl
no_words Bye size fields right a b = rw (room_left Bye size right) refl
no_words Welcome size fields right a b = rw (room_left Welcome size right) refl
no_words (Ipcr version) size fields right a b = absurd (cc)
no_words Exregr size fields right a b = rw (room_left Exregr size right) refl
no_words Refused size fields right a b = rw (room_left Refused size right) refl
no_words Fault size fields right a b = rw (room_left Fault size right) refl
no_words HelloTwo size fields right a b = rw (room_left HelloTwo size right) refl
no_words ExregrTwo size fields right a b = rw (room_left ExregrTwo size right) refl

-- what the tag and b show, by their places
pub words_by_place : (size : ℕ) (head : List ℕ) (tag few : ℕ) → tag ≡ number_in 8 (drop 28 head) → few ≡ slice_index head 44 → (if nat_lt 63 (words_of tag) || nat_lt 32 few then Some TooManyWords else if nat_lt size (46 + 8 * words_of tag + 8 * few) then Some WrongSize else None) ≡ words_fault Ipc size (fields_in (widths Ipc) head)
words_by_place size head tag few t f =
    ap₂ (λ x y. if nat_lt 63 (words_of x) || nat_lt 32 y then Some TooManyWords else if nat_lt size (46 + 8 * words_of x + 8 * y) then Some WrongSize else None) (t ∙ sym (ipc_tag head)) (f ∙ sym (ipc_few head))

pub not_pieced : (kind : FrameKind) → ((version : WireVersion) → kind ≢ Ipcr version) → is_pieced kind ≡ false
not_pieced (Ipcr version) a = absurd (a version refl)
not_pieced Hello a = refl
not_pieced HelloTwo a = refl
not_pieced Ipc a = refl
not_pieced Exreg a = refl
not_pieced Bye a = refl
not_pieced Welcome a = refl
not_pieced Exregr a = refl
not_pieced Refused a = refl
not_pieced Fault a = refl
not_pieced ExregrTwo a = refl

-- the server is sent no IPCR
side_pieced : (kind : FrameKind) → is_pieced kind ≡ true → side_of kind ≡ Client
side_pieced (Ipcr version) e = refl
side_pieced Hello e = absurd (cc)
side_pieced HelloTwo e = absurd (cc)
side_pieced Ipc e = absurd (cc)
side_pieced Exreg e = absurd (cc)
side_pieced Bye e = absurd (cc)
side_pieced Welcome e = refl
side_pieced Exregr e = refl
side_pieced Refused e = refl
side_pieced Fault e = refl
side_pieced ExregrTwo e = refl

pub pieced_side : (side : Side) (size byte : ℕ) (kind : FrameKind) → kind_in side size byte ≡ Some kind → is_pieced kind ≡ true → side ≡ Client
pieced_side side size byte kind e pieced = sym (side_found side size byte kind e) ∙ side_pieced kind pieced

head_within : (kind : FrameKind) → side_of kind ≡ Server → sum (widths kind) ≤ 45
head_within Hello e = omega arith
head_within Ipc e = omega arith
head_within Exreg e = omega arith
head_within Bye e = omega arith
head_within Welcome e = absurd (cc)
head_within (Ipcr version) e = absurd (cc)
head_within Exregr e = absurd (cc)
head_within Refused e = absurd (cc)
head_within Fault e = absurd (cc)
head_within HelloTwo e = omega arith
head_within ExregrTwo e = absurd (cc)

-- the bytes that come behind are a payload, so the numbers are there
pub head_there : (side : Side) (size byte behind n : ℕ) (kind : FrameKind) → kind_in side size byte ≡ Some kind → (side ≡ Client → behind ≡ 0) → (0 < behind → 46 ≤ suc n) → 0 < behind → sum (widths kind) ≤ n
head_there Server size byte behind n kind e none there some = omega (arith, head_within kind (side_found Server size byte kind e), there some)
head_there Client size byte behind n kind e none there some = absurd (omega (arith, none refl, some))

-- behind the length
module _ (side : Side) (size behind : ℕ) (within : size ≤ max_frame_body) (some : 0 < size) where
  pub short_body : behind ≡ 0 → TellsBefore (judged.Short 1) behind (λ more. size_known side size ([] ++ more))
  unfolding size_known
  short_body none more l =
      let a : nat_lt max_frame_body size ≡ false = le-ltb max_frame_body size within in
      let b : (size == 0) ≡ false = ne_eqb size 0 (λ e. omega arith) in
      rw (a, b, nil_from_length more (l ∙ none)) refl

  pub body_told : (byte : ℕ) (rest more : List ℕ) → size_known side size ((byte ∷ rest) ++ more) ≡ kind_known size (kind_in side size byte) (rest ++ more)
  unfolding size_known
  body_told byte rest more =
      let a : nat_lt max_frame_body size ≡ false = le-ltb max_frame_body size within in
      let b : (size == 0) ≡ false = ne_eqb size 0 (λ e. omega arith) in
      let c : nat_lt (suc (length (rest ++ more))) 1 ≡ false = le-ltb _ 1 (omega arith) in
      rw (a, b, c) (ap (λ k. kind_known size (kind_in side size k) (rest ++ more)) (number_one (byte ∷ [])))

  pub bad_kind : (byte : ℕ) (rest : List ℕ) → kind_in side size byte ≡ None → TellsBefore (judged.Bad UnknownKind) behind (λ more. size_known side size ((byte ∷ rest) ++ more))
  unfolding kind_known
  bad_kind byte rest e more l = body_told byte rest more ∙ ap (λ k. kind_known size k (rest ++ more)) e

  pub bad_size : (byte : ℕ) (rest : List ℕ) (kind : FrameKind) → kind_in side size byte ≡ Some kind → is_wrong_size kind size ≡ true → TellsBefore (judged.Bad WrongSize) behind (λ more. size_known side size ((byte ∷ rest) ++ more))
  unfolding kind_known
  bad_size byte rest kind e wrong more l = body_told byte rest more ∙ (ap (λ k. kind_known size k (rest ++ more)) e ∙ rw wrong refl)

  pub right_kind : (byte : ℕ) (rest : List ℕ) (kind : FrameKind) (j : Judgement) → kind_in side size byte ≡ Some kind → TellsBefore j behind (λ more. kind_known size (Some kind) (rest ++ more)) → TellsBefore j behind (λ more. size_known side size ((byte ∷ rest) ++ more))
  right_kind byte rest kind j e told more l =
      let same : kind_known size (Some kind) (rest ++ more) ≡ size_known side size ((byte ∷ rest) ++ more) = sym (body_told byte rest more ∙ ap (λ k. kind_known size k (rest ++ more)) e) in
      subst (λ r. Tells j r) same (told more l)

-- from the start
module _ (side : Side) (held : List ℕ) (behind : ℕ) where
  pub short_start : length held < 4 → behind ≡ 0 → TellsBefore (judged.Short (4 - length held)) behind (λ more. reading side (held ++ more))
  unfolding reading
  short_start h none more l =
      let total = length-append held more in
      once_short 4 (held ++ more) (λ size behind. size_known side (number_in 4 size) behind) (omega arith) ∙ ap (λ n. Short (4 - n)) (let e : length (held ++ more) ≡ length held = omega arith in e)

  pub start_told : 4 ≤ length held → (more : List ℕ) → reading side (held ++ more) ≡ size_known side (number_in 4 held) (drop 4 held ++ more)
  unfolding reading
  start_told h more =
      let total = length-append held more in
      let front = take 4 held in
      let number : number_in 4 (take 4 (held ++ more)) ≡ number_in 4 held = ap (number_in 4) (take-append-le 4 held more h) ∙ (sym (number_more 4 front (drop 4 held) (omega (arith, length-take-le 4 held h))) ∙ ap (number_in 4) (take-append-drop 4 held)) in
      once_enough 4 (held ++ more) (λ size behind. size_known side (number_in 4 size) behind) (omega arith) ∙ ap₂ (λ n xs. size_known side n xs) number (drop-append-le 4 held more h)

  pub too_long : 4 ≤ length held → max_frame_body < number_in 4 held → TellsBefore (judged.Bad TooLong) behind (λ more. reading side (held ++ more))
  unfolding size_known
  too_long h long more l = start_told h more ∙ (let t : nat_lt max_frame_body (number_in 4 held) ≡ true = lt-ltb max_frame_body (number_in 4 held) long in rw t refl)

  pub no_body : 4 ≤ length held → number_in 4 held ≡ 0 → TellsBefore (judged.Bad WrongSize) behind (λ more. reading side (held ++ more))
  unfolding size_known
  no_body h none more l = start_told h more ∙ rw none refl

  pub right_start : 4 ≤ length held → (size : ℕ) (j : Judgement) → size ≡ number_in 4 held → TellsBefore j behind (λ more. size_known side size (drop 4 held ++ more)) → TellsBefore j behind (λ more. reading side (held ++ more))
  right_start h size j e told more l =
      subst (λ r. Tells j r) (ap (λ n. size_known side n (drop 4 held ++ more)) e ∙ sym (start_told h more)) (told more l)

pub no_more : (behind a b : ℕ) → (0 < behind → a ≤ b) → b < a → behind ≡ 0
no_more zero a b f h = refl
no_more (suc behind) a b f h = let k : a ≤ b = f (omega arith) in absurd (omega arith)
