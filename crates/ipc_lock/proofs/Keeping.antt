-- What becomes of what is true of a box: its pen is its own, and the thread that is told there and
-- what is posted there are its connection's.
use Rattle.std.proofs.Common.{◌≡◌, ℕ, List, [], ◌∷◌, ◌++◌, Bool, true, false, Option, Some, None, ◌==◌, ◌&&◌, ◌||◌, eq-eqb, if◌then◌else◌, refl, sym, ap, ap₂, ◌∙◌, subst}
use Rattle.std.proofs.lemmas.List.Elements.{All-set, All-weaker, Contains-append_left, Contains-push}
use Rattle.std.proofs.lemmas.List.Folds.{list_any-append}
use Rattle.std.proofs.lemmas.Option.{none-some, same_Some}
use Rattle.std.specs.Prelude.{Contains, slice_get}
use Rattle.ipc_connection.specs.declared.replying.Told.{Told}
use Rattle.ipc_connection.specs.declared.replying.Told.TheVariants as told
use Rattle.ipc_core.specs.Outcomes.{is_among}
use Rattle.ipc_core.proofs.BusyLaws.{still_among}
use Rattle.ipc_frame.specs.declared.version.WireVersion.{WireVersion}
use Rattle.ipc_connection.specs.Pens.{new_page}
use Rattle.ipc_seats.specs.Boxes.{BoxParts, changed, changed_at, cleared, is_full, is_of, new_box, posted_to, put_at, welcomed}
use Rattle.ipc_seats.specs.Gifts.{number_in, number_of_box}
use Rattle.ipc_seats.specs.Places.{gives_back, new_seat, shut_for, told_in}
use Rattle.ipc_lock.specs.Logs.{opened_in, said_in}
use Rattle.ipc_lock.proofs.Looking.{AreKept, IsKept, Known, kept_there}

pub same_boxes : (known : ℕ → Known) (boxes after : List BoxParts) → after ≡ boxes → AreKept known boxes → AreKept known after
same_boxes known boxes after same kept = subst (λ (b : List BoxParts). AreKept known b) (sym same) kept

-- more is known
pub record Grows (known now : ℕ → Known) : Type 0 where
  pub opened : (number thread : ℕ) → is_among thread (known number).opened ≡ true → is_among thread (now number).opened ≡ true
  pub said : (number : ℕ) (told : Told) → Contains (known number).said told → Contains (now number).said told

pub kept_grown : (known now : ℕ → Known) (box : BoxParts) → Grows known now → IsKept known box → IsKept now box
kept_grown known now box grows kept = record {
  own = kept.own;
  seated = λ number thread of is. grows.opened number thread (kept.seated number thread of is);
  posted = λ number said of is. grows.said number said (kept.posted number said of is);
}

pub all_grown : (known now : ℕ → Known) (boxes : List BoxParts) → Grows known now → AreKept known boxes → AreKept now boxes
all_grown known now boxes grows kept = All-weaker (IsKept known) (IsKept now) (λ (box : BoxParts). kept_grown known now box grows) boxes kept

kept_changed : (known now : ℕ → Known) (change : BoxParts → BoxParts) (boxes : List BoxParts) (place : ℕ) → Grows known now
    → ((box : BoxParts) → slice_get boxes place ≡ Some box → IsKept known box → IsKept now (change box))
    → AreKept known boxes → AreKept now (changed_at change boxes place)
kept_changed known now change boxes place grows one kept = go (slice_get boxes place) refl
  where
    all : AreKept now boxes
    all = all_grown known now boxes grows kept

    go : (o : Option BoxParts) → slice_get boxes place ≡ o → AreKept now (put_at boxes place (changed change o))
    go None is = all
    go (Some box) is = All-set (IsKept now) boxes place (change box) (one box is (kept_there known boxes place box is kept)) all

kept_if : (known : ℕ → Known) (b : Bool) (one other : BoxParts) → IsKept known one → IsKept known other → IsKept known (if b then one else other)
kept_if known true one other h k = h
kept_if known false one other h k = k

grows_none : (known : ℕ → Known) → Grows known known
grows_none known = record { opened = λ number thread among. among; said = λ number told there. there }

kept_at : (known : ℕ → Known) (change : BoxParts → BoxParts) (boxes : List BoxParts) (place : ℕ) → ((box : BoxParts) → IsKept known box → IsKept known (change box))
    → AreKept known boxes → AreKept known (changed_at change boxes place)
kept_at known change boxes place one kept = kept_changed known known change boxes place (grows_none known) (λ box is k. one box k) kept

kept_shut : (known : ℕ → Known) (number : ℕ) (box : BoxParts) → IsKept known box → IsKept known (shut_for number box)
kept_shut known number box kept =
    kept_if known (is_of number box.number) (record box { shut = true }) box (record { own = kept.own; seated = kept.seated; posted = kept.posted }) kept

pub all_shut : (known : ℕ → Known) (number : ℕ) (boxes : List BoxParts) (place : ℕ) → AreKept known boxes → AreKept known (changed_at (shut_for number) boxes place)
all_shut known number boxes place kept = kept_at known (shut_for number) boxes place (kept_shut known number) kept

kept_cleared : (known : ℕ → Known) (number : ℕ) (box : BoxParts) → IsKept known box → IsKept known (gives_back number box)
kept_cleared known number box kept =
    kept_if known (is_of number box.number) (cleared box) box
    (record { own = refl; seated = λ n thread of is. absurd (none-some n of); posted = λ n said of is. absurd (none-some n of) }) kept

pub all_cleared : (known : ℕ → Known) (number : ℕ) (boxes : List BoxParts) (place : ℕ) → AreKept known boxes → AreKept known (changed_at (gives_back number) boxes place)
all_cleared known number boxes place kept = kept_at known (gives_back number) boxes place (kept_cleared known number) kept

both_same : (a b : ℕ) → (a == a) && (b == b) ≡ true
both_same a b = ap₂ (λ (x y : Bool). x && y) (eq-eqb a a refl) (eq-eqb b b refl)

pub kept_new : (known : ℕ → Known) (place number : ℕ) (out : Option (List ℕ)) (failures : ℕ) → IsKept known (new_box place number (new_page place number out failures))
kept_new known place number out failures = record {
  own = both_same place number;
  seated = λ n thread of is. absurd (none-some thread is);
  posted = λ n said of is. absurd (none-some said is);
}

-- What a connection was told

-- what is known behind something that the connection of a box was told, and threads that it opened
-- so
abbrev pub with_said : (ℕ → Known) → (ℕ → List ℕ) → List ℕ → Told → ℕ → Known
with_said known opens owns said number = record { opened = (known number).opened ++ opens number; said = (known number).said ++ said_in number owns said }

said_grows : (known : ℕ → Known) (opens : ℕ → List ℕ) (owns : List ℕ) (said : Told) → Grows known (with_said known opens owns said)
said_grows known opens owns said = record {
  opened = λ number thread among. still_among thread (known number).opened (opens number) among;
  said = λ number told there. Contains-append_left (known number).said (said_in number owns said) told there;
}

own_number : (box : BoxParts) (owns : List ℕ) (number : ℕ) → owns ≡ number_in (Some box) → box.number ≡ Some number → owns ≡ number ∷ []
own_number box owns number its of = its ∙ ap number_of_box of

said_here : (known : ℕ → Known) (opens : ℕ → List ℕ) (box : BoxParts) (owns : List ℕ) (said : Told) (number : ℕ) → owns ≡ number_in (Some box) → box.number ≡ Some number
    → Contains (with_said known opens owns said number).said said
said_here known opens box owns said number its of =
    let there : said_in number owns said ≡ said ∷ [] =
    ap (λ (l : List ℕ). said_in number l said) (own_number box owns number its of) ∙ ap (λ (b : Bool). if b then said ∷ [] else []) (eq-eqb number number refl) in
    subst (λ (l : List Told). Contains ((known number).said ++ l) said) (sym there) (Contains-push (known number).said said)

kept_posted : (known : ℕ → Known) (opens : ℕ → List ℕ) (owns : List ℕ) (said : Told) (box : BoxParts) → owns ≡ number_in (Some box) → IsKept known box
    → IsKept (with_said known opens owns said) (posted_to said box)
kept_posted known opens owns said box its kept =
    let grown = kept_grown known (with_said known opens owns said) box (said_grows known opens owns said) kept in
    kept_if (with_said known opens owns said) (is_full box) box (record box { posted = Some said }) grown (record {
      own = grown.own;
      seated = grown.seated;
      posted = λ number other of is. subst (λ (t : Told). Contains (with_said known opens owns said number).said t) (same_Some said other is)
          (said_here known opens box owns said number its of);
    })

pub all_posted : (known : ℕ → Known) (opens : ℕ → List ℕ) (owns : List ℕ) (said : Told) (boxes : List BoxParts) (place : ℕ) → owns ≡ number_in (slice_get boxes place)
    → AreKept known boxes → AreKept (with_said known opens owns said) (changed_at (posted_to said) boxes place)
all_posted known opens owns said boxes place its kept =
    kept_changed known (with_said known opens owns said) (posted_to said) boxes place (said_grows known opens owns said)
    (λ box is one. kept_posted known opens owns said box (its ∙ ap number_in is) one) kept

-- A request that opened a thread

among_last : (threads : List ℕ) (thread : ℕ) → is_among thread (threads ++ thread ∷ []) ≡ true
among_last threads thread =
    list_any-append (λ k. k == thread) threads (thread ∷ [])
    ∙ (ap (λ (b : Bool). is_among thread threads || (b || false)) (eq-eqb thread thread refl) ∙ either (is_among thread threads))
  where
    either : (b : Bool) → b || (true || false) ≡ true
    either true = refl
    either false = refl

-- what is known behind a request
abbrev pub with_request : (ℕ → Known) → List ℕ → Told → ℕ → Known
with_request known owns said = with_said known (λ (number : ℕ). opened_in number owns said) owns said

kept_welcome : (known : ℕ → Known) (owns : List ℕ) (thread : ℕ) (version : WireVersion) (box : BoxParts) → owns ≡ number_in (Some box) → IsKept known box
    → IsKept (with_request known owns (told.Opened thread version)) (welcomed (record { thread = thread; taken = 0 }) version box)
kept_welcome known owns thread version box its kept = record {
  own = kept.own;
  seated = λ number other of is.
      let there : opened_in number owns (told.Opened thread version) ≡ thread ∷ [] =
      ap (λ (l : List ℕ). opened_in number l (told.Opened thread version)) (own_number box owns number its of)
      ∙ ap (λ (b : Bool). if b then thread ∷ [] else []) (eq-eqb number number refl) in
      subst (λ (t : ℕ). is_among t (with_request known owns (told.Opened thread version) number).opened ≡ true) (same_Some thread other is)
      (ap (λ (l : List ℕ). is_among thread ((known number).opened ++ l)) there ∙ among_last (known number).opened thread);
  posted = λ number other of is.
      subst (λ (t : Told). Contains (with_request known owns (told.Opened thread version) number).said t) (same_Some (told.Opened thread version) other is)
      (said_here known (λ (n : ℕ). opened_in n owns (told.Opened thread version)) box owns (told.Opened thread version) number its of);
}

pub kept_told_in : (known : ℕ → Known) (owns : List ℕ) (said : Told) (boxes : List BoxParts) (place : ℕ) → owns ≡ number_in (slice_get boxes place)
    → AreKept known boxes → AreKept (with_request known owns said) (told_in said (new_seat said) boxes place)
kept_told_in known owns said boxes place its kept = go said
  where
    all : (said : Told) → AreKept (with_request known owns said) boxes
    all said = all_grown known (with_request known owns said) boxes (said_grows known (λ (number : ℕ). opened_in number owns said) owns said) kept

    go : (said : Told) → AreKept (with_request known owns said) (told_in said (new_seat said) boxes place)
    go (told.Opened thread version) =
        kept_changed known (with_request known owns (told.Opened thread version)) (welcomed (record { thread = thread; taken = 0 }) version) boxes place
        (said_grows known (λ (number : ℕ). opened_in number owns (told.Opened thread version)) owns (told.Opened thread version))
        (λ box is one. kept_welcome known owns thread version box (its ∙ ap number_in is) one) kept
    go (told.Exchanged result stopped code moment) =
        all_posted known (λ (number : ℕ). opened_in number owns (told.Exchanged result stopped code moment)) owns (told.Exchanged result stopped code moment) boxes place its kept
    go told.Entered = all told.Entered
    go (told.Refused refusal) = all (told.Refused refusal)
    go (told.Faulted class number) = all (told.Faulted class number)
    go told.Left = all told.Left
