-- What was done by an end, one deed after the other.
use Rattle.std.proofs.Common.{◌≡◌, ℕ, List, [], ◌∷◌, ◌++◌, map, Option, Some, None, refl, sym, ap, subst, ◌∙◌, inl, inr}
use Rattle.std.proofs.lemmas.List.{append-nil}
use Rattle.std.specs.Prelude.{IfNone, IfSome, option_map}
use Rattle.ipc_connection.specs.KernelCalls.{posted}
use Rattle.ipc_connection.specs.declared.asking.Request.{Request}
use Rattle.ipc_connection.specs.declared.replying.Told.{Told}
use Rattle.ipc_frame.specs.declared.frame.Frame.{Frame}
use Rattle.ipc_seats.specs.declared.events.Event.{Event}
use Rattle.ipc_lock.specs.Above.{ConnectsSome, FindsNone, HandsOut}
use Rattle.ipc_lock.specs.declared.ends.PostEnd.{PostEnd}
use Rattle.ipc_base.specs.LogViews.{Known}
use Rattle.ipc_server.specs.declared.noted.NotedEnd.{NotedEnd}
use Rattle.ipc_server.specs.Doing.{AsksBy, BreaksBy, DidAll, Does, DoesSome, IsAtHome, IsNew, PostsBy, PostsIfLeft, PostsWith, ReadsBy, ServesOne, begun}
use Rattle.ipc_session.specs.Keeping.{call_of}
use Rattle.ipc_session.specs.Sessions.{AsksFor, MayAskFor, deed_of, deeds_left}
use Rattle.ipc_session.specs.declared.deed.Deed.{Deed}
use Rattle.ipc_session.specs.declared.deed.Deed.TheVariants as deed
use Rattle.ipc_server.proofs.HomeLemmas.{HasBox, did_keep, is_found}

pub at_home : {C : Type 0} (end : PostEnd C) → IsAtHome end end
at_home end = record { place = refl; number = refl; space = refl }

-- an end of the same box and space began as the same
pub begun_same : {C : Type 0} (first : Known Event) (end end_now : PostEnd C) → end_now.place ≡ end.place → end_now.space ≡ end.space
    → begun first end_now ≡ begun first end
begun_same {C} first end end_now p s =
    ap (λ (x : ℕ). record end_now { place = x; seat = None; own = first }) p
    ∙ ap (λ (x : ℕ). record end { space = x; seat = None; own = first }) s

-- an end that has no seat
pub begun_so : {C : Type 0} (end : PostEnd C) → end.seat ≡ None → begun end.own end ≡ end
begun_so end none = ap (λ s. record end { seat = s }) (sym none)

-- one deed more
does_asked : {C : Type 0} (P : Type 0) (end mid left : PostEnd C) (deeds : List Deed) (request : Request) (said : Told)
    → Does P end deeds mid → AsksBy P mid request said left → Does P end (deeds ++ deed.Asked request said ∷ []) left
unfolding Does
does_asked P end mid left [] request said h asks = (left, subst (λ e. AsksBy P e request said left) h asks, refl)
does_asked P end mid left (deed.Asked other told ∷ deeds) request said h asks = (h.0, h.1, does_asked P h.0 mid left deeds request said h.2 asks)
does_asked P end mid left (deed.Posted frame ∷ deeds) request said h asks = (h.0, h.1, does_asked P h.0 mid left deeds request said h.2 asks)
does_asked P end mid left (deed.Broke ∷ deeds) request said h asks = (h.0, h.1, does_asked P h.0 mid left deeds request said h.2 asks)

does_posted : {C : Type 0} (P : Type 0) (end mid left : PostEnd C) (deeds : List Deed) (frame : Frame)
    → Does P end deeds mid → PostsBy P mid frame left → Does P end (deeds ++ deed.Posted frame ∷ []) left
unfolding Does
does_posted P end mid left [] frame h posts = (left, subst (λ e. PostsBy P e frame left) h posts, refl)
does_posted P end mid left (deed.Asked request said ∷ deeds) frame h posts = (h.0, h.1, does_posted P h.0 mid left deeds frame h.2 posts)
does_posted P end mid left (deed.Posted other ∷ deeds) frame h posts = (h.0, h.1, does_posted P h.0 mid left deeds frame h.2 posts)
does_posted P end mid left (deed.Broke ∷ deeds) frame h posts = (h.0, h.1, does_posted P h.0 mid left deeds frame h.2 posts)

does_broke : {C : Type 0} (P : Type 0) (end mid left : PostEnd C) (deeds : List Deed)
    → Does P end deeds mid → BreaksBy P mid left → Does P end (deeds ++ deed.Broke ∷ []) left
unfolding Does
does_broke P end mid left [] h breaks = (left, subst (λ e. BreaksBy P e left) h breaks, refl)
does_broke P end mid left (deed.Asked request said ∷ deeds) h breaks = (h.0, h.1, does_broke P h.0 mid left deeds h.2 breaks)
does_broke P end mid left (deed.Posted frame ∷ deeds) h breaks = (h.0, h.1, does_broke P h.0 mid left deeds h.2 breaks)
does_broke P end mid left (deed.Broke ∷ deeds) h breaks = (h.0, h.1, does_broke P h.0 mid left deeds h.2 breaks)

-- of a kernel port: nothing was done by an end that began
pub begins : {C : Type 0} (P : Type 0) (end : PostEnd C) (deeds : List Deed) → IsNew P end → deeds ≡ [] → DidAll P deeds end
unfolding Does
begins P end deeds new is = record {
  first = end.own;
  connects = new.connects;
  does = subst (λ (d : List Deed). Does P (begun end.own end) d end) (sym is) (sym (begun_so end new.seat));
}

-- the same end, with the deeds that it did
did_on : {C : Type 0} (P : Type 0) (end end_now : PostEnd C) (deeds deeds_now more : List Deed) → (h : DidAll P deeds end) → IsAtHome end end_now
    → Does P (begun h.first end) (deeds ++ more) end_now → deeds_now ≡ deeds ++ more → DidAll P deeds_now end_now
did_on {C} P end end_now deeds deeds_now more h home does is = record {
  first = h.first;
  connects = subst (λ (p : ℕ). ConnectsSome C P p h.first) (sym home.place) h.connects;
  does = subst (λ (d : List Deed). Does P (begun h.first end_now) d end_now) (sym is)
      (subst (λ e. Does P e (deeds ++ more) end_now) (sym (begun_same h.first end end_now home.place home.space)) does);
}

pub asks_on : {C : Type 0} (P : Type 0) (end end_now : PostEnd C) (deeds deeds_now : List Deed) (request : Request) (said : Told)
    → DidAll P deeds end → AsksBy P end request said end_now → deeds_now ≡ deeds ++ deed.Asked request said ∷ [] → DidAll P deeds_now end_now
asks_on P end end_now deeds deeds_now request said h asks is =
    did_on P end end_now deeds deeds_now (deed.Asked request said ∷ []) h asks.home
    (does_asked P (begun h.first end) end end_now deeds request said h.does asks) is

pub posts_on : {C : Type 0} (P : Type 0) (end end_now : PostEnd C) (deeds deeds_now : List Deed) (said : Told)
    → DidAll P deeds end → PostsIfLeft P end said end_now → deeds_now ≡ deeds ++ deeds_left said → DidAll P deeds_now end_now
posts_on P end end_now deeds deeds_now said h posts is = go (posted said) posts is
  where
    go : (f : Option Frame) → PostsWith P end f end_now → deeds_now ≡ deeds ++ deed_of f → DidAll P deeds_now end_now
    go None same is' =
        subst (λ (d : List Deed). DidAll P d end_now) (sym (is' ∙ append-nil deeds)) (subst (λ e. DidAll P deeds e) (sym same) h)
    go (Some frame) by is' =
        did_on P end end_now deeds deeds_now (deed.Posted frame ∷ []) h by.home (does_posted P (begun h.first end) end end_now deeds frame h.does by) is'

pub breaks_on : {C : Type 0} (P : Type 0) (end end_now : PostEnd C) (deeds deeds_now : List Deed)
    → DidAll P deeds end → BreaksBy P end end_now → deeds_now ≡ deeds ++ deed.Broke ∷ [] → DidAll P deeds_now end_now
breaks_on P end end_now deeds deeds_now h breaks is =
    did_on P end end_now deeds deeds_now (deed.Broke ∷ []) h breaks.home (does_broke P (begun h.first end) end end_now deeds h.does breaks) is

-- of a connection: it was read to its end by an end that had no seat, or was turned away. As its
-- kernel port was at first, as it was read with, and as the end that it was made of
pub reads_to_end : {C : Type 0} (P : Type 0) (came came_now : Option (List ℕ)) (posts : PostEnd C) (first read noted : NotedEnd C)
    → first.end ≡ posts → AsksFor came came_now (map call_of read.deeds) → IsAtHome first.end read.end → noted ≡ read
    → DidAll P noted.deeds noted.end → ReadsBy P came came_now posts noted.end noted.deeds
reads_to_end {C} P came came_now posts first read noted is_first asks home is did = record {
  asks = inl (subst (λ n. AsksFor came came_now (map call_of n.deeds)) (sym is) asks);
  did = did;
  home = subst (λ e. IsAtHome e noted.end) is_first (subst (λ n. IsAtHome first.end n.end) (sym is) home);
}

pub reads_nothing : {C : Type 0} (P : Type 0) (came came_now : Option (List ℕ)) (end : PostEnd C) (deeds : List Deed) → IsNew P end
    → came_now ≡ came → deeds ≡ [] → ReadsBy P came came_now end end deeds
reads_nothing P came came_now end deeds new same is = record {
  asks = inr (same, ap (map call_of) is);
  did = begins P end deeds new is;
  home = at_home end;
}

-- of one that had a box: the port came, as the box was there
pub hands_some : (C P : Type 0) {Q : Type 0} (place : ℕ) (own : Known Event) (port : Option Q) (written : Q → Option (List ℕ)) (roll roll_now : List Event)
    → HasBox place own.number own.mine
    → IfSome port (λ p. HandsOut C P place own roll roll_now (written p)) → IfNone port (FindsNone C P place own)
    → (out : Option (List ℕ)) × (option_map written port ≡ Some out) × HandsOut C P place own roll roll_now out
hands_some C P place own None written roll roll_now has hands none = absurd (is_found C P place own has none)
hands_some C P place own (Some port) written roll roll_now has hands none = (written port, refl, hands)

abbrev pub does_some : {C : Type 0} (P : Type 0) (left : PostEnd C) (deeds : List Deed) (sent : Option (Option (List ℕ))) (out : Option (List ℕ)) (roll roll_now : List Event)
    → DidAll P deeds left → sent ≡ Some out → HandsOut C P left.place left.own roll roll_now out → DoesSome C P left.space deeds sent
does_some P left deeds sent out roll roll_now did is hands = record {
  end = begun did.first left;
  left = left;
  connects = did.connects;
  space_is = refl;
  begins = refl;
  does = did.does;
  out = out;
  sent_is = is;
  roll = roll;
  roll_now = roll_now;
  hands = hands;
}

pub serves_one : {C : Type 0} (P : Type 0) {Q : Type 0} (came came_now : Option (List ℕ)) (left : PostEnd C) (deeds : List Deed) (port : Option Q)
    (written : Q → Option (List ℕ)) (roll roll_now : List Event) → MayAskFor came came_now (map call_of deeds) → DidAll P deeds left
    → IfSome port (λ p. HandsOut C P left.place left.own roll roll_now (written p)) → IfNone port (FindsNone C P left.place left.own)
    → ServesOne C P left.space came came_now deeds (option_map written port)
serves_one {C} P came came_now left deeds port written roll roll_now asks did hands none =
    let handed = hands_some C P left.place left.own port written roll roll_now (did_keep P deeds left did) hands none in
    record { asks = asks; does = inl (does_some P left deeds (option_map written port) handed.0 roll roll_now did handed.1 handed.2) }

-- the same, as the space and the port were at first
pub serves_as : (C P : Type 0) (space first_space : ℕ) (came first_came came_now : Option (List ℕ)) (deeds : List Deed) (sent : Option (Option (List ℕ)))
    → space ≡ first_space → came ≡ first_came → ServesOne C P space came came_now deeds sent → ServesOne C P first_space first_came came_now deeds sent
serves_as C P space first_space came first_came came_now deeds sent same_space same_came h =
    subst (λ (n : ℕ). ServesOne C P n first_came came_now deeds sent) same_space
    (subst (λ (c : Option (List ℕ)). ServesOne C P space c came_now deeds sent) same_came h)

pub asks_as : (came first_came came_now : Option (List ℕ)) (deeds : List Deed) → came ≡ first_came → MayAskFor first_came came_now (map call_of deeds)
    → MayAskFor came came_now (map call_of deeds)
asks_as came first_came came_now deeds same h = subst (λ (c : Option (List ℕ)). MayAskFor c came_now (map call_of deeds)) (sym same) h

-- of one that had none
pub serves_none : (C P : Type 0) (space : ℕ) (came came_now : Option (List ℕ)) (deeds : List Deed) (sent : Option (Option (List ℕ))) → came_now ≡ came → deeds ≡ []
    → ServesOne C P space came came_now deeds sent
serves_none C P space came came_now deeds sent same none = record { asks = inr (same, ap (map call_of) none); does = inr none }
