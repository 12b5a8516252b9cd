-- A piece and then another are the two joined.
use Rattle.std.proofs.Common.{◌≡◌, ℕ, zero, suc, ◌<◌, List, [], ◌∷◌, ◌++◌, length, map, refl, sym, ap, subst, ◌∙◌, Result, Err, set, get_or-set_same}
use Rattle.std.proofs.lemmas.List.{append-nil, append_assoc, map-append}
use Rattle.ipc_frame.specs.Stream.{End, Rest, Stopped, Stream, more, stream_of}
use Rattle.ipc_frame.specs.declared.fault.FrameFault.{FrameFault}
use Rattle.ipc_frame.specs.declared.kind.Side.TheVariants.{Server}
use Rattle.ipc_frame.proofs.StreamLemmas.{more_is_stream}
use Rattle.ipc_connection.specs.Hearing.{heard_behind, heard_in, heard_of, left_in}
use Rattle.ipc_connection.specs.declared.stage.Stage.{Stage}
use Rattle.ipc_connection.specs.declared.stage.Stage.TheVariants.{Greeting, Serving, Finished}
use Rattle.ipc_connection.specs.declared.heard.Heard.{Heard}
use Rattle.ipc_exchange.specs.Service.{ServiceParts, connection_at}
use Rattle.ipc_exchange.specs.Serving.{Ample, Asked, Serves, ServesAll}
use Rattle.ipc_connection.proofs.ChainLemmas.{chain_both, chain_split}
use Rattle.ipc_exchange.specs.Events.{ExchangeParts, Feeds, held_at, holding, kept}
use Rattle.ipc_exchange.specs.Laws.{FeedsTwo, PiecesJoin}
use Rattle.ipc_exchange.proofs.ServingLemmas.{all_idle, all_idle_again, stopped_finishes}

module _ (place : ℕ) (b : List ℕ) where
  -- what a piece behind a stream says, and how it then ends
  abbrev more_heard : End → List (Result Heard FrameFault)
  more_heard (Rest rest) = heard_in (stream_of Server (rest ++ b))
  more_heard (Stopped fault) = []

  abbrev more_end : End → End
  more_end (Rest rest) = (stream_of Server (rest ++ b)).end
  more_end (Stopped fault) = Stopped fault

  joined_heard : (stream : Stream) → heard_in (more Server stream b) ≡ heard_in stream ++ more_heard stream.end
  joined_heard stream = go stream.end refl
    where
      go : (end : End) → stream.end ≡ end → heard_in (more Server stream b) ≡ heard_in stream ++ more_heard stream.end
      go (Stopped fault) e = rw e (sym (append-nil (map heard_of stream.frames ++ Err fault ∷ [])))
      go (Rest rest) e =
          let back = stream_of Server (rest ++ b) in
          rw e (ap (λ l. l ++ heard_behind back.end) (map-append heard_of stream.frames back.frames) ∙ (append_assoc (map heard_of stream.frames) (map heard_of back.frames) (heard_behind back.end) ∙ sym (ap (λ l. l ++ heard_in back) (append-nil (map heard_of stream.frames)))))

  joined_end : (stream : Stream) → (more Server stream b).end ≡ more_end stream.end
  joined_end stream = go stream.end refl
    where
      go : (end : End) → stream.end ≡ end → (more Server stream b).end ≡ more_end stream.end
      go (Stopped fault) e = rw e refl
      go (Rest rest) e = rw e refl

  -- what the second piece says, after the first one left a connection in a stage with these bytes
  abbrev second : Stage → End → Stream
  second stage end = stream_of Server (kept stage (left_in end) ++ b)

  -- a fault of the stream ended the connection
  abbrev Sound : ServiceParts → End → Type 0
  Sound service end = (fault : FrameFault) → end ≡ Stopped fault → (connection_at service.connections place).stage ≡ Finished

  record Alike (old new : ServiceParts) (end : End) (asked : List Asked) : Type 0 where
    pub to : ServesAll Ample old place (more_heard end) asked new → ServesAll Ample old place (heard_in (second (connection_at old.connections place).stage end)) asked new
    pub back : ServesAll Ample old place (heard_in (second (connection_at old.connections place).stage end)) asked new → ServesAll Ample old place (more_heard end) asked new
    pub held : ServesAll Ample old place (heard_in (second (connection_at old.connections place).stage end)) asked new → kept (connection_at new.connections place).stage (left_in (more_end end)) ≡ kept (connection_at new.connections place).stage (left_in (second (connection_at old.connections place).stage end).end)

  instead : (xs ys : List (Result Heard FrameFault)) (old new : ServiceParts) (asked : List Asked) → (connection_at old.connections place).stage ≡ Finished → ServesAll Ample old place xs asked new → ServesAll Ample old place ys asked new
  instead xs ys old new asked e serves =
      let idle = all_idle Ample place xs old new asked e serves in
      subst (λ l. ServesAll Ample old place ys l new) (sym idle.0) (subst (λ s. ServesAll Ample old place ys [] s) (sym idle.1) (all_idle_again Ample place ys old e))

  alike : (old new : ServiceParts) (end : End) (asked : List Asked) → Sound old end → Alike old new end asked
  alike old new end asked sound = go (connection_at old.connections place).stage refl end refl
    where
      go : (stage : Stage) → (connection_at old.connections place).stage ≡ stage → (at : End) → end ≡ at → Alike old new end asked
      go Finished e at f = record {
        to = instead _ _ old new asked e;
        back = instead _ _ old new asked e;
        held = λ serves.
            let idle = all_idle Ample place _ old new asked e serves in
            let ended : (connection_at new.connections place).stage ≡ Finished = ap (λ (s : ServiceParts). (connection_at s.connections place).stage) idle.1 ∙ e in
            rw ended refl;
      }
      go Greeting e (Rest rest) f = record { to = λ s. rw (e, f) (rw f at s); back = λ s. rw f (rw (e, f) at s); held = λ s. rw (e, f) refl }
      go (Serving thread) e (Rest rest) f = record { to = λ s. rw (e, f) (rw f at s); back = λ s. rw f (rw (e, f) at s); held = λ s. rw (e, f) refl }
      go Greeting e (Stopped fault) f = let no : Greeting ≡ Finished = sym e ∙ sound fault f in absurd cc
      go (Serving thread) e (Stopped fault) f = let no : Serving thread ≡ Finished = sym e ∙ sound fault f in absurd cc

set_twice : {X : Type 0} (xs : List X) (i : ℕ) (x y : X) → set (set xs i x) i y ≡ set xs i y
set_twice [] i x y = refl
set_twice (z ∷ xs) zero x y = refl
set_twice (z ∷ xs) (suc i) x y = ap (λ l. z ∷ l) (set_twice xs i x y)

-- where the first piece ends the stream in a fault, it ended the connection
sound_after : (place : ℕ) (bytes : List ℕ) (old new : ServiceParts) (asked : List Asked) → ServesAll Ample old place (heard_in (stream_of Server bytes)) asked new → Sound place [] new (stream_of Server bytes).end
sound_after place bytes old new asked serves fault e = stopped_finishes Ample place (map heard_of (stream_of Server bytes).frames) fault old new asked (rw e at serves)

-- two pieces, as they are served
record Two (old : ExchangeParts) (place : ℕ) (a b : List ℕ) (asked : List Asked) (last : ServiceParts) : Type 0 where
  pub first : List Asked
  pub rest : List Asked
  pub middle : ServiceParts
  pub asked_is : asked ≡ first ++ rest
  pub serves : ServesAll Ample old.service place (heard_in (stream_of Server (held_at old place ++ a))) first middle
  pub serves_more : ServesAll Ample middle place (heard_in (second place b (connection_at middle.connections place).stage (stream_of Server (held_at old place ++ a)).end)) rest last

module _ (old : ExchangeParts) (place : ℕ) (a b : List ℕ) where
  together : stream_of Server (held_at old place ++ (a ++ b)) ≡ more Server (stream_of Server (held_at old place ++ a)) b
  together = ap (stream_of Server) (sym (append_assoc (held_at old place) a b)) ∙ sym (more_is_stream Server (held_at old place ++ a) b)

  all_heard : heard_in (stream_of Server (held_at old place ++ (a ++ b))) ≡ heard_in (stream_of Server (held_at old place ++ a)) ++ more_heard place b (stream_of Server (held_at old place ++ a)).end
  all_heard = ap heard_in together ∙ joined_heard place b (stream_of Server (held_at old place ++ a))

  all_left : (stream_of Server (held_at old place ++ (a ++ b))).end ≡ more_end place b (stream_of Server (held_at old place ++ a)).end
  all_left = ap (λ (s : Stream). s.end) together ∙ joined_end place b (stream_of Server (held_at old place ++ a))

  one_of_two : (asked : List Asked) (last : ServiceParts) → Two old place a b asked last → ServesAll Ample old.service place (heard_in (stream_of Server (held_at old place ++ (a ++ b)))) asked last
  one_of_two asked last two =
      let same = alike place b two.middle last (stream_of Server (held_at old place ++ a)).end two.rest (sound_after place (held_at old place ++ a) old.service two.middle two.first two.serves) in
      let both = chain_both (λ before one told after. Serves Ample before place one told after) _ _ old.service two.middle last two.first two.rest two.serves (same.back two.serves_more) in
      rw (all_heard, two.asked_is) both

  two_of_one : (asked : List Asked) (last : ServiceParts) → ServesAll Ample old.service place (heard_in (stream_of Server (held_at old place ++ (a ++ b)))) asked last → Two old place a b asked last
  two_of_one asked last serves =
      let split = chain_split (λ before one told after. Serves Ample before place one told after) _ _ old.service last asked (rw all_heard at serves) in
      let same = alike place b split.between last (stream_of Server (held_at old place ++ a)).end split.rest (sound_after place (held_at old place ++ a) old.service split.between split.first split.chain) in
      let later = same.to split.chain_more in
      record {
        first = split.first;
        rest = split.rest;
        middle = split.between;
        asked_is = split.told_is;
        serves = split.chain;
        serves_more = later;
      }

  held_alike : (asked : List Asked) (last : ServiceParts) (two : Two old place a b asked last) → kept (connection_at last.connections place).stage (left_in (stream_of Server (held_at old place ++ (a ++ b))).end) ≡ kept (connection_at last.connections place).stage (left_in (second place b (connection_at two.middle.connections place).stage (stream_of Server (held_at old place ++ a)).end).end)
  held_alike asked last two =
      let same = alike place b two.middle last (stream_of Server (held_at old place ++ a)).end two.rest (sound_after place (held_at old place ++ a) old.service two.middle two.first two.serves) in
      rw all_left (same.held two.serves_more)

  -- the bytes held after the first piece, and what the second one says then
  held_between : (middle : ServiceParts) (bytes : List ℕ) → place < length old.held → held_at (holding old middle place bytes) place ≡ kept (connection_at middle.connections place).stage bytes
  held_between middle bytes within = get_or-set_same old.held place (kept (connection_at middle.connections place).stage bytes) [] within

  -- the state after both
  same_state : (asked : List Asked) (last : ServiceParts) (two : Two old place a b asked last) → place < length old.held → holding (holding old two.middle place (left_in (stream_of Server (held_at old place ++ a)).end)) last place (left_in (stream_of Server (held_at (holding old two.middle place (left_in (stream_of Server (held_at old place ++ a)).end)) place ++ b)).end) ≡ holding old last place (left_in (stream_of Server (held_at old place ++ (a ++ b))).end)
  same_state asked last two within =
      let here = held_between two.middle (left_in (stream_of Server (held_at old place ++ a)).end) within in
      ap (λ (held : List (List ℕ)). record { service = last; held = held })
      (set_twice old.held place _ _ ∙ ap (λ bytes. set old.held place bytes) (rw here (sym (held_alike asked last two))))

  forward : (asked : List Asked) (new : ExchangeParts) → place < length old.held → FeedsTwo old place a b asked new → Feeds Ample old place (a ++ b) asked new
  forward asked new within t =
      let middle = t.feeds.service in
      let bytes = left_in (stream_of Server (held_at old place ++ a)).end in
      let more : Feeds Ample (holding old middle place bytes) place b t.rest new = subst (λ s. Feeds Ample s place b t.rest new) t.feeds.new_is t.feeds_more in
      let here = held_between middle bytes within in
      let heard_more : more.heard ≡ heard_in (second place b (connection_at middle.connections place).stage (stream_of Server (held_at old place ++ a)).end) = more.hears ∙ ap (λ held. heard_in (stream_of Server (held ++ b))) here in
      let two : Two old place a b asked more.service = record {
        first = t.first;
        rest = t.rest;
        middle = middle;
        asked_is = t.asked_is;
        serves = subst (λ heard. ServesAll Ample old.service place heard t.first middle) t.feeds.hears t.feeds.serves;
        serves_more = subst (λ heard. ServesAll Ample middle place heard t.rest more.service) heard_more more.serves;
      } in
      record {
        heard = heard_in (stream_of Server (held_at old place ++ (a ++ b)));
        hears = refl;
        service = more.service;
        serves = one_of_two asked more.service two;
        new_is = more.new_is ∙ same_state asked more.service two within;
      }

  back : (asked : List Asked) (new : ExchangeParts) → place < length old.held → Feeds Ample old place (a ++ b) asked new → FeedsTwo old place a b asked new
  back asked new within whole =
      let two = two_of_one asked whole.service (subst (λ heard. ServesAll Ample old.service place heard asked whole.service) whole.hears whole.serves) in
      let bytes = left_in (stream_of Server (held_at old place ++ a)).end in
      let here = held_between two.middle bytes within in
      record {
        between = holding old two.middle place bytes;
        first = two.first;
        rest = two.rest;
        asked_is = two.asked_is;
        feeds = record { heard = heard_in (stream_of Server (held_at old place ++ a)); hears = refl; service = two.middle; serves = two.serves; new_is = refl };
        feeds_more = record {
          heard = heard_in (stream_of Server (held_at (holding old two.middle place bytes) place ++ b));
          hears = refl;
          service = whole.service;
          serves = subst (λ held. ServesAll Ample two.middle place (heard_in (stream_of Server (held ++ b))) two.rest whole.service) (sym here) two.serves_more;
          new_is = whole.new_is ∙ sym (same_state asked whole.service two within);
        };
      }

pub pieces_join : PiecesJoin
pieces_join old new place a b asked within = (forward old place a b asked new within, back old place a b asked new within)
