-- The facts of a player and the lives of its clients, as its journal tells them.
use Rattle.std.specs.Prelude.{ℕ, ◌==◌, Bool, true, false, ◌||◌, if◌then◌else◌, List, [], ◌∷◌, slice_get, Option, Some, None}
use Rattle.std.specs.Option.{option_map}
use Rattle.mc_packet.specs.declared.cache.CacheView.{CacheView}
use Rattle.mc_packet.specs.declared.choice.Choice.{Choice}
use Rattle.mc_dispatch.specs.declared.request.Request.{Request}
use Rattle.mc_props.specs.First.{first_facts}
use Rattle.mc_props.specs.declared.facts.Facts.{Facts}
use Rattle.mc_player.specs.declared.record.Outcome.{Outcome}
use Rattle.mc_player.specs.declared.record.Outcome.TheVariants as outcome
use Rattle.mc_player.specs.declared.record.CoreRecord.{CoreRecord}
use Rattle.mc_player.specs.declared.record.CoreRecord.TheVariants.{Created, Destroyed, Called, Learned, Took, Did, Pushed, Replied}
use Rattle.mc_player.specs.declared.deed.Deed.{Deed}
use Rattle.mc_player.specs.declared.deed.Deed.TheVariants as deed
use Rattle.mc_player.specs.Deeds.{after_deed, deed_of}
use Rattle.mc_player.specs.Journals.{named, queued}
use Rattle.mc_player.specs.Lives.{Table, Life, life_asked, life_called, life_pushed, life_replied, new_life}

-- ---- facts

abbrev pub with_set : Facts → Choice → Facts
with_set f set = record {
  path = f.path;
  tracks = f.tracks;
  set = set;
  pause = f.pause;
  mute = f.mute;
  cache = f.cache;
  loaded = f.loaded;
}

abbrev pub with_view : Facts → CacheView → Facts
with_view f view = record {
  path = f.path;
  tracks = f.tracks;
  set = f.set;
  pause = f.pause;
  mute = f.mute;
  cache = view;
  loaded = f.loaded;
}

-- a file is loaded, or tracks are selected
abbrev pub after_did : Outcome → Facts → Facts
after_did (outcome.Loaded path tracks set) f = record {
  path = Some path;
  tracks = tracks;
  set = set;
  pause = f.pause;
  mute = f.mute;
  cache = f.cache;
  loaded = true;
}
after_did (outcome.Selected set) f = with_set f set
after_did x f = f

-- what the request does that is taken next, at these facts
abbrev pub deed_at : Table → List CoreRecord → Facts → Option Request → Deed
deed_at t h f None = deed.Ignores
deed_at t h f (Some q) = deed_of t f (named h) q.call

abbrev pub facts_of : Table → List CoreRecord → Facts
facts_of t [] = first_facts
facts_of t (Did by x ∷ h) = after_did x (facts_of t h)
facts_of t (Learned by view ∷ h) = with_view (facts_of t h) view
facts_of t (Took by c n id ∷ h) =
    after_deed (deed_at t h (facts_of t h) (slice_get (queued h) 0)) (facts_of t h)
facts_of t (_ ∷ h) = facts_of t h

-- what the request does that a record takes behind these
abbrev pub next_deed : Table → List CoreRecord → Deed
next_deed t h = deed_at t h (facts_of t h) (slice_get (queued h) 0)

-- what the request does that was taken last
abbrev pub last_deed : Table → List CoreRecord → Deed
last_deed t [] = deed.Ignores
last_deed t (Took by c n id ∷ h) = next_deed t h
last_deed t (_ ∷ h) = last_deed t h

abbrev pub is_quit : Deed → Bool
is_quit deed.Quits = true
is_quit d = false

-- a request that ends the player was taken
abbrev pub quits : Table → List CoreRecord → Bool
quits t [] = false
quits t (Took by c n id ∷ h) = is_quit (next_deed t h) || quits t h
quits t (_ ∷ h) = quits t h

-- ---- clients

abbrev pub life_after : Table → ℕ → CoreRecord → Facts → Option Life → Option Life
life_after t c (Created by d name size) f l = if d.0 == c then Some (new_life name size) else l
life_after t c (Destroyed by d) f l = if d.0 == c then None else l
life_after t c (Called by d ticket call a) f l =
    if d.0 == c then option_map (λ (x : Life). life_asked ticket (life_called t f call a x)) l else l
life_after t c (Pushed by d e kept) f l =
    if d.0 == c then option_map (life_pushed kept e) l else l
life_after t c (Replied by d n e) f l = if d.0 == c then option_map (life_replied e) l else l
life_after t c r f l = l

-- the client under a number, while it lives
abbrev pub life_of : Table → ℕ → List CoreRecord → Option Life
life_of t c [] = None
life_of t c (r ∷ h) = life_after t c r (facts_of t h) (life_of t c h)
