-- What the steps of the core are over the two journals.
use Rattle.std.proofs.Common.{◌≡◌, inl, inr, ℕ, List, ◌∷◌, Option, None, Result, Ok, Err, sym, ap, subst, ◌∙◌}
use Rattle.mc_packet.specs.declared.cache.CacheView.{CacheView}
use Rattle.mc_dispatch.specs.declared.call.Call.{Call}
use Rattle.mc_dispatch.specs.declared.request.ClientNo.{ClientNo}
use Rattle.mc_journal.specs.Films.{Film}
use Rattle.mc_journal.specs.Views.{view}
use Rattle.mc_player.specs.declared.record.Answer.{Answer}
use Rattle.mc_player.specs.declared.record.CoreRecord.TheVariants.{Learned}
use Rattle.mc_player.specs.declared.record.Order.{Order}
use Rattle.mc_props.specs.declared.facts.Facts.{Facts}
use Rattle.mc_props.specs.declared.reading.Reading.{Reading}
use Rattle.mc_core.specs.declared.core_error.CoreError.{CoreError}
use Rattle.mc_core.specs.Core.{CoreView, history, table_in}
use Rattle.mc_story.specs.Runs.Step.{Client, Learn, Other, Work}
use Rattle.mc_story.specs.Steps.{Adds, Works, is_effect, is_inner}
use Rattle.mc_steps.specs.Calls.{newest_first}
use Rattle.mc_steps.proofs.Playing.{answers, creates, destroys, news_adds, works}
use Rattle.mc_world.specs.declared.moves.Reply.{Reply}
use Rattle.mc_world.specs.declared.moves.Reply.TheVariants as reply
use Rattle.mc_world.specs.declared.moves.WorldError.{WorldError}
use Rattle.mc_world.specs.Calls.{Calls, Creates, Destroys, DoesWork, Learns, Plays}
use Rattle.mc_world.specs.Steps.{LearnsView}
use Rattle.mc_world.specs.Story.{InStory}
use Rattle.mc_world.specs.World.{WorldView}
use Rattle.mc_world.proofs.Tied.{Moves, rests_is, unmoved}

-- the order that is out is the core's, where the tie has it
pub out_is : (n : ℕ) (value : ℕ → Facts → Reading) (film : Film) (w : WorldView) → InStory n value film w → w.order ≡ w.core.out
out_is n value film w i = i.tied.order_is ∙ sym i.core.out

-- all but the core and its order stays
pub record Around (old new : WorldView) : Type 0 where
  pub path : new.path ≡ old.path
  pub tracks : new.tracks ≡ old.tracks
  pub list : new.demux.list ≡ old.demux.list
  pub demux : newest_first new.demux ≡ newest_first old.demux
  pub order : new.order ≡ new.core.out
  pub carried : new.carried ≡ old.carried

around : (old new : WorldView) → new ≡ record old { core = new.core; order = new.core.out } → Around old new
around old new e = record {
  path = ap (λ (w : WorldView). w.path) e;
  tracks = ap (λ (w : WorldView). w.tracks) e;
  list = ap (λ (w : WorldView). w.demux.list) e;
  demux = ap (λ (w : WorldView). newest_first w.demux) e;
  order = ap (λ (w : WorldView). w.order) e;
  carried = ap (λ (w : WorldView). w.carried) e;
}

-- a core that refuses a call is as it was
refused : (n : ℕ) (value : ℕ → Facts → Reading) (film : Film) (old new : WorldView) → old.order ≡ old.core.out → Around old new → new.core ≡ old.core → Moves n value film old new
refused n value film old new o a e = record {
  path = a.path;
  tracks = a.tracks;
  list = a.list;
  entries = ap (λ (c : CoreView). c.entries) e;
  step = Other;
  under = tt;
  is = rests_is film value old new (record {
    demux = a.demux;
    core = ap history e;
    order = a.order ∙ ap (λ (c : CoreView). c.out) e ∙ sym o;
    carried = a.carried;
  });
}

-- a client comes, goes or calls, and the order that is out stays
client : (n : ℕ) (value : ℕ → Facts → Reading) (film : Film) (old new : WorldView) → old.order ≡ old.core.out → Around old new → new.core.entries ≡ old.core.entries
    → new.core.out ≡ old.core.out → Adds is_inner (history old.core) (history new.core) → Moves n value film old new
client n value film old new o a e s i = record {
  path = a.path;
  tracks = a.tracks;
  list = a.list;
  entries = e;
  step = Client;
  under = tt;
  is = record { demux = a.demux; adds = i; order = a.order ∙ s ∙ sym o; carried = a.carried };
}

-- ---- clients

create_by : (n by : ℕ) (value : ℕ → Facts → Reading) (film : Film) (name : List ℕ) (size : ℕ) (old new : WorldView) (answer : Result ClientNo CoreError) → old.order ≡ old.core.out
    → Around old new → Creates by name size old.core answer new.core → Moves n value film old new
create_by n by value film name size old new (Ok c) o a m =
    client n value film old new o a m.entries m.holds.1.0 (creates by c name size (history old.core) (history new.core) m.holds.0)
create_by n by value film name size old new (Err e) o a m = refused n value film old new o a m.err

pub create : (n by : ℕ) (value : ℕ → Facts → Reading) (film : Film) (name : List ℕ) (size : ℕ) (old new : WorldView) (r : Result Reply WorldError) → old.order ≡ old.core.out
    → Plays (Creates by name size) reply.Create old r new → Moves n value film old new
create n by value film name size old new r o p = create_by n by value film name size old new p.0 o (around old new p.3) p.1

destroy_by : (n by : ℕ) (value : ℕ → Facts → Reading) (film : Film) (c : ClientNo) (old new : WorldView) (answer : Result Unit CoreError) → old.order ≡ old.core.out
    → Around old new → Destroys value by c old.core answer new.core → Moves n value film old new
destroy_by n by value film c old new (Ok u) o a m =
    client n value film old new o a m.entries m.holds.1.0 (destroys by c (history old.core) (history new.core) m.holds.0)
destroy_by n by value film c old new (Err e) o a m = refused n value film old new o a m.err

pub destroy : (n by : ℕ) (value : ℕ → Facts → Reading) (film : Film) (c : ClientNo) (old new : WorldView) (r : Result Reply WorldError) → old.order ≡ old.core.out
    → Plays (Destroys value by c) (λ u. reply.Destroy) old r new → Moves n value film old new
destroy n by value film c old new r o p = destroy_by n by value film c old new p.0 o (around old new p.3) p.1

call_by : (n by : ℕ) (value : ℕ → Facts → Reading) (film : Film) (c : ClientNo) (asks : Call) (old new : WorldView) (answer : Result Answer CoreError) → old.order ≡ old.core.out
    → Around old new → Calls value by c asks old.core answer new.core → Moves n value film old new
call_by n by value film c asks old new (Ok x) o a m =
    client n value film old new o a m.entries m.holds.1.0 (answers by c asks x (history old.core) (history new.core) m.holds.0)
call_by n by value film c asks old new (Err e) o a m = refused n value film old new o a m.err

pub call : (n by : ℕ) (value : ℕ → Facts → Reading) (film : Film) (c : ClientNo) (asks : Call) (old new : WorldView) (r : Result Reply WorldError) → old.order ≡ old.core.out
    → Plays (Calls value by c asks) reply.Call old r new → Moves n value film old new
call n by value film c asks old new r o p = call_by n by value film c asks old new p.0 o (around old new p.3) p.1

-- ---- a view

learn_by : (n by : ℕ) (value : ℕ → Facts → Reading) (film : Film) (v : CacheView) (old new : WorldView) (answer : Result Unit CoreError) → old.order ≡ old.core.out
    → v ≡ view film.packets (newest_first old.demux) → Around old new → Learns by v old.core answer new.core → Moves n value film old new
learn_by n by value film v old new (Ok u) o e a m = record {
  path = a.path;
  tracks = a.tracks;
  list = a.list;
  entries = m.entries;
  step = Learn by;
  under = tt;
  is = record {
    demux = a.demux;
    adds = subst (λ (x : CacheView). Adds is_effect (Learned by x ∷ history old.core) (history new.core)) e
        (news_adds by (Learned by v ∷ history old.core) (history new.core) m.holds.0);
    order = a.order ∙ m.holds.2 ∙ sym o;
    carried = a.carried;
  };
}
learn_by n by value film v old new (Err x) o e a m = refused n value film old new o a m.err

pub learn : (n by : ℕ) (value : ℕ → Facts → Reading) (film : Film) (old new : WorldView) (r : Result Reply WorldError) → InStory n value film old → LearnsView by old r new
    → Moves n value film old new
learn n by value film old new r i (inl wants) = unmoved n value film old new wants.1
learn n by value film old new r i (inr l) =
    learn_by n by value film l.0 old new l.2.0 (out_is n value film old i) (l.1.film film i.demux) (around old new l.2.3) l.2.1

-- ---- work

work_by : (n by : ℕ) (value : ℕ → Facts → Reading) (film : Film) (old new : WorldView) (answer : Result Order CoreError) → old.order ≡ old.core.out → old.order ≡ None
    → Around old new → DoesWork value by old.core answer new.core → Moves n value film old new
work_by n by value film old new (Ok x) o f a m = record {
  path = a.path;
  tracks = a.tracks;
  list = a.list;
  entries = m.entries;
  step = Work by;
  under = tt;
  is = record {
    free = f;
    demux = a.demux;
    works = subst (λ (q : Option Order). Works (table_in value old.core) by (history old.core) q (history new.core)) (sym (a.order ∙ m.holds.1))
        (works (table_in value old.core) by (history old.core) (history new.core) x m.holds.0);
    carried = a.carried;
  };
}
work_by n by value film old new (Err e) o f a m = refused n value film old new o a m.err

pub work : (n by : ℕ) (value : ℕ → Facts → Reading) (film : Film) (old new : WorldView) (r : Result Reply WorldError) → old.order ≡ old.core.out → old.order ≡ None
    → Plays (DoesWork value by) reply.Work old r new → Moves n value film old new
work n by value film old new r o f p = work_by n by value film old new p.0 o f (around old new p.3) p.1
