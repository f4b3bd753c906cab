-- What carrying an order and ending it are over the two journals.
use Rattle.std.proofs.Common.{◌≡◌, inl, inr, ℕ, ℤ, List, ◌∷◌, Option, Some, None, Result, Ok, Err, refl, sym, ap, subst, ◌∙◌}
use Rattle.std.specs.Prelude.{IfSome, IsSomeAnd}
use Rattle.mc_packet.specs.declared.choice.Choice.{Choice}
use Rattle.mc_packet.specs.declared.choice.Dir.{Dir}
use Rattle.mc_packet.specs.declared.choice.Why.{Why}
use Rattle.mc_packet.specs.declared.choice.Why.TheVariants.{NoTrack}
use Rattle.mc_journal.specs.Films.{Film}
use Rattle.mc_journal.specs.declared.record.Sought.{Sought as How}
use Rattle.mc_tracks.specs.declared.track.Track.{Track}
use Rattle.mc_tracks.specs.Selection.{choice_of, numbers_of, refusal_of}
use Rattle.mc_calls.specs.declared.answer.DemuxError.{DemuxError}
use Rattle.mc_calls.specs.declared.answer.DemuxError.TheVariants.{Refused, JournalFull, NoMemory}
use Rattle.mc_calls.specs.declared.answer.Selected.{Selected}
use Rattle.mc_calls.specs.Film.{StandsFor}
use Rattle.mc_calls.specs.Seeking.{Seeks}
use Rattle.mc_calls.specs.Selecting.{Selects}
use Rattle.mc_player.specs.declared.record.Order.{Order}
use Rattle.mc_player.specs.declared.record.Order.TheVariants as order
use Rattle.mc_player.specs.declared.record.Outcome.{Outcome}
use Rattle.mc_player.specs.declared.record.Outcome.TheVariants as outcome
use Rattle.mc_player.specs.declared.record.CoreRecord.TheVariants.{Did}
use Rattle.mc_player.specs.Orders.{IsOf, opened}
use Rattle.mc_props.specs.declared.facts.Facts.{Facts}
use Rattle.mc_props.specs.declared.reading.Reading.{Reading}
use Rattle.mc_core.specs.declared.core_error.CoreError.{CoreError}
use Rattle.mc_core.specs.Core.{history, table_in}
use Rattle.mc_story.specs.Runs.Step.{Carry, Done, Other}
use Rattle.mc_story.specs.Steps as story
use Rattle.mc_story.specs.Steps.{SelectAdds}
use Rattle.mc_story.proofs.Knowing.{selects_known}
use Rattle.mc_steps.specs.Calls.{newest_first}
use Rattle.mc_steps.proofs.Demuxing.{accepted, left, refused, selects, sought}
use Rattle.mc_steps.proofs.Playing.{effects_add}
use Rattle.mc_world.specs.declared.moves.Reply.{Reply}
use Rattle.mc_world.specs.declared.moves.WorldError.{WorldError}
use Rattle.mc_world.specs.Calls.{Ends}
use Rattle.mc_world.specs.Steps.{Carries, Does, IsDone, carried_after, done_after, seek_outcome, select_outcome}
use Rattle.mc_world.specs.Story.{InStory, both}
use Rattle.mc_world.specs.World.{WorldView, opening}
use Rattle.mc_world.proofs.Listed.{seeks_list, selects_list}
use Rattle.mc_world.proofs.Tied.{Moves, rests_is, unmoved}

-- all but the demuxer and what is carried stays
pub record Apart (old new : WorldView) (x : Option Outcome) : Type 0 where
  pub path : new.path ≡ old.path
  pub tracks : new.tracks ≡ old.tracks
  pub entries : new.core.entries ≡ old.core.entries
  pub core : history new.core ≡ history old.core
  pub order : new.order ≡ old.order
  pub carried : new.carried ≡ x

apart : (old new : WorldView) (x : Option Outcome) → new ≡ record old { demux = new.demux; carried = x } → Apart old new x
apart old new x e = record {
  path = ap (λ (w : WorldView). w.path) e;
  tracks = ap (λ (w : WorldView). w.tracks) e;
  entries = ap (λ (w : WorldView). w.core.entries) e;
  core = ap (λ (w : WorldView). history w.core) e;
  order = ap (λ (w : WorldView). w.order) e;
  carried = ap (λ (w : WorldView). w.carried) e;
}

-- the order came to something, which is carried now
carries : (n by : ℕ) (value : ℕ → Facts → Reading) (film : Film) (o : Order) (x : Outcome) (old new : WorldView) → by ≡ n → old.order ≡ Some o → old.carried ≡ None
    → Apart old new (Some x) → new.demux.list ≡ old.demux.list → story.Carries (opening old) by o (newest_first old.demux) x (newest_first new.demux) → Moves n value film old new
carries n by value film o x old new u e f a l c = record {
  path = a.path;
  tracks = a.tracks;
  list = l;
  entries = a.entries;
  step = Carry by;
  under = u;
  is = record {
    order = o;
    outcome = x;
    is_out = e;
    once = f;
    carries = c;
    still = a.core;
    same_order = a.order;
    is_carried = a.carried;
  };
}

-- it came to nothing
rests : (n : ℕ) (value : ℕ → Facts → Reading) (film : Film) (old new : WorldView) → old.carried ≡ None → Apart old new None → new.demux.list ≡ old.demux.list
    → newest_first new.demux ≡ newest_first old.demux → Moves n value film old new
rests n value film old new f a l j = record {
  path = a.path;
  tracks = a.tracks;
  list = l;
  entries = a.entries;
  step = Other;
  under = tt;
  is = rests_is film value old new (record { demux = j; core = a.core; order = a.order; carried = a.carried ∙ sym f });
}

-- ---- the file

carry_load : (n by : ℕ) (value : ℕ → Facts → Reading) (film : Film) (old new : WorldView) (r : Result Reply WorldError) → by ≡ n → old.order ≡ Some order.Load → old.carried ≡ None
    → Carries by order.Load old r new → Moves n value film old new
carry_load n by value film old new r u e f (inl wants) = unmoved n value film old new wants.1
carry_load n by value film old new r u e f (inr c) =
    carries n by value film order.Load (opened (opening old)) old new u e f
    (record {
      path = ap (λ (w : WorldView). w.path) c.1;
      tracks = ap (λ (w : WorldView). w.tracks) c.1;
      entries = ap (λ (w : WorldView). w.core.entries) c.1;
      core = ap (λ (w : WorldView). history w.core) c.1;
      order = ap (λ (w : WorldView). w.order) c.1;
      carried = ap (λ (w : WorldView). w.carried) c.1;
    })
    (ap (λ (w : WorldView). w.demux.list) c.1) (refl, ap (λ (w : WorldView). newest_first w.demux) c.1)

-- ---- a seek

-- the only refusal of a seek is an outcome
refused_is : (old new : WorldView) (why : Why) → why ≡ NoTrack → new ≡ record old { demux = new.demux; carried = carried_after (seek_outcome (Err (Refused why))) }
    → new ≡ record old { demux = new.demux; carried = Some (outcome.Refused why) }
refused_is old new why e c =
    subst (λ (w : Why). new ≡ record old { demux = new.demux; carried = Some (outcome.Refused w) }) (sym e)
    (subst (λ (w : Why). new ≡ record old { demux = new.demux; carried = carried_after (seek_outcome (Err (Refused w))) }) e c)

seek_by : (n by : ℕ) (value : ℕ → Facts → Reading) (film : Film) (t : ℤ) (dir : Dir) (old new : WorldView) (answer : Result How DemuxError) → StandsFor film old.demux → by ≡ n
    → old.order ≡ Some (order.Seek t dir) → old.carried ≡ None → Seeks by t dir old.demux answer new.demux
    → new ≡ record old { demux = new.demux; carried = carried_after (seek_outcome answer) } → Moves n value film old new
seek_by n by value film t dir old new (Ok how) s u e f h c =
    carries n by value film (order.Seek t dir) outcome.Sought old new u e f (apart old new (Some outcome.Sought) c) (seeks_list by t dir old.demux new.demux (Ok how) h)
    (sought film by t dir old.demux new.demux how s h)
seek_by n by value film t dir old new (Err (Refused why)) s u e f h c =
    carries n by value film (order.Seek t dir) (outcome.Refused why) old new u e f (apart old new (Some (outcome.Refused why)) (refused_is old new why h.2 c))
    (seeks_list by t dir old.demux new.demux (Err (Refused why)) h) (refused by t dir old.demux new.demux why h)
seek_by n by value film t dir old new (Err JournalFull) s u e f h c =
    rests n value film old new f (apart old new None c) (seeks_list by t dir old.demux new.demux (Err JournalFull) h) (ap newest_first h.1)
seek_by n by value film t dir old new (Err NoMemory) s u e f h c =
    rests n value film old new f (apart old new None c) (seeks_list by t dir old.demux new.demux (Err NoMemory) h) (left old.demux new.demux h.1)

-- ---- a selection

-- the tracks of an order are selected by their numbers
selects_it : (film : Film) (by : ℕ) (set : Choice) (at : ℤ) (old new : WorldView) (answer : Selected) → StandsFor film old.demux
    → choice_of old.demux.list (numbers_of set) ≡ set → Selects by (numbers_of set) at old.demux (Ok answer) new.demux
    → SelectAdds by set at (newest_first old.demux) (outcome.Selected set) (newest_first new.demux)
selects_it film by set at old new answer s e h =
    subst (λ (c : Choice). SelectAdds by c at (newest_first old.demux) (outcome.Selected c) (newest_first new.demux)) e
    (selects film by (numbers_of set) at old.demux new.demux answer s h)

select_by : (n by : ℕ) (value : ℕ → Facts → Reading) (film : Film) (set : Choice) (at : ℤ) (old new : WorldView) (answer : Result Selected DemuxError) → StandsFor film old.demux → by ≡ n
    → old.order ≡ Some (order.Select set at) → old.carried ≡ None
    → refusal_of old.demux.list (numbers_of set) ≡ None → choice_of old.demux.list (numbers_of set) ≡ set → Selects by (numbers_of set) at old.demux answer new.demux
    → new ≡ record old { demux = new.demux; carried = carried_after (select_outcome set answer) } → Moves n value film old new
select_by n by value film set at old new (Ok answer) s u e f k q h c =
    carries n by value film (order.Select set at) (outcome.Selected set) old new u e f (apart old new (Some (outcome.Selected set)) c)
    (selects_list by (numbers_of set) at old.demux new.demux (Ok answer) h) (selects_it film by set at old new answer s q h)
select_by n by value film set at old new (Err (Refused why)) s u e f k q h c = absurd (accepted by (numbers_of set) at old.demux new.demux why k h)
select_by n by value film set at old new (Err JournalFull) s u e f k q h c =
    rests n value film old new f (apart old new None c) (selects_list by (numbers_of set) at old.demux new.demux (Err JournalFull) h) (ap newest_first h.1)
select_by n by value film set at old new (Err NoMemory) s u e f k q h c =
    rests n value film old new f (apart old new None c) (selects_list by (numbers_of set) at old.demux new.demux (Err NoMemory) h) (left old.demux new.demux h.1)

-- a selection that is out is of known tracks
known : (n : ℕ) (value : ℕ → Facts → Reading) (film : Film) (set : Choice) (at : ℤ) (old : WorldView) → InStory n value film old → old.order ≡ Some (order.Select set at)
    → (refusal_of old.demux.list (numbers_of set) ≡ None) × (choice_of old.demux.list (numbers_of set) ≡ set)
known n value film set at old i e =
    subst (λ (ts : List Track). (refusal_of ts (numbers_of set) ≡ None) × (choice_of ts (numbers_of set) ≡ set)) (sym i.tracks)
    (selects_known n film (opening old) (table_in value old.core) (both old) set at i.core.allowed i.tied e)

-- ---- whichever order

pub carry : (n by : ℕ) (value : ℕ → Facts → Reading) (film : Film) (o : Order) (old new : WorldView) (r : Result Reply WorldError) → InStory n value film old → by ≡ n
    → old.order ≡ Some o → old.carried ≡ None → Carries by o old r new → Moves n value film old new
carry n by value film order.Load old new r i u e f c = carry_load n by value film old new r u e f c
carry n by value film (order.Seek t dir) old new r i u e f c = seek_by n by value film t dir old new c.0 i.demux u e f c.1 c.2.1
carry n by value film (order.Select set at) old new r i u e f c =
    let k = known n value film set at old i e in
    select_by n by value film set at old new c.0 i.demux u e f k.0 k.1 c.1 c.2.1
carry n by value film o old new r i u e f c = absurd c

-- where an order is out
pub carry_out : (n by : ℕ) (value : ℕ → Facts → Reading) (film : Film) (o : Option Order) (old new : WorldView) (r : Result Reply WorldError) → InStory n value film old → by ≡ n
    → old.order ≡ o → old.carried ≡ None → IsSomeAnd o (λ q. Carries by q old r new) → Moves n value film old new
carry_out n by value film None old new r i u e f c = absurd c
carry_out n by value film (Some o) old new r i u e f c = carry n by value film o old new r i u e f c

-- ---- an order's end

end_by : (n by : ℕ) (value : ℕ → Facts → Reading) (film : Film) (o : Order) (x : Outcome) (old new : WorldView) (answer : Result Unit CoreError) → old.order ≡ Some o → old.carried ≡ Some x
    → Ends by x old.core answer new.core → new ≡ done_after answer (record old { core = new.core }) → Moves n value film old new
end_by n by value film o x old new (Ok u) e f h c = record {
  path = ap (λ (w : WorldView). w.path) c;
  tracks = ap (λ (w : WorldView). w.tracks) c;
  list = ap (λ (w : WorldView). w.demux.list) c;
  entries = h.entries;
  step = Done by;
  under = tt;
  is = record {
    order = o;
    outcome = x;
    is_out = e;
    was_carried = f;
    demux = ap (λ (w : WorldView). newest_first w.demux) c;
    adds = effects_add by (Did by x ∷ history old.core) (history new.core) h.holds.0;
    free = ap (λ (w : WorldView). w.order) c;
    fresh = ap (λ (w : WorldView). w.carried) c;
  };
}
end_by n by value film o x old new (Err y) e f h c = record {
  path = ap (λ (w : WorldView). w.path) c;
  tracks = ap (λ (w : WorldView). w.tracks) c;
  list = ap (λ (w : WorldView). w.demux.list) c;
  entries = h.entries;
  step = Other;
  under = tt;
  is = rests_is film value old new (record {
    demux = ap (λ (w : WorldView). newest_first w.demux) c;
    core = ap history h.err;
    order = ap (λ (w : WorldView). w.order) c;
    carried = ap (λ (w : WorldView). w.carried) c;
  });
}

-- what was carried is an outcome of the order that is out
end_of : (n by : ℕ) (value : ℕ → Facts → Reading) (film : Film) (o : Option Order) (x : Outcome) (old new : WorldView) (r : Result Reply WorldError) → old.order ≡ o → old.carried ≡ Some x
    → IsSomeAnd o (λ q. IsOf (opening old) q x) → Does by x old r new → Moves n value film old new
end_of n by value film None x old new r e f k d = absurd k
end_of n by value film (Some o) x old new r e f k d = end_by n by value film o x old new d.0 e f d.1 d.3

done_with : (n by : ℕ) (value : ℕ → Facts → Reading) (film : Film) (x : Outcome) (old new : WorldView) (r : Result Reply WorldError) → InStory n value film old → old.carried ≡ Some x
    → IsDone by x old r new → Moves n value film old new
done_with n by value film x old new r i f (inl wants) = unmoved n value film old new wants.1
done_with n by value film x old new r i f (inr d) =
    let k : IfSome (Some x) (λ y. IsSomeAnd old.order (λ o. IsOf (opening old) o y)) =
    subst (λ (c : Option Outcome). IfSome c (λ y. IsSomeAnd old.order (λ o. IsOf (opening old) o y))) f i.tied.carried_is in
    end_of n by value film old.order x old new r refl f k d

pub done : (n by : ℕ) (value : ℕ → Facts → Reading) (film : Film) (x : Option Outcome) (old new : WorldView) (r : Result Reply WorldError) → InStory n value film old → old.carried ≡ x
    → IsSomeAnd x (λ y. IsDone by y old r new) → Moves n value film old new
done n by value film None old new r i f d = absurd d
done n by value film (Some x) old new r i f d = done_with n by value film x old new r i f d
