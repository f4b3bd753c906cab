-- A job that came to nothing leaves a demuxer that stands for the film.
use Rattle.std.proofs.Common.{◌≡◌, true, Option, Some, None, List, [], ◌∷◌, ◌++◌, refl, sym, subst}
use Rattle.std.specs.Prelude.{reverse, is_some, IfSome}
use Rattle.std.proofs.lemmas.List.{reverse-append}
use Rattle.mc_journal.specs.declared.record.DemuxRecord.{DemuxRecord}
use Rattle.mc_journal.specs.Films.{Film}
use Rattle.mc_journal.specs.Used.{is_still}
use Rattle.mc_calls.specs.declared.job.Job.{Job}
use Rattle.mc_calls.specs.declared.waiting.Failure.{Failure}
use Rattle.mc_calls.specs.declared.waiting.Failure.TheVariants.{Failed, Starved}
use Rattle.mc_calls.specs.State.{DemuxState}
use Rattle.mc_calls.specs.Demuxers.{KeepsJob}
use Rattle.mc_calls.specs.Outcomes.{failed_on}
use Rattle.mc_calls.specs.Film.{Fits, StandsFor, failure_record}
use Rattle.mc_calls.proofs.Quiet.{failed_step, starved_step}
use Rattle.mc_calls.proofs.Recalled.{StopSays, stop_tied}

pub reverse-push : (xs : List DemuxRecord) (r : DemuxRecord) → reverse (xs ++ r ∷ []) ≡ r ∷ reverse xs
reverse-push xs r = reverse-append xs (r ∷ [])

-- while a job is kept nothing has failed
pub sound_kept : (d : DemuxState) (o : Option Job) → IfSome o (KeepsJob d) → is_some o ≡ true → d.failure ≡ None
sound_kept d None k some = absurd (cc)
sound_kept d (Some job) k some = k.sound

stopped_fits : (film : Film) (d : DemuxState) (failure : Failure) → StandsFor film d → d.failure ≡ None
    → Fits film d.cache.limits d.set d.cache.current d.cache.others d.heads d.seeking d.waiting d.switch (Some failure) d.ended (failure_record failure ∷ reverse d.journal)
stopped_fits film d (Failed before after) s sound =
    failed_step film d.cache.limits d.set d.cache.current d.cache.others d.heads d.seeking d.waiting d.switch d.failure d.ended (reverse d.journal) before after s.fits s.still sound
stopped_fits film d Starved s sound =
    starved_step film d.cache.limits d.set d.cache.current d.cache.others d.heads d.seeking d.waiting d.switch d.failure d.ended (reverse d.journal) s.fits s.still sound

stopped_still : (film : Film) (h : List DemuxRecord) (failure : Failure) → is_still film.packets (failure_record failure ∷ h) ≡ true
stopped_still film h (Failed before after) = refl
stopped_still film h Starved = refl

stop_says : (h : List DemuxRecord) (failure : Failure) → StopSays (failure_record failure) h
stop_says h (Failed before after) = record { switch = refl; number = refl; upto = refl; marks = refl }
stop_says h Starved = record { switch = refl; number = refl; upto = refl; marks = refl }

pub stop_keeps : (film : Film) (old new : DemuxState) (failure : Failure) → IfSome old.kept (KeepsJob old) → is_some old.kept ≡ true
    → new ≡ failed_on failure (failure_record failure) old → StandsFor film old → StandsFor film new
stop_keeps film old new failure k some e s =
    subst (λ (d : DemuxState). StandsFor film d) (sym e) (record {
      fits = subst (λ (h : List DemuxRecord). Fits film old.cache.limits old.set old.cache.current old.cache.others old.heads old.seeking old.waiting old.switch (Some failure) old.ended h)
          (sym (reverse-push old.journal (failure_record failure))) (stopped_fits film old failure s (sound_kept old old.kept k some));
      still = subst (λ (h : List DemuxRecord). is_still film.packets h ≡ true) (sym (reverse-push old.journal (failure_record failure))) (stopped_still film (reverse old.journal) failure);
      tied = stop_tied old (failure_record failure) (stop_says (reverse old.journal) failure) s.tied;
      known = s.known;
    })
