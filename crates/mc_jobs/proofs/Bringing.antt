-- What is brought fits the job that is kept.
use Rattle.std.proofs.Common.{◌≡◌, ℕ, true, Option, Some, None, refl, sym, ap, subst, ◌∙◌}
use Rattle.std.specs.Prelude.{IfSome, IsSomeAnd, is_some}
use Rattle.mc_packet.specs.declared.walk.Chunk.{Chunk as FilmChunk}
use Rattle.mc_packet.specs.declared.choice.Choice.{Choice}
use Rattle.mc_packet.specs.declared.choice.Starts.{Starts as FoundStarts}
use Rattle.mc_packet.specs.declared.walk.Mark.{Mark}
use Rattle.mc_range.specs.Range.{RangeState}
use Rattle.mc_cache.specs.Cache.{mark_in}
use Rattle.mc_calls.specs.declared.job.Job.{Job}
use Rattle.mc_calls.specs.declared.job.Job.TheVariants.{SeekTo, Refresh, Resume, Read, Idle}
use Rattle.mc_calls.specs.Demuxers.{IsDemux, IsKept, KeepsJob}
use Rattle.mc_calls.specs.Outcomes.{AreStartsFor, PartFits, StartsFit}
use Rattle.mc_calls.specs.State.{DemuxState}
use Rattle.mc_jobs.specs.declared.brought.Brought.{Brought}
use Rattle.mc_jobs.specs.declared.brought.Brought.TheVariants.{Chunk, Starts, Failed, Starved}
use Rattle.mc_jobs.specs.Doing.{IsPartJob}
use Rattle.mc_jobs.specs.Working.{AreStarts, Brings as BringsIt, CountsFit, IsPart}

some_kept : (o : Option Job) (job : Job) → o ≡ Some job → is_some o ≡ true
some_kept o job e = rw e refl

kept_is : (d : DemuxState) (job : Job) → IsDemux d → d.kept ≡ Some job → IsKept d job
kept_is d job is e = let k : KeepsJob d job = subst (λ o. IfSome o (KeepsJob d)) e is.kept in k.is

fits_kept : (P : Job → Type 0) (o : Option Job) (job : Job) → o ≡ Some job → P job → IsSomeAnd o P
fits_kept P o job e h = subst (λ x. IsSomeAnd x P) (sym e) h

failed_brings : (d : DemuxState) (n before now b a : ℕ) (job : Job) → d.kept ≡ Some job → CountsFit before now (Failed b a) → BringsIt n (Failed b a) d
failed_brings d n before now b a job kept fits = (λ e. some_kept d.kept job kept, fits.0)

starved_brings : (d : DemuxState) (n : ℕ) (job : Job) → d.kept ≡ Some job → BringsIt n Starved d
starved_brings d n job kept = λ e. some_kept d.kept job kept

mark_is : (current : Option RangeState) (at mark : Mark) → IsSomeAnd current (λ r. (r.mark ≡ mark) × (r.ending ≡ None)) → Some at ≡ mark_in current → at ≡ mark
mark_is None at mark s here = absurd s
mark_is (Some r) at mark s here = let e : at ≡ r.mark = cc here in e ∙ s.0

part_fits : (d : DemuxState) (job : Job) (at : Mark) (c : FilmChunk) → IsKept d job → IsPartJob job → Some at ≡ mark_in d.cache.current → c.from ≡ at → PartFits c job
part_fits d (Resume n mark) at c k part here from = from ∙ mark_is d.cache.current at mark k.1 here
part_fits d (Read n) at c k part here from = tt
part_fits d (SeekTo n set t dir) at c k part here from = absurd part
part_fits d (Refresh n added lead t) at c k part here from = absurd part
part_fits d Idle at c k part here from = absurd part

pub part_brings : (d : DemuxState) (job : Job) (n before now : ℕ) (at : Mark) (brought : Brought) → IsDemux d → d.kept ≡ Some job → IsPartJob job → Some at ≡ mark_in d.cache.current → IsPart at brought
    → CountsFit before now brought → BringsIt n brought d
part_brings d job n before now at (Chunk c) is kept part here fits counts =
    λ e. (fits_kept (PartFits c) d.kept job kept (part_fits d job at c (kept_is d job is kept) part here fits.0), sym here ∙ ap (λ (m : Mark). Some m) (sym fits.0), fits.1)
part_brings d job n before now at (Starts s) is kept part here fits counts = absurd fits
part_brings d job n before now at (Failed b a) is kept part here fits counts = failed_brings d n before now b a job kept counts
part_brings d job n before now at Starved is kept part here fits counts = starved_brings d n job kept

pub starts_brings : (d : DemuxState) (job : Job) (n before now : ℕ) (set : Choice) (brought : Brought) → d.kept ≡ Some job → ((s : FoundStarts) → AreStartsFor set s → StartsFit s job) → AreStarts set brought
    → CountsFit before now brought → BringsIt n brought d
starts_brings d job n before now set (Chunk c) kept job_fits fits counts = absurd fits
starts_brings d job n before now set (Starts s) kept job_fits fits counts = λ e. fits_kept (StartsFit s) d.kept job kept (job_fits s fits)
starts_brings d job n before now set (Failed b a) kept job_fits fits counts = failed_brings d n before now b a job kept counts
starts_brings d job n before now set Starved kept job_fits fits counts = starved_brings d n job kept
