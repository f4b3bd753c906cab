-- What is true of every demuxer.
use Rattle.std.specs.Prelude.{◌≡◌, ℕ, ◌+◌, ◌*◌, ◌≤◌, ◌<◌, ◌^◌, true, false, List, [], length, Option, Some, None, pos, ◌≤ℤ◌, IfSome, IsSomeAnd, is_some}
use Rattle.std.specs.List.{AllByRecursion}
use Rattle.mc_packet.specs.declared.choice.Choice.{Choice}
use Rattle.mc_packet.specs.declared.cache.Heads.{Heads}
use Rattle.mc_packet.specs.declared.cache.Limits.{Limits}
use Rattle.mc_packet.specs.Choices.{has, is_empty, is_distinct, is_known, nothing}
use Rattle.mc_range.specs.Range.{RangeState, queue_of}
use Rattle.mc_cache.specs.Cache.{IsCache, ranges_of, weight_of}
use Rattle.mc_calls.specs.declared.job.Job.{Job}
use Rattle.mc_calls.specs.declared.job.Job.TheVariants.{SeekTo, Refresh, Resume, Read, Idle}
use Rattle.mc_calls.specs.declared.waiting.Target.{Target}
use Rattle.mc_calls.specs.State.{DemuxState, head_of, forward_of, back_of}
use Rattle.mc_tracks.specs.Selection.{knows}

-- ---- the limits

-- something is read ahead, and the numbers are such that no sum of them is too large
pub record AreLimits (limits : Limits) : Type 0 where
  pub some : 1 ≤ limits.forward
  pub forward : limits.forward ≤ 2 ^ 62
  pub back : limits.back ≤ 2 ^ 62
  pub from_now : pos 0 ≤ℤ limits.readahead
  pub ahead : limits.readahead ≤ℤ pos (2 ^ 62)

-- what one part of a film counts for at most: 256 packets, whose payloads together have 67,108,864 octets. It is the
-- greatest weight that a block of any film can have, and not that of this film's heaviest one
abbrev pub heaviest : ℕ
heaviest = 67108864 + 64 * 256

-- ---- the ranges

-- a track that waits has no queue, and every other one that is selected has one
pub record AreQueued (set waiting : Choice) (r : RangeState) : Type 0 where
  pub blank : (track : ℕ) → has waiting track ≡ true → is_some (queue_of track r.queues) ≡ false
  pub queued : (track : ℕ) → has set track ≡ true → has waiting track ≡ false → is_some (queue_of track r.queues) ≡ true

-- each queue of the current range has a head
abbrev pub HaveHeads : Choice → Heads → RangeState → Type 0
HaveHeads set heads r = (track : ℕ) → is_some (queue_of track r.queues) ≡ true → is_some (head_of set heads track) ≡ true

-- while a seek is pending there is no current range; without one every selected track waits
abbrev pub IsPlaced : Choice → Heads → Choice → Option Target → Option RangeState → Type 0
IsPlaced set heads waiting (Some s) current = (current ≡ None) × (waiting ≡ nothing)
IsPlaced set heads waiting None None = waiting ≡ set
IsPlaced set heads waiting None (Some r) = AreQueued set waiting r × HaveHeads set heads r

-- ---- the tracks that wait

-- a kind's track that waits is the selected one
abbrev pub IsSelected : Option ℕ → Option ℕ → Type 0
IsSelected selected waiting = IfSome waiting (λ track. selected ≡ Some track)

-- they are selected, each under its kind, and while some wait no other range stands beside the current one
pub record AreAwaited (set waiting : Choice) (others : List RangeState) : Type 0 where
  pub video : IsSelected set.video waiting.video
  pub audio : IsSelected set.audio waiting.audio
  pub sub : IsSelected set.sub waiting.sub
  pub alone : is_empty waiting ≡ false → others ≡ []

-- ---- the job that is kept

-- it was the one to be done as it was given: its starts are still looked for, or the current range has still no ending and
-- less ahead of the readers than the limit. Whether it would be given again is another question: readers may have moved
abbrev pub IsKept : DemuxState → Job → Type 0
IsKept d (SeekTo n set t dir) = (n ≡ d.number) × (set ≡ d.set) × (d.seeking ≡ Some (record { t = t; dir = dir }))
IsKept d (Refresh n added lead at) =
    (n ≡ d.number) × (added ≡ d.waiting) × (is_empty added ≡ false) × (d.switch ≡ record { lead = lead; at = at })
IsKept d (Resume n mark) =
    (n ≡ d.number) × IsSomeAnd d.cache.current (λ r. (r.mark ≡ mark) × (r.ending ≡ None)) × (d.waiting ≡ nothing)
    × (forward_of d < d.cache.limits.forward)
IsKept d (Read n) =
    (n ≡ d.number) × IsSomeAnd d.cache.current (λ r. r.ending ≡ None) × (d.waiting ≡ nothing)
    × (forward_of d < d.cache.limits.forward)
IsKept d Idle = ⊥

-- nothing failed before it, and there is room for its outcome's record and one more
pub record KeepsJob (d : DemuxState) (job : Job) : Type 0 where
  pub is : IsKept d job
  pub some : is_empty d.set ≡ false
  pub sound : d.failure ≡ None
  pub room : 2 ≤ d.spare

-- ---- all of it

pub record IsDemux (d : DemuxState) : Type 0 where
  pub cache : IsCache d.cache
  pub limits : AreLimits d.cache.limits
  pub distinct : is_distinct d.set ≡ true
  pub known : is_known (knows d.list) d.set ≡ true
  pub sets : AllByRecursion (λ r. r.set ≡ d.set) (ranges_of d.cache)
  pub placed : IsPlaced d.set d.heads d.waiting d.seeking d.cache.current
  pub waits : AreAwaited d.set d.waiting d.cache.others
  pub numbered : d.number ≤ length d.journal
  pub kept : IfSome d.kept (KeepsJob d)
  pub within : back_of d ≤ d.cache.limits.back
  pub weight : weight_of (ranges_of d.cache) ≤ d.cache.limits.forward + d.cache.limits.back + heaviest
