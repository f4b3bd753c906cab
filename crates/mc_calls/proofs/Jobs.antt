-- The job that is to be done next is one that may be kept, and asking for it changes nothing that a film tells of.
use Rattle.std.proofs.Common.{◌≡◌, ℕ, ◌≤◌, ◌<◌, Bool, true, false, ◌||◌, Option, Some, None, refl, ap, sym, subst, ◌∙◌, inl, inr, arith}
use Rattle.std.specs.Prelude.{not, nat_le, is_some, IfSome, IsSomeAnd}
use Rattle.std.proofs.lemmas.Bool.{cases_Bool}
use Rattle.std.proofs.lemmas.Bool.Decides.{nat_tests}
use Rattle.mc_packet.specs.declared.choice.Choice.{Choice}
use Rattle.mc_packet.specs.Choices.{is_empty, nothing}
use Rattle.mc_range.specs.Range.{RangeState}
use Rattle.mc_cache.specs.Cache.{ending_in, mark_in}
use Rattle.mc_calls.specs.declared.job.Job.{Job}
use Rattle.mc_calls.specs.declared.job.Job.TheVariants.{SeekTo, Refresh, Resume, Read}
use Rattle.mc_calls.specs.declared.waiting.Target.{Target}
use Rattle.mc_calls.specs.State.{DemuxState, forward_of}
use Rattle.mc_calls.specs.Demuxers.{IsDemux, IsKept, KeepsJob}
use Rattle.mc_calls.specs.Jobs.{is_full, job_of, kept_job, read_at, read_job, some_wants, start_job}

-- ---- what tests tell

or_false : (a b : Bool) → (a || b) ≡ false → (a ≡ false) × (b ≡ false)
or_false true b e = absurd (cc)
or_false false b e = (refl, e)

none_is : {X : Type 0} (o : Option X) → is_some o ≡ false → o ≡ None
none_is None e = refl
none_is (Some x) e = absurd (cc)

empty_of : (v a s : Option ℕ) → (let c : Choice = record { video = v; audio = a; sub = s } in is_empty c) ≡ true → (let c : Choice = record { video = v; audio = a; sub = s } in c) ≡ nothing
empty_of None None None e = refl
empty_of v a (Some k) e = absurd (cc)
empty_of (Some k) a None e = absurd (cc)
empty_of None (Some k) None e = absurd (cc)

pub empty_is : (set : Choice) → is_empty set ≡ true → set ≡ nothing
empty_is set e = empty_of set.video set.audio set.sub e

-- ---- the job may be kept

-- what every job has that is kept
record Sound (d : DemuxState) : Type 0 where
  some : is_empty d.set ≡ false
  sound : d.failure ≡ None
  room : 2 ≤ d.spare

keeps : (d : DemuxState) (k : Option Job) (job : Job) → Sound d → IsKept (record d { kept = k }) job → KeepsJob (record d { kept = k }) job
keeps d k job s is = record { is = is; some = s.some; sound = s.sound; room = s.room }

at_kept : (d : DemuxState) (k : Option Job) (b : Bool) (o : Option RangeState) → d.cache.current ≡ o → Sound d → d.waiting ≡ nothing → is_some (ending_in o) ≡ false
    → forward_of d < d.cache.limits.forward → IfSome (kept_job (read_at d.number b (mark_in o))) (KeepsJob (record d { kept = k }))
at_kept d k b None e s w n f = tt
at_kept d k true (Some r) e s w n f =
    keeps d k (Read d.number) s (refl, subst (λ (x : Option RangeState). IsSomeAnd x (λ z. z.ending ≡ None)) (sym e) (none_is r.ending n), w, f)
at_kept d k false (Some r) e s w n f =
    keeps d k (Resume d.number r.mark) s (refl, subst (λ (x : Option RangeState). IsSomeAnd x (λ z. (z.mark ≡ r.mark) × (z.ending ≡ None))) (sym e) (refl, none_is r.ending n), w, f)

read_kept : (d : DemuxState) (k : Option Job) → Sound d → d.waiting ≡ nothing → IfSome (kept_job (read_job d)) (KeepsJob (record d { kept = k }))
read_kept d k s w = elim (cases_Bool (is_full d)) [
  | inl y ↦ rw y tt
  | inr n ↦
      let one = or_false (is_some (ending_in d.cache.current)) (nat_le d.cache.limits.forward (forward_of d) || not (some_wants d)) n in
      let two = or_false (nat_le d.cache.limits.forward (forward_of d)) (not (some_wants d)) one.1 in
      let over : nat_le d.cache.limits.forward (forward_of d) ≡ false = two.0 in
      let below : forward_of d < d.cache.limits.forward = grind (arith, nat_tests) in
      rw n (at_kept d k d.fed d.cache.current refl s w one.0 below)
]

start_kept : (d : DemuxState) (k : Option Job) (o : Option Target) → d.seeking ≡ o → Sound d → IfSome (kept_job (start_job d o)) (KeepsJob (record d { kept = k }))
start_kept d k (Some t) e s = keeps d k (SeekTo d.number d.set t.t t.dir) s (refl, refl, e)
start_kept d k None e s = elim (cases_Bool (is_empty d.waiting)) [
  | inl y ↦ rw y (read_kept d k s (empty_is d.waiting y))
  | inr n ↦ rw n (keeps d k (Refresh d.number d.waiting d.switch.lead d.switch.at) s (refl, refl, n, refl))
]

pub job_kept : (d : DemuxState) (k : Option Job) → 2 ≤ d.spare → IfSome (kept_job (job_of d)) (KeepsJob (record d { kept = k }))
job_kept d k room = elim (cases_Bool (is_empty d.set || is_some d.failure)) [
  | inl y ↦ rw y tt
  | inr n ↦
      let both = or_false (is_empty d.set) (is_some d.failure) n in
      rw n (start_kept d k d.seeking refl (record { some = both.0; sound = none_is d.failure both.1; room = room }))
]

pub keep_demux : (d : DemuxState) (job : Job) → IsDemux d → job ≡ job_of d → 2 ≤ d.spare → IsDemux (record d { kept = kept_job job })
keep_demux d job i e room = record {
  cache = i.cache;
  limits = i.limits;
  distinct = i.distinct;
  known = i.known;
  sets = i.sets;
  placed = i.placed;
  waits = i.waits;
  numbered = i.numbered;
  kept = subst (λ (x : Job). IfSome (kept_job x) (KeepsJob (record d { kept = kept_job job }))) (sym e) (job_kept d (kept_job job) room);
  within = i.within;
  weight = i.weight;
}

pub keep_inside : (v now : DemuxState) (job : Job) (k : Option Job) → v ≡ now → IsDemux v → job ≡ job_of now → 2 ≤ now.spare → k ≡ kept_job job → IsDemux (record v { kept = k })
keep_inside v now job k e i is room n =
    let same : job_of v ≡ job_of now = ap (λ (d : DemuxState). job_of d) e in
    let more : 2 ≤ v.spare = subst (λ (d : DemuxState). 2 ≤ d.spare) (sym e) room in
    subst (λ (o : Option Job). let y : DemuxState = record v { kept = o } in IsDemux y) (sym n) (keep_demux v job i (is ∙ sym same) more)
