-- A part of a film with one packet is a chunk, and where a job reads on the current range is read on.
use Rattle.std.proofs.Common.{◌≡◌, ℕ, ◌<◌, ◌≤◌, Option, Some, None, List, [], ◌∷◌, length, arith, refl, ap, sym, subst}
use Rattle.std.specs.Prelude.{All, IfSome, IsSomeAnd, IsTrue, sum_by}
use Rattle.mc_packet.specs.declared.choice.Starts.{Starts}
use Rattle.mc_packet.specs.declared.packet.Packet.{Packet}
use Rattle.mc_packet.specs.declared.walk.Chunk.{Chunk}
use Rattle.mc_packet.specs.declared.walk.Mark.{Mark}
use Rattle.mc_packet.specs.Shape.{AreBetween, HasShape, is_near}
use Rattle.mc_range.specs.Range.{RangeState}
use Rattle.mc_cache.specs.Cache.{mark_in}
use Rattle.mc_calls.specs.declared.job.Job.{Job}
use Rattle.mc_calls.specs.declared.job.Job.TheVariants.{Read, Resume}
use Rattle.mc_calls.specs.State.{DemuxState}
use Rattle.mc_calls.specs.Demuxers.{IsDemux, KeepsJob}
use Rattle.mc_calls.specs.Outcomes.{BringsPart, BringsStarts, PartFits, StartsFit}

all_one : (P : Packet → Type 0) (p : Packet) → P p → All P (p ∷ [])
all_one P p h = λ k d l. let z : k ≡ 0 = omega arith in rw z h

pub one_shape : (from to : ℕ) (p : Packet) (ps : List Packet) → ps ≡ p ∷ [] → 0 < p.track → p.track < 256 → from ≤ p.pos.block → p.pos.block < to
    → p.pos.lane ≡ 0 → IsTrue (is_near p.time) → length p.body ≡ 1 → AreBetween from to ps
one_shape from to p ps z t u f b l n e = rw z (record {
  few = omega arith;
  one_track = (t, omega arith, tt);
  in_order = (tt, tt);
  places = all_one (λ (q : Packet). (from ≤ q.pos.block) × (q.pos.block < to)) p (f, b);
  lanes = all_one (λ (q : Packet). q.pos.lane < 256) p (omega arith);
  times = all_one (λ (q : Packet). IsTrue (is_near q.time)) p n;
  payloads = let c : sum_by (λ (q : Packet). length q.body) (p ∷ []) ≡ 1 = rw e refl in omega arith;
})

-- ---- a part for the job that is kept

there : (o : Option RangeState) (mark : Mark) → IsSomeAnd o (λ r. (r.mark ≡ mark) × (r.ending ≡ None)) → mark_in o ≡ Some mark
there None mark h = absurd h
there (Some r) mark h = ap (λ (m : Mark). Some m) h.0

pub resume_fits : (d : DemuxState) (asked n : ℕ) (mark : Mark) (part : Chunk) → IsDemux d → d.kept ≡ Some (Resume n mark) → part.from ≡ mark → HasShape part → BringsPart asked part d
resume_fits d asked n mark part i k e s = λ same.
    let job = subst (λ (o : Option Job). IfSome o (KeepsJob d)) k i.kept in (
      subst (λ (o : Option Job). IsSomeAnd o (PartFits part)) (sym k) e,
      subst (λ (m : Mark). mark_in d.cache.current ≡ Some m) (sym e) (there d.cache.current mark job.is.1),
      s,
    )

pub read_fits : (d : DemuxState) (asked n : ℕ) (mark : Mark) (part : Chunk) → d.kept ≡ Some (Read n) → mark_in d.cache.current ≡ Some mark → part.from ≡ mark → HasShape part → BringsPart asked part d
read_fits d asked n mark part k m e s = λ same.
    (subst (λ (o : Option Job). IsSomeAnd o (PartFits part)) (sym k) tt, subst (λ (x : Mark). mark_in d.cache.current ≡ Some x) (sym e) m, s)

pub starts_fit : (d : DemuxState) (asked : ℕ) (job : Job) (starts : Starts) → d.kept ≡ Some job → StartsFit starts job → BringsStarts asked starts d
starts_fit d asked job starts k f = λ same. subst (λ (o : Option Job). IsSomeAnd o (StartsFit starts)) (sym k) f
