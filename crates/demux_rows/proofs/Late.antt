-- Behind a seek the part of a film that was asked for before it is stale.
use Rattle.std.proofs.Common.{◌≡◌, ℕ, ◌+◌, Option, Some, arith, subst}
use Rattle.std.specs.Prelude.{IfSome}
use Rattle.mc_packet.specs.declared.walk.Chunk.{Chunk}
use Rattle.mc_packet.specs.declared.walk.Mark.{Mark}
use Rattle.mc_calls.specs.declared.job.Job.{Job}
use Rattle.mc_calls.specs.declared.job.Job.TheVariants.{Resume}
use Rattle.mc_calls.specs.State.{DemuxState}
use Rattle.mc_calls.specs.Demuxers.{IsDemux, KeepsJob}
use Rattle.mc_calls.specs.Outcomes.{BringsPart}

pub late_fits : (d e : DemuxState) (n : ℕ) (mark : Mark) (part : Chunk) → IsDemux d → d.kept ≡ Some (Resume n mark) → e.number ≡ d.number + 1 → BringsPart n part e
late_fits d e n mark part i k later = λ same.
    let job = subst (λ (o : Option Job). IfSome o (KeepsJob d)) k i.kept in
    let now : n ≡ d.number = job.is.0 in
    absurd (omega arith)
