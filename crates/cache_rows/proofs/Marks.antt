-- Room for a part of a film leaves the current range's mark.
use Rattle.std.proofs.Common.{◌≡◌, Option, Some, None, sym, ◌∙◌}
use Rattle.std.specs.Prelude.{IsSomeAnd}
use Rattle.mc_packet.specs.declared.walk.Mark.{Mark}
use Rattle.mc_range.specs.Range.{RangeState}
use Rattle.mc_cache.specs.Cache.{mark_in}
use Rattle.mc_cache.specs.Changing.{RoomierIn}

pub still_marked : (c d : Option RangeState) (m : Mark) → mark_in c ≡ Some m → RoomierIn c d → IsSomeAnd d (λ r. m ≡ r.mark)
still_marked None d m e r = absurd (cc)
still_marked (Some a) None m e r = absurd r
still_marked (Some a) (Some b) m e r = let s : a.mark ≡ m = cc e in sym s ∙ sym r.mark_is
