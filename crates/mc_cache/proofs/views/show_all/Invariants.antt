use Rattle.std.proofs.Common.{◌≡◌, ◌++◌, take}
use Rattle.std.specs.Prelude.{map}
use Rattle.std.specs.List.{AllByRecursion}
use Rattle.mc_range.specs.Filmed.{HaveFrames}
use Rattle.mc_cache.specs.Shown.{shown}
use Rattle.mc_cache.proofs.views.show_all.Given as goal

abbrev pub invariant-loop-other : goal.invariant-loop-other
invariant-loop-other l = record {
  value : l.views ≡ l.initial.views ++ map shown (take l.other-index l.others);
  frames : AllByRecursion (λ v. HaveFrames v.spans) l.views;
}
