-- What is owed behind a taken request, an outcome or a learned view, and what of it stands.
use Rattle.std.specs.Prelude.{List, [], ◌∷◌, ◌++◌}
use Rattle.mc_props.specs.First.{first_facts}
use Rattle.mc_props.specs.declared.facts.Facts.{Facts}
use Rattle.mc_player.specs.declared.record.Order.{Order}
use Rattle.mc_player.specs.declared.record.Order.TheVariants as order
use Rattle.mc_player.specs.declared.record.CoreRecord.{CoreRecord}
use Rattle.mc_player.specs.declared.record.CoreRecord.TheVariants.{Learned, Wrote, Took, Ordered, Did, Pushed, Replied}
use Rattle.mc_player.specs.Effects.{Effect, Give, Push, Write, plan_deed, plan_did, plan_view}
use Rattle.mc_player.specs.Facts.{next_deed}
use Rattle.mc_player.specs.Lives.{Table}

-- the order for the file begins anew, and brings nothing
abbrev pub but_load : {X : Type 0} → Order → List X → List X
but_load order.Load xs = []
but_load o xs = xs

-- what the last taken request, outcome or view brings with it
abbrev pub plan : Table → List CoreRecord → List Effect
plan t [] = []
plan t (Took by c n id ∷ h) = plan_deed t h (next_deed t h)
plan t (Did by x ∷ h) = plan_did t h x
plan t (Learned by view ∷ h) = plan_view t h view
plan t (Ordered by o ∷ h) = but_load o (plan t h)
plan t (Wrote by mask f ∷ h) = plan t h
plan t (Pushed by c e kept ∷ h) = plan t h
plan t (Replied by c n e ∷ h) = plan t h
plan t (_ ∷ h) = []

-- what of it stands
abbrev pub told : List CoreRecord → List Effect
told [] = []
told (Wrote by mask f ∷ h) = told h ++ Write mask ∷ []
told (Pushed by c e kept ∷ h) = told h ++ Push c e ∷ []
told (Ordered by o ∷ h) = but_load o (told h ++ Give o ∷ [])
told (Replied by c n e ∷ h) = told h
told (_ ∷ h) = []

-- the facts that were written last
abbrev pub last_wrote : List CoreRecord → Facts
last_wrote [] = first_facts
last_wrote (Wrote by mask f ∷ h) = f
last_wrote (_ ∷ h) = last_wrote h
