use Rattle.std.proofs.Common.{◌≡◌, ◌∙◌, ap, refl, inr, Ok, Err, Result, Some, None, List, map, get_or, IfOk}
use Rattle.std.specs.declared.alloc.AllocError.{AllocError}
use Rattle.mc_ring.specs.declared.event.Event.{Event}
use Rattle.mc_client.specs.Polls.{Finds, WatchesPolled, change_of, told_at}
use Rattle.mc_client.specs.Watches.{Shown, cleared, present}
use Rattle.mc_client.specs.declared.watch.Watch.{Watch}
use Rattle.mc_client.specs.declared.watches.Changed.{Changed}
use Rattle.mc_client.proofs.Polling.{stands_at, tells}
use Rattle.mc_client.proofs.watches.next_change.Goals as goal

-- the observer that was found would be told
would_tell : (now : Watch → Shown) (ws : List Watch) (c : Changed) → Finds now ws (Some c) → (w : Watch) → w ≡ get_or ws c.place w
    → (r : Result Event AllocError) → IfOk r (λ e. e ≡ change_of w c.shown) → IfOk r (λ e. (ws' : List Watch) × WatchesPolled now ws e ws')
would_tell now ws c f w is (Ok e) event =
    let same : w ≡ f.0 = is ∙ stands_at now ws c f w in
    (told_at ws c.place f.0 c.shown, tells now ws c f e (told_at ws c.place f.0 c.shown) (event ∙ ap (λ (x : Watch). change_of x c.shown) same) refl)
would_tell now ws c f w is (Err e) event = tt

pub returns-in-Some : goal.returns-in-Some
returns-in-Some g c =
    let now = present g.M.Meaning.value c.args.facts.now in
    let found : Finds now c.args.watches.now (Some c.in-Some.changed) = rw c.in-Some.is at c.in_ok-changed.ensures in
    would_tell now c.args.watches.now c.in-Some.changed found c.index-watches-changed.result c.index-watches-changed.is c.change.result c.change.ensures

pub returns-in-None : goal.returns-in-None
returns-in-None g c =
    let now = present g.M.Meaning.value c.args.facts.now in
    let found : Finds now c.args.watches.now None = rw c.in-None.is at c.in_ok-changed.ensures in
    (map cleared c.args.watches.now, inr (record { settled = found; event = refl; after = refl }))
