use Rattle.std.proofs.Common.{◌≡◌, Some, None, List, true, false, IfOk, ap, sym, subst, ◌∙◌}
use Rattle.mc_ring.specs.Ring.{RingState, oldest}
use Rattle.mc_client.specs.Client.{ClientState}
use Rattle.mc_client.specs.Polls.{WatchesPolled}
use Rattle.mc_client.specs.Watches.{present}
use Rattle.mc_client.specs.declared.watch.Watch.{Watch}
use Rattle.mc_client.proofs.Clients.{would_change, would_overflow, would_pop}
use Rattle.mc_client.proofs.client.Client.see_next.Goals as goal

pub returns-in-Some : goal.returns-in-Some
returns-in-Some g c =
    let s = c.args.self.now in
    let ring : c.self.inside.ring ≡ s.ring = ap (λ (x : ClientState). x.ring) c.self.view_is in
    let first : oldest s.ring ≡ Some c.in-Some.event.now = sym (c.in-Some.ensures.value ∙ ap oldest ring) in
    would_pop (present g.M.Meaning.value c.args.facts.now) s c.in-Some.event.now first c.copy.result c.copy.ensures

pub returns-then-choked : goal.returns-then-choked
returns-then-choked g c =
    let s = c.args.self.now in
    let ring : c.self.inside.ring ≡ s.ring = ap (λ (x : ClientState). x.ring) c.self.view_is in
    let none : oldest s.ring ≡ None = sym (c.in_default.ensures.value ∙ ap oldest ring) in
    let choked : s.ring.choked ≡ true = sym (c.if-choked.ensures.value ∙ ap (λ (r : RingState). r.choked) ring) in
    would_overflow (present g.M.Meaning.value c.args.facts.now) s none choked

pub returns : goal.returns
returns g c =
    let s = c.args.self.now in
    let now = present g.M.Meaning.value c.args.facts.now in
    let ring : c.self.inside.ring ≡ s.ring = ap (λ (x : ClientState). x.ring) c.self.view_is in
    let none : oldest s.ring ≡ None = sym (c.in_default.ensures.value ∙ ap oldest ring) in
    let free : s.ring.choked ≡ false = sym (c.if-choked.ensures.value ∙ ap (λ (r : RingState). r.choked) ring) in
    let watches : c.deref.result.now ≡ s.watches = c.deref.ensures.value ∙ ap (λ (x : ClientState). x.watches) c.self.view_is in
    would_change now s none free c.next_change.result
    (subst (λ (ws : List Watch). IfOk c.next_change.result (λ e. (x : List Watch) × WatchesPolled now ws e x)) watches c.next_change.ensures)
