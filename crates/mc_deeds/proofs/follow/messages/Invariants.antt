use Rattle.std.proofs.Common.{◌≡◌, length}
use Rattle.std.specs.List.{AllByRecursion}
use Rattle.mc_ring.specs.declared.event.Event.TheVariants as event
use Rattle.mc_deeds.specs.Follow.{IsTwice}
use Rattle.mc_deeds.proofs.follow.messages.Given as goal

abbrev pub invariant-loop : goal.invariant-loop
invariant-loop l = record {
  all : AllByRecursion (IsTwice (event.Message l.words)) l.events.items;
  long : length l.events.items ≡ l.counter;
}
