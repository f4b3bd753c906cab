use Rattle.std.proofs.Common.{rules}
use Rattle.mc_state.proofs.Telling.{push_noted, push_silent}
use Rattle.mc_state.proofs.state.State.push_to.Goals as goal

pub invariant_of-self : goal.invariant_of-self
invariant_of-self g c =
    (push_noted g.M.Meaning.value c.args.self.now _ c.args.by c.args.c c.args.event c.args.told c.in-Some.record c.push_at-pushed.result c.push_at-pushed.new.clients _ _
    c.self.view_is c.self.invariant c.requires.due
    (record { here = c.push_at-pushed.ensures.here; absent = c.push_at-pushed.ensures.absent; others = c.push_at-pushed.ensures.others })
    c.requires.same c.in-Some.ensures c.push_reserved.ensures.items).0.stands

pub returns-in-Some-clause-ahead : goal.returns-in-Some-clause-ahead
returns-in-Some-clause-ahead g c =
    (push_noted g.M.Meaning.value c.args.self.now _ c.args.by c.args.c c.args.event c.args.told c.in-Some.record c.push_at-pushed.result c.push_at-pushed.new.clients c.push_reserved.new.self.items 0
    c.self.view_is c.self.invariant c.requires.due
    (record { here = c.push_at-pushed.ensures.here; absent = c.push_at-pushed.ensures.absent; others = c.push_at-pushed.ensures.others })
    c.requires.same c.in-Some.ensures c.push_reserved.ensures.items).0.ahead

pub returns-in-Some-clause-adds : goal.returns-in-Some-clause-adds
returns-in-Some-clause-adds g c =
    (push_noted g.M.Meaning.value c.args.self.now _ c.args.by c.args.c c.args.event c.args.told c.in-Some.record c.push_at-pushed.result c.push_at-pushed.new.clients c.push_reserved.new.self.items 0
    c.self.view_is c.self.invariant c.requires.due
    (record { here = c.push_at-pushed.ensures.here; absent = c.push_at-pushed.ensures.absent; others = c.push_at-pushed.ensures.others })
    c.requires.same c.in-Some.ensures c.push_reserved.ensures.items).1

pub invariant_of-self-in_default : goal.invariant_of-self-in_default
invariant_of-self-in_default g c =
    (push_silent g.M.Meaning.value c.args.self.now _ c.args.by c.args.c c.args.event c.args.told c.push_at-pushed.result c.push_at-pushed.new.clients
    c.self.view_is c.self.invariant
    (record { here = c.push_at-pushed.ensures.here; absent = c.push_at-pushed.ensures.absent; others = c.push_at-pushed.ensures.others })
    c.in_default.ensures).stands

pub returns-in_default-clause-ahead : goal.returns-in_default-clause-ahead
returns-in_default-clause-ahead g c =
    (push_silent g.M.Meaning.value c.args.self.now _ c.args.by c.args.c c.args.event c.args.told c.push_at-pushed.result c.push_at-pushed.new.clients
    c.self.view_is c.self.invariant
    (record { here = c.push_at-pushed.ensures.here; absent = c.push_at-pushed.ensures.absent; others = c.push_at-pushed.ensures.others })
    c.in_default.ensures).ahead

pub returns-in_default-clause-adds : goal.returns-in_default-clause-adds
returns-in_default-clause-adds g c = search rules
