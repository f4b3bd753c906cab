use Rattle.std.proofs.Common.{arith, refl}
use Rattle.mc_queue.proofs.Rising.{rise_bounds}
use Rattle.mc_queue.proofs.Halving.{parted}
use Rattle.mc_queue.proofs.Uniting.{unites_seen, fits_seen, absorbed, state_is}
use Rattle.mc_queue.proofs.queue.Queue.absorb.Goals as goal

pub weight_outside-requires-clause-order : goal.weight_outside-requires-clause-order
weight_outside-requires-clause-order c = rise_bounds _ _ _ _ c.self.invariant.2

pub absorb-requires-clause-order : goal.absorb-requires-clause-order
absorb-requires-clause-order c = rise_bounds _ _ _ _ c.self.invariant.2

pub overflow_add-self : goal.overflow_add-self
overflow_add-self c =
    let u = unites_seen _ _ _ _ c.self.view_is c.other.view_is c.self.invariant.2 c.other.invariant.2 c.requires.meet in
    let l = u.light in
    let f = fits_seen _ _ _ _ c.self.view_is c.other.view_is c.requires.fits in
    let w = c.weight_outside.ensures in
    let i = c.self.invariant.0 in
    omega arith

pub absorb-requires-clause-fits : goal.absorb-requires-clause-fits
absorb-requires-clause-fits c =
    let u = unites_seen _ _ _ _ c.self.view_is c.other.view_is c.self.invariant.2 c.other.invariant.2 c.requires.meet in
    let f = fits_seen _ _ _ _ c.self.view_is c.other.view_is c.requires.fits in
    (absorbed _ _ u f _ _ refl refl _ refl).fits

pub weight_behind-self-inside-requires-clause-fits : goal.weight_behind-self-inside-requires-clause-fits
weight_behind-self-inside-requires-clause-fits c =
    let u = unites_seen _ _ _ _ c.self.view_is c.other.view_is c.self.invariant.2 c.other.invariant.2 c.requires.meet in
    let f = fits_seen _ _ _ _ c.self.view_is c.other.view_is c.requires.fits in
    (absorbed _ _ u f _ _ c.earlier-self-inside.ensures c.later-self-inside.ensures _ c.absorb.ensures.items).fits

pub weight_behind-self-inside-requires-clause-parted : goal.weight_behind-self-inside-requires-clause-parted
weight_behind-self-inside-requires-clause-parted c =
    let u = unites_seen _ _ _ _ c.self.view_is c.other.view_is c.self.invariant.2 c.other.invariant.2 c.requires.meet in
    let f = fits_seen _ _ _ _ c.self.view_is c.other.view_is c.requires.fits in
    let a = absorbed _ _ u f _ _ c.earlier-self-inside.ensures c.later-self-inside.ensures _ c.absorb.ensures.items in
    parted _ _ _ _ _ a.rise

pub invariant_of-self : goal.invariant_of-self
invariant_of-self c =
    let u = unites_seen _ _ _ _ c.self.view_is c.other.view_is c.self.invariant.2 c.other.invariant.2 c.requires.meet in
    let f = fits_seen _ _ _ _ c.self.view_is c.other.view_is c.requires.fits in
    let a = absorbed _ _ u f _ _ c.earlier-self-inside.ensures c.later-self-inside.ensures _ c.absorb.ensures.items in
    let b = a.weight_is in
    let w = c.weight_outside.ensures in
    let i = c.self.invariant.0 in
    (omega arith, a.fits, a.rise, c.weight_behind-self-inside.ensures, c.next_wanted-self-inside.ensures)

pub returns-clause-value : goal.returns-clause-value
returns-clause-value c =
    let u = unites_seen _ _ _ _ c.self.view_is c.other.view_is c.self.invariant.2 c.other.invariant.2 c.requires.meet in
    let f = fits_seen _ _ _ _ c.self.view_is c.other.view_is c.requires.fits in
    let a = absorbed _ _ u f _ _ c.earlier-self-inside.ensures c.later-self-inside.ensures _ c.absorb.ensures.items in
    let l = c.absorb.ensures.room_used in
    rw (← c.self.view_is, ← c.other.view_is) (record {
      both = state_is _ _ _ _ _ _ _ _ c.earlier-self-inside.ensures c.later-self-inside.ensures a.all;
      room_used = omega arith;
      other_left = state_is _ _ _ _ _ _ _ _ refl refl c.absorb.ensures.none_left;
    })

pub returns-clause-queue : goal.returns-clause-queue
returns-clause-queue c =
    let u = unites_seen _ _ _ _ c.self.view_is c.other.view_is c.self.invariant.2 c.other.invariant.2 c.requires.meet in
    let f = fits_seen _ _ _ _ c.self.view_is c.other.view_is c.requires.fits in
    let a = absorbed _ _ u f _ _ c.earlier-self-inside.ensures c.later-self-inside.ensures _ c.absorb.ensures.items in
    record { rise = a.rise; fits = a.fits }
