use Rattle.std.proofs.Common.{◌≡◌, true, subst, sym}
use Rattle.mc_packet.specs.declared.walk.Mark.{Mark}
use Rattle.mc_range.specs.Range.{RangeState, IsRange, meets_range}
use Rattle.mc_range.proofs.Unions.{touching_meet, joined_range}
use Rattle.mc_range.proofs.range.Range.join.Goals as goal

-- src/range.rt:179:9
pub join-requires-clause-meet : goal.join-requires-clause-meet
join-requires-clause-meet c =
    let r : RangeState = record { set = c.self.inside.set; queues = c.self.inside.queues; mark = c.self.inside.mark; ending = c.self.inside.ending } in
    let o : RangeState = record { set = c.other.inside.set; queues = c.other.inside.queues; mark = c.other.inside.mark; ending = c.other.inside.ending } in
    let h = subst (λ (x : RangeState). meets_range x c.args.other.now ≡ true) (sym c.self.view_is) c.requires.touch in
    let k = subst (λ (x : RangeState). meets_range r x ≡ true) (sym c.other.view_is) h in
    touching_meet r o c.self.invariant c.other.invariant k

-- src/range.rt:170:5
pub invariant_of-self-2 : goal.invariant_of-self-2
invariant_of-self-2 c =
    let r : RangeState = record { set = c.self.inside.set; queues = c.self.inside.queues; mark = c.self.inside.mark; ending = c.self.inside.ending } in
    let o : RangeState = record { set = c.other.inside.set; queues = c.other.inside.queues; mark = c.other.inside.mark; ending = c.other.inside.ending } in
    let h = subst (λ (x : RangeState). meets_range x c.args.other.now ≡ true) (sym c.self.view_is) c.requires.touch in
    let k = subst (λ (x : RangeState). meets_range r x ≡ true) (sym c.other.view_is) h in
    let m = touching_meet r o c.self.invariant c.other.invariant k in
    let j = joined_range r o c.join.new.queues c.joined_ending-ending.result c.self.invariant c.other.invariant m c.in_ok-join.ensures.value.1 c.in_ok-join.ensures.sound in
    subst (λ (x : Mark). IsRange (record { set = c.self.inside.set; queues = c.join.new.queues; mark = x; ending = c.joined_ending-ending.result })) (sym c.greater-mark.ensures) j

-- src/range.rt:170:5
pub returns-clause-range : goal.returns-clause-range
returns-clause-range c =
    let r : RangeState = record { set = c.self.inside.set; queues = c.self.inside.queues; mark = c.self.inside.mark; ending = c.self.inside.ending } in
    let o : RangeState = record { set = c.other.inside.set; queues = c.other.inside.queues; mark = c.other.inside.mark; ending = c.other.inside.ending } in
    let h = subst (λ (x : RangeState). meets_range x c.args.other.now ≡ true) (sym c.self.view_is) c.requires.touch in
    let k = subst (λ (x : RangeState). meets_range r x ≡ true) (sym c.other.view_is) h in
    let m = touching_meet r o c.self.invariant c.other.invariant k in
    let j = joined_range r o c.join.new.queues c.joined_ending-ending.result c.self.invariant c.other.invariant m c.in_ok-join.ensures.value.1 c.in_ok-join.ensures.sound in
    subst (λ (x : Mark). IsRange (record { set = c.self.inside.set; queues = c.join.new.queues; mark = x; ending = c.joined_ending-ending.result })) (sym c.greater-mark.ensures) j
