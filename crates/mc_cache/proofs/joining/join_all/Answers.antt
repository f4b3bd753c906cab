use Rattle.std.proofs.Common.{◌≡◌, ◌+◌, Some, None, length, refl, ap, sym, ◌∙◌, arith}
use Rattle.std.specs.List.{find}
use Rattle.mc_range.specs.Range.{meets_range}
use Rattle.mc_cache.specs.Cache.{weight_of, without_first}
use Rattle.mc_cache.specs.Joining.{unjoined}
use Rattle.mc_cache.proofs.Lists.{fewer, found_passes, none_passes, unfound}
use Rattle.mc_cache.proofs.United.{moved_room, next_join, only_room}
use Rattle.mc_cache.proofs.joining.join_all.Goals as goal

pub loop-other-init : goal.loop-other-init
loop-other-init c = record {
  steps = rw c.requires.none unjoined;
  all = c.requires.all;
  fits = c.requires.fits;
  space = c.requires.space;
  room = c.requires.room;
  number = omega arith;
  range = c.mark-mark.ensures.range;
  kept = refl;
}

pub join_one-joined-requires-clause-touch : goal.join_one-joined-requires-clause-touch
join_one-joined-requires-clause-touch c =
    let e : find (meets_range c.loop-other.range) c.loop-other.others.items ≡ Some c.in-Some.other = sym c.take_touching.ensures.found ∙ c.in-Some.is in
    found_passes (meets_range c.loop-other.range) c.loop-other.others.items c.in-Some.other e

pub join_one-joined-requires-clause-fits : goal.join_one-joined-requires-clause-fits
join_one-joined-requires-clause-fits c =
    let e : find (meets_range c.loop-other.range) c.loop-other.others.items ≡ Some c.in-Some.other = sym c.take_touching.ensures.found ∙ c.in-Some.is in
    let f = fewer (meets_range c.loop-other.range) c.loop-other.others.items c.in-Some.other c.loop-other.invariant.all e in
    let w = f.weight in
    let i = c.loop-other.invariant.fits in
    omega arith

pub join_one-joined-requires-clause-space : goal.join_one-joined-requires-clause-space
join_one-joined-requires-clause-space c =
    let e : find (meets_range c.loop-other.range) c.loop-other.others.items ≡ Some c.in-Some.other = sym c.take_touching.ensures.found ∙ c.in-Some.is in
    let m = moved_room (meets_range c.loop-other.range) c.loop-other.others.items c.in-Some.other c.loop-other.range 0 e c.loop-other.invariant.space in
    only_room c.in-Some.other (without_first (meets_range c.loop-other.range) c.loop-other.others.items) 0 c.loop-other.range m

pub loop-other-smaller : goal.loop-other-smaller
loop-other-smaller c =
    let e : find (meets_range c.loop-other.range) c.loop-other.others.items ≡ Some c.in-Some.other = sym c.take_touching.ensures.found ∙ c.in-Some.is in
    let f = fewer (meets_range c.loop-other.range) c.loop-other.others.items c.in-Some.other c.loop-other.invariant.all e in
    let n = f.number in
    let l : length c.take_touching.new.others.items ≡ length (without_first (meets_range c.loop-other.range) c.loop-other.others.items) = ap (λ xs. length xs) c.take_touching.ensures.left in
    omega arith

pub loop-other-preserved : goal.loop-other-preserved
loop-other-preserved c =
    let r = c.loop-other.range in
    let rs = c.loop-other.others.items in
    let o = c.in-Some.other in
    let left = c.take_touching.new.others.items in
    let i = c.loop-other.invariant in
    let e : find (meets_range r) rs ≡ Some o = sym c.take_touching.ensures.found ∙ c.in-Some.is in
    let f = fewer (meets_range r) rs o i.all e in
    let k = c.take_touching.ensures.left in
    let n = f.number in
    let w = f.weight in
    let l : length left ≡ length (without_first (meets_range r) rs) = ap (λ xs. length xs) k in
    let v : weight_of left ≡ weight_of (without_first (meets_range r) rs) = ap (λ xs. weight_of xs) k in
    let j = c.join_one-joined.ensures in
    let x = j.weight in
    let y = j.few in
    let z = j.kept in
    let a = j.one in
    let q = i.fits in
    let p = i.room in
    let u = i.number in
    record {
      steps = next_join c.args.range.now c.args.others.now.items r rs c.loop-other.joined (c.loop-other.joined + c.join_one-joined.result) c.loop-other.drops.items c.join_one-joined.new.drops.items o c.join_one-joined.new.range j.value.0 left
          i.steps (sym e) k j.value.2 (ap (λ t. c.loop-other.joined + t) j.value.1) j.range;
      all = rw k f.others;
      fits = omega arith;
      space = rw k (j.space (without_first (meets_range r) rs) (moved_room (meets_range r) rs o r 0 e i.space));
      room = omega arith;
      number = omega arith;
      range = j.range;
      kept = c.take_touching.ensures.room ∙ i.kept;
    }

pub returns-clause-value : goal.returns-clause-value
returns-clause-value c =
    let e : find (meets_range c.loop-other.range) c.loop-other.others.items ≡ None = sym c.take_touching.ensures.found ∙ c.in_default.is in
    let s = c.take_touching.ensures.left ∙ unfound (meets_range c.loop-other.range) c.loop-other.others.items e in
    rw s c.loop-other.invariant.steps

pub returns-clause-last : goal.returns-clause-last
returns-clause-last c =
    let e : find (meets_range c.loop-other.range) c.loop-other.others.items ≡ None = sym c.take_touching.ensures.found ∙ c.in_default.is in
    let s = c.take_touching.ensures.left ∙ unfound (meets_range c.loop-other.range) c.loop-other.others.items e in
    rw s (none_passes (meets_range c.loop-other.range) c.loop-other.others.items e)

pub returns-clause-all : goal.returns-clause-all
returns-clause-all c =
    let e : find (meets_range c.loop-other.range) c.loop-other.others.items ≡ None = sym c.take_touching.ensures.found ∙ c.in_default.is in
    let s = c.take_touching.ensures.left ∙ unfound (meets_range c.loop-other.range) c.loop-other.others.items e in
    rw s c.loop-other.invariant.all

pub returns-clause-fits : goal.returns-clause-fits
returns-clause-fits c =
    let e : find (meets_range c.loop-other.range) c.loop-other.others.items ≡ None = sym c.take_touching.ensures.found ∙ c.in_default.is in
    let s = c.take_touching.ensures.left ∙ unfound (meets_range c.loop-other.range) c.loop-other.others.items e in
    rw s c.loop-other.invariant.fits

pub returns-clause-few : goal.returns-clause-few
returns-clause-few c =
    let e : find (meets_range c.loop-other.range) c.loop-other.others.items ≡ None = sym c.take_touching.ensures.found ∙ c.in_default.is in
    let s = c.take_touching.ensures.left ∙ unfound (meets_range c.loop-other.range) c.loop-other.others.items e in
    let n = c.loop-other.invariant.number in
    rw s (omega arith)
