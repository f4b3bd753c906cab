use Rattle.std.proofs.Common.{sym, ◌∙◌, arith}
use Rattle.std.proofs.lemmas.List.Edits.{length-remove}
use Rattle.mc_outside.specs.Spots.{is_asked, meets_spot}
use Rattle.mc_outside.proofs.Found.{found_at, any_none, rest_none, any_more, any_end}
use Rattle.mc_outside.proofs.spots.spend.Goals as goal

pub remove-requires : goal.remove-requires
remove-requires c =
    let spots = c.loop-place.spots in
    let e = rw c.as_slice.ensures at (sym c.in-Some.ensures) in
    (found_at (is_asked c.args.file c.args.pos c.args.len) c.in-Some.place spots e).within

pub loop-place-smaller : goal.loop-place-smaller
loop-place-smaller c =
    let spots = c.loop-place.spots in
    let e = rw c.as_slice.ensures at (sym c.in-Some.ensures) in
    let f = found_at (is_asked c.args.file c.args.pos c.args.len) c.in-Some.place spots e in
    rw c.remove.ensures.rest (omega (arith, length-remove spots c.in-Some.place f.within))

pub loop-place-preserved : goal.loop-place-preserved
loop-place-preserved c =
    let spots = c.loop-place.spots in
    let e = rw c.as_slice.ensures at (sym c.in-Some.ensures) in
    let f = found_at (is_asked c.args.file c.args.pos c.args.len) c.in-Some.place spots e in
    record {
      met = any_more c.loop-place.spent (meets_spot c.args.file c.args.pos c.args.len spots) (meets_spot c.args.file c.args.pos c.args.len c.args.spots.now) c.loop-place.invariant.met f.any;
      left = rw c.remove.ensures.rest (f.rest ∙ c.loop-place.invariant.left);
    }

pub returns-clause-value : goal.returns-clause-value
returns-clause-value c =
    let spots = c.loop-place.spots in
    let e = rw c.as_slice.ensures at (sym c.in_default.ensures) in
    any_end c.loop-place.spent (meets_spot c.args.file c.args.pos c.args.len spots) (meets_spot c.args.file c.args.pos c.args.len c.args.spots.now) c.loop-place.invariant.met (any_none (is_asked c.args.file c.args.pos c.args.len) 0 spots e)

pub returns-clause-left : goal.returns-clause-left
returns-clause-left c =
    let spots = c.loop-place.spots in
    let e = rw c.as_slice.ensures at (sym c.in_default.ensures) in
    sym (rest_none (is_asked c.args.file c.args.pos c.args.len) 0 spots e) ∙ c.loop-place.invariant.left
