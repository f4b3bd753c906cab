use Rattle.std.proofs.Common.{Some, sym, ◌∙◌, arith}
use Rattle.std.proofs.Math.Facts.{to_z-of_z}
use Rattle.mc_cursor.proofs.Chunks.{keeps_none, keeps_more}
use Rattle.mc_cursor.specs.Standing.{plan_for}
use Rattle.mc_index.proofs.SoFar.{since-mark, so-far-begins, so-far-reads, so-far-other, so-far-upto, so-far-past, so-far-ended, moved-by, moved-on, told-on, around-moved, reads-moved}
use Rattle.mc_index.proofs.index.Index.around.Goals as goal

pub loop-point-init : goal.loop-point-init
loop-point-init g c = record {
  later = omega arith;
  kept = keeps_none _ _ _;
  moved = moved-by c.args.cursor.now c.goto.new.self c.nearest-since.result.mark c.goto.ensures.value;
  told = λ octets told stands index.
      let plan = plan_for octets c.args.cursor.now in
      let since = c.nearest-since.ensures plan index in
      so-far-begins octets c.args.track _ c.args.cursor.now c.goto.new.self c.args.self.now c.nearest-since.result _ c.goto.ensures.value
      (c.goto.ensures.stands octets stands.opened (since-mark plan c.args.track _ c.nearest-since.result since)) index since;
}

pub loop-point-smaller-in-Other : goal.loop-point-smaller-in-Other
loop-point-smaller-in-Other g c = let on = rw c.in-Other.is at c.in_ok-read_on.ensures.onward in omega (arith, on.0, on.1)

pub loop-point-smaller : goal.loop-point-smaller
loop-point-smaller g c = let on = rw c.in-Upto.is at c.in_ok-read_on.ensures.onward in omega (arith, on.0, on.1)

pub loop-point-preserved-in-Other : goal.loop-point-preserved-in-Other
loop-point-preserved-in-Other g c =
    let l = c.loop-point in
    record {
      later = omega (arith, l.invariant.later, c.read_on.ensures.cause.later);
      kept = keeps_more _ _ _ _ _ _ _ _ _ l.invariant.kept c.read_on.ensures.kept;
      moved = moved-on c.args.cursor.now l.cursor c.read_on.new.cursor l.invariant.moved c.read_on.ensures.moves;
      told = λ octets told stands index.
          let so_far = l.invariant.told octets told stands index in
          let told' = told-on _ _ _ _ _ _ c.args.cursor.now l.cursor octets l.invariant.kept l.invariant.moved told in
          let found = c.in_ok-read_on.ensures.found octets told' so_far.stand.0 so_far.stand.1 in
          so-far-other octets c.args.track _ l.cursor c.read_on.new.cursor l.self c.read_on.new.self l.before _ _ _ so_far c.read_on.ensures.moves
          (c.read_on.ensures.stands octets told' so_far.stand.0 so_far.stand.1) found.1 (c.read_on.ensures.reach octets told' so_far.stand.0 so_far.stand.1)
          (sym c.in-Other.is ∙ found.0);
    }

pub loop-point-preserved : goal.loop-point-preserved
loop-point-preserved g c =
    let l = c.loop-point in
    record {
      later = omega (arith, l.invariant.later, c.read_on.ensures.cause.later);
      kept = keeps_more _ _ _ _ _ _ _ _ _ l.invariant.kept c.read_on.ensures.kept;
      moved = moved-on c.args.cursor.now l.cursor c.read_on.new.cursor l.invariant.moved c.read_on.ensures.moves;
      told = λ octets told stands index.
          let so_far = l.invariant.told octets told stands index in
          let told' = told-on _ _ _ _ _ _ c.args.cursor.now l.cursor octets l.invariant.kept l.invariant.moved told in
          let found = c.in_ok-read_on.ensures.found octets told' so_far.stand.0 so_far.stand.1 in
          so-far-upto octets c.args.track _ l.cursor c.read_on.new.cursor l.self c.read_on.new.self l.before c.in-Upto.point _ _ _ so_far c.read_on.ensures.moves
          (c.read_on.ensures.stands octets told' so_far.stand.0 so_far.stand.1) found.1 (c.read_on.ensures.reach octets told' so_far.stand.0 so_far.stand.1)
          (sym c.in-Upto.is ∙ found.0);
    }

pub returns-in_err-read_on-clause-reach : goal.returns-in_err-read_on-clause-reach
returns-in_err-read_on-clause-reach g c =
    let l = c.loop-point in
    let plain = to_z-of_z c.ranges.t in
    λ octets told stands index.
    let so_far = l.invariant.told octets told stands index in
    let told' = told-on _ _ _ _ _ _ c.args.cursor.now l.cursor octets l.invariant.kept l.invariant.moved told in
    let reads = so-far-reads octets c.args.track _ l.cursor l.self l.before _ _ _ so_far (c.read_on.ensures.reach octets told' so_far.stand.0 so_far.stand.1) in
    let here = reads-moved octets c.args.cursor.now l.cursor (Some c.args.track) _ _ _ l.invariant.moved reads in
    rw plain at here

pub returns-in-Past-clause-reach : goal.returns-in-Past-clause-reach
returns-in-Past-clause-reach g c =
    let l = c.loop-point in
    let plain = to_z-of_z c.ranges.t in
    λ octets told stands index.
    let so_far = l.invariant.told octets told stands index in
    let told' = told-on _ _ _ _ _ _ c.args.cursor.now l.cursor octets l.invariant.kept l.invariant.moved told in
    let reads = so-far-reads octets c.args.track _ l.cursor l.self l.before _ _ _ so_far (c.read_on.ensures.reach octets told' so_far.stand.0 so_far.stand.1) in
    let here = reads-moved octets c.args.cursor.now l.cursor (Some c.args.track) _ _ _ l.invariant.moved reads in
    rw plain at here

pub returns-in-End-clause-reach : goal.returns-in-End-clause-reach
returns-in-End-clause-reach g c =
    let l = c.loop-point in
    let plain = to_z-of_z c.ranges.t in
    λ octets told stands index.
    let so_far = l.invariant.told octets told stands index in
    let told' = told-on _ _ _ _ _ _ c.args.cursor.now l.cursor octets l.invariant.kept l.invariant.moved told in
    let reads = so-far-reads octets c.args.track _ l.cursor l.self l.before _ _ _ so_far (c.read_on.ensures.reach octets told' so_far.stand.0 so_far.stand.1) in
    let here = reads-moved octets c.args.cursor.now l.cursor (Some c.args.track) _ _ _ l.invariant.moved reads in
    rw plain at here

pub returns-in-Past-clause-around : goal.returns-in-Past-clause-around
returns-in-Past-clause-around g c =
    let l = c.loop-point in
    let plain = to_z-of_z c.ranges.t in
    λ octets told stands index.
    let so_far = l.invariant.told octets told stands index in
    let told' = told-on _ _ _ _ _ _ c.args.cursor.now l.cursor octets l.invariant.kept l.invariant.moved told in
    let found = c.in_ok-read_on.ensures.found octets told' so_far.stand.0 so_far.stand.1 in
    let around = so-far-past octets c.args.track _ l.cursor l.self l.before c.in-Past.point _ _ so_far (sym c.in-Past.is ∙ found.0) in
    let here = around-moved octets c.args.cursor.now l.cursor c.args.track _ _ l.invariant.moved around in
    rw plain at here

pub returns-in-End-clause-around : goal.returns-in-End-clause-around
returns-in-End-clause-around g c =
    let l = c.loop-point in
    let plain = to_z-of_z c.ranges.t in
    λ octets told stands index.
    let so_far = l.invariant.told octets told stands index in
    let told' = told-on _ _ _ _ _ _ c.args.cursor.now l.cursor octets l.invariant.kept l.invariant.moved told in
    let found = c.in_ok-read_on.ensures.found octets told' so_far.stand.0 so_far.stand.1 in
    let around = so-far-ended octets c.args.track _ l.cursor l.self l.before _ _ so_far (sym c.in-End.is ∙ found.0) in
    let here = around-moved octets c.args.cursor.now l.cursor c.args.track _ _ l.invariant.moved around in
    rw plain at here
