use Rattle.std.proofs.Common.{sym, subst, rules}
use Rattle.std.proofs.Math.Facts.{to_z-of_z}
use Rattle.std.proofs.Common.{SFits, w64}
use Rattle.mc_cursor.specs.Standing.{plan_for}
use Rattle.mc_index.specs.Answers.{AreFor, AreOfBlocks, SeekStarts}
use Rattle.mc_index.specs.Searches.{IsNear, NearReads}
use Rattle.mc_index.proofs.SoFar.{told-on, reads-moved}
use Rattle.mc_index.proofs.Finding.{near-moved, seek-blocks, seek-value, seek-tracks, seek-reads}
use Rattle.mc_index.proofs.index.Index.find.Goals as goal

pub returns-clause-tracks : goal.returns-clause-tracks
returns-clause-tracks g c = subst (AreFor c.args.set) (sym c.seek_starts.ensures) (seek-tracks c.args.set c.args.dir _ c.in_ok-lead.lead c.in_ok-beside.beside)

pub returns-clause-blocks : goal.returns-clause-blocks
returns-clause-blocks g c =
    let plain = to_z-of_z c.ranges.t in
    let fits : SFits w64 c.reference-time.result = search rules in
    let plain' = to_z-of_z fits in
    λ octets told stands index.
    let plan = plan_for octets c.args.cursor.now in
    let moves = c.near.ensures.moves in
    let lead = c.in_ok-lead.lead in
    let one = rw plain at (c.in_ok-lead.ensures.around octets told stands index) in
    let st = c.near.ensures.stands octets told stands index in
    let told' = told-on _ _ _ _ _ _ c.args.cursor.now c.near.new.cursor octets c.near.ensures.kept moves told in
    let ref = rw plain at c.reference-time.ensures in
    let beside = c.in_ok-beside.beside in
    let next = rw plain' at (near-moved octets c.args.cursor.now c.near.new.cursor c.args.set.audio _ beside moves (c.in_ok-beside.ensures.around octets told' st.0 st.1)) in
    let two = subst (λ z. IsNear plan c.args.set.audio z beside) ref next in
    let is = rw plain at c.seek_starts.ensures in
    subst (AreOfBlocks plan) (sym is) (seek-blocks plan c.args.set c.args.dir c.args.t lead beside one two)

pub returns-clause-starts : goal.returns-clause-starts
returns-clause-starts g c =
    let plain = to_z-of_z c.ranges.t in
    let fits : SFits w64 c.reference-time.result = search rules in
    let plain' = to_z-of_z fits in
    λ octets told stands index.
    let plan = plan_for octets c.args.cursor.now in
    let moves = c.near.ensures.moves in
    let lead = c.in_ok-lead.lead in
    let one = rw plain at (c.in_ok-lead.ensures.around octets told stands index) in
    let st = c.near.ensures.stands octets told stands index in
    let told' = told-on _ _ _ _ _ _ c.args.cursor.now c.near.new.cursor octets c.near.ensures.kept moves told in
    let ref = rw plain at c.reference-time.ensures in
    let beside = c.in_ok-beside.beside in
    let next = rw plain' at (near-moved octets c.args.cursor.now c.near.new.cursor c.args.set.audio _ beside moves (c.in_ok-beside.ensures.around octets told' st.0 st.1)) in
    let two = subst (λ z. IsNear plan c.args.set.audio z beside) ref next in
    let is = rw plain at c.seek_starts.ensures in
    subst (SeekStarts plan c.args.set c.args.dir c.args.t) (sym is) (seek-value plan c.args.set c.args.dir c.args.t lead beside one two)

pub returns-clause-reach : goal.returns-clause-reach
returns-clause-reach g c =
    let plain = to_z-of_z c.ranges.t in
    let fits : SFits w64 c.reference-time.result = search rules in
    let plain' = to_z-of_z fits in
    λ octets told stands index.
    let plan = plan_for octets c.args.cursor.now in
    let moves = c.near.ensures.moves in
    let lead = c.in_ok-lead.lead in
    let one = rw plain at (c.in_ok-lead.ensures.around octets told stands index) in
    let st = c.near.ensures.stands octets told stands index in
    let told' = told-on _ _ _ _ _ _ c.args.cursor.now c.near.new.cursor octets c.near.ensures.kept moves told in
    let ref = rw plain at c.reference-time.ensures in
    let reads = rw plain at (c.near.ensures.reach octets told stands index) in
    let more = rw plain' at (reads-moved octets c.args.cursor.now c.near.new.cursor c.args.set.audio _ _ _ moves (c.near-2.ensures.reach octets told' st.0 st.1)) in
    let further = subst (λ z. NearReads plan c.args.set.audio z (g.S.Shelf.reach c.near.new.shelf) (g.S.Shelf.reach c.near-2.new.shelf)) ref more in
    seek-reads plan c.args.set c.args.dir c.args.t lead _ _ _ one reads further

pub returns-in_err-beside-clause-reach : goal.returns-in_err-beside-clause-reach
returns-in_err-beside-clause-reach g c =
    let plain = to_z-of_z c.ranges.t in
    let fits : SFits w64 c.reference-time.result = search rules in
    let plain' = to_z-of_z fits in
    λ octets told stands index.
    let plan = plan_for octets c.args.cursor.now in
    let moves = c.near.ensures.moves in
    let lead = c.in_ok-lead.lead in
    let one = rw plain at (c.in_ok-lead.ensures.around octets told stands index) in
    let st = c.near.ensures.stands octets told stands index in
    let told' = told-on _ _ _ _ _ _ c.args.cursor.now c.near.new.cursor octets c.near.ensures.kept moves told in
    let ref = rw plain at c.reference-time.ensures in
    let reads = rw plain at (c.near.ensures.reach octets told stands index) in
    let more = rw plain' at (reads-moved octets c.args.cursor.now c.near.new.cursor c.args.set.audio _ _ _ moves (c.near-2.ensures.reach octets told' st.0 st.1)) in
    let further = subst (λ z. NearReads plan c.args.set.audio z (g.S.Shelf.reach c.near.new.shelf) (g.S.Shelf.reach c.near-2.new.shelf)) ref more in
    seek-reads plan c.args.set c.args.dir c.args.t lead _ _ _ one reads further
