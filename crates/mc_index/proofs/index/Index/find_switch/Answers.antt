use Rattle.std.proofs.Common.{sym, subst}
use Rattle.std.proofs.Math.Facts.{to_z-of_z}
use Rattle.mc_cursor.specs.Standing.{plan_for}
use Rattle.mc_index.specs.Answers.{AreFor, AreOfBlocks, SwitchStarts}
use Rattle.mc_index.specs.Searches.{IsNear, NearReads}
use Rattle.mc_index.proofs.SoFar.{told-on, moved-on, reads-moved}
use Rattle.mc_index.proofs.Finding.{near-moved, switch-blocks, switch-value, switch-tracks, switch-second_reads, switch-reads}
use Rattle.mc_index.proofs.index.Index.find_switch.Goals as goal

pub returns-clause-tracks : goal.returns-clause-tracks
returns-clause-tracks g c =
    let is = c.switch_starts.ensures in
    subst (AreFor c.args.added) (sym is) (switch-tracks c.args.added c.args.at c.in_ok-video.video c.in_ok-audio.audio c.in_ok-leading.leading)

pub returns-clause-blocks : goal.returns-clause-blocks
returns-clause-blocks g c =
    let plain = to_z-of_z c.ranges.at in
    λ octets told stands index.
    let plan = plan_for octets c.args.cursor.now in
    let first = c.near.new.cursor in
    let moves = c.near.ensures.moves in
    let st = c.near.ensures.stands octets told stands index in
    let told' = told-on _ _ _ _ _ _ c.args.cursor.now first octets c.near.ensures.kept moves told in
    let second = c.near-2.new.cursor in
    let moves' = moved-on c.args.cursor.now first second moves c.near-2.ensures.moves in
    let st' = c.near-2.ensures.stands octets told' st.0 st.1 in
    let told'' = told-on _ _ _ _ _ _ first second octets c.near-2.ensures.kept c.near-2.ensures.moves told' in
    let one = rw plain at (c.in_ok-video.ensures.around octets told stands index) in
    let two = rw plain at (near-moved octets c.args.cursor.now first c.args.added.audio _ c.in_ok-audio.audio moves (c.in_ok-audio.ensures.around octets told' st.0 st.1)) in
    let raw = rw plain at (near-moved octets c.args.cursor.now second c.needed_lead.result _ c.in_ok-leading.leading moves' (c.in_ok-leading.ensures.around octets told'' st'.0 st'.1)) in
    let three = subst (λ o. IsNear plan o c.args.at c.in_ok-leading.leading) c.needed_lead.ensures raw in
    let is = c.switch_starts.ensures in
    subst (AreOfBlocks plan) (sym is) (switch-blocks plan c.args.added c.args.at c.in_ok-video.video c.in_ok-audio.audio c.in_ok-leading.leading _ one two three)

pub returns-clause-starts : goal.returns-clause-starts
returns-clause-starts g c =
    let plain = to_z-of_z c.ranges.at in
    λ octets told stands index.
    let plan = plan_for octets c.args.cursor.now in
    let first = c.near.new.cursor in
    let moves = c.near.ensures.moves in
    let st = c.near.ensures.stands octets told stands index in
    let told' = told-on _ _ _ _ _ _ c.args.cursor.now first octets c.near.ensures.kept moves told in
    let second = c.near-2.new.cursor in
    let moves' = moved-on c.args.cursor.now first second moves c.near-2.ensures.moves in
    let st' = c.near-2.ensures.stands octets told' st.0 st.1 in
    let told'' = told-on _ _ _ _ _ _ first second octets c.near-2.ensures.kept c.near-2.ensures.moves told' in
    let one = rw plain at (c.in_ok-video.ensures.around octets told stands index) in
    let two = rw plain at (near-moved octets c.args.cursor.now first c.args.added.audio _ c.in_ok-audio.audio moves (c.in_ok-audio.ensures.around octets told' st.0 st.1)) in
    let raw = rw plain at (near-moved octets c.args.cursor.now second c.needed_lead.result _ c.in_ok-leading.leading moves' (c.in_ok-leading.ensures.around octets told'' st'.0 st'.1)) in
    let three = subst (λ o. IsNear plan o c.args.at c.in_ok-leading.leading) c.needed_lead.ensures raw in
    let is = c.switch_starts.ensures in
    subst (SwitchStarts plan c.args.added c.args.lead c.args.at) (sym is)
    (switch-value plan c.args.added c.args.lead c.args.at c.in_ok-video.video c.in_ok-audio.audio c.in_ok-leading.leading one two three)

pub returns-clause-reach : goal.returns-clause-reach
returns-clause-reach g c =
    let plain = to_z-of_z c.ranges.at in
    λ octets told stands index.
    let plan = plan_for octets c.args.cursor.now in
    let first = c.near.new.cursor in
    let moves = c.near.ensures.moves in
    let st = c.near.ensures.stands octets told stands index in
    let told' = told-on _ _ _ _ _ _ c.args.cursor.now first octets c.near.ensures.kept moves told in
    let second = c.near-2.new.cursor in
    let moves' = moved-on c.args.cursor.now first second moves c.near-2.ensures.moves in
    let st' = c.near-2.ensures.stands octets told' st.0 st.1 in
    let told'' = told-on _ _ _ _ _ _ first second octets c.near-2.ensures.kept c.near-2.ensures.moves told' in
    let reads = rw plain at (c.near.ensures.reach octets told stands index) in
    let more = rw plain at (reads-moved octets c.args.cursor.now first c.args.added.audio _ _ _ moves (c.near-2.ensures.reach octets told' st.0 st.1)) in
    let raw = rw plain at (reads-moved octets c.args.cursor.now second c.needed_lead.result _ _ _ moves' (c.near-3.ensures.reach octets told'' st'.0 st'.1)) in
    let last = subst (λ o. NearReads plan o c.args.at (g.S.Shelf.reach c.near-2.new.shelf) (g.S.Shelf.reach c.near-3.new.shelf)) c.needed_lead.ensures raw in
    switch-reads plan c.args.added c.args.lead c.args.at _ _ _ _ reads more last

pub returns-in_err-leading-clause-reach : goal.returns-in_err-leading-clause-reach
returns-in_err-leading-clause-reach g c =
    let plain = to_z-of_z c.ranges.at in
    λ octets told stands index.
    let plan = plan_for octets c.args.cursor.now in
    let first = c.near.new.cursor in
    let moves = c.near.ensures.moves in
    let st = c.near.ensures.stands octets told stands index in
    let told' = told-on _ _ _ _ _ _ c.args.cursor.now first octets c.near.ensures.kept moves told in
    let second = c.near-2.new.cursor in
    let moves' = moved-on c.args.cursor.now first second moves c.near-2.ensures.moves in
    let st' = c.near-2.ensures.stands octets told' st.0 st.1 in
    let told'' = told-on _ _ _ _ _ _ first second octets c.near-2.ensures.kept c.near-2.ensures.moves told' in
    let reads = rw plain at (c.near.ensures.reach octets told stands index) in
    let more = rw plain at (reads-moved octets c.args.cursor.now first c.args.added.audio _ _ _ moves (c.near-2.ensures.reach octets told' st.0 st.1)) in
    let raw = rw plain at (reads-moved octets c.args.cursor.now second c.needed_lead.result _ _ _ moves' (c.near-3.ensures.reach octets told'' st'.0 st'.1)) in
    let last = subst (λ o. NearReads plan o c.args.at (g.S.Shelf.reach c.near-2.new.shelf) (g.S.Shelf.reach c.near-3.new.shelf)) c.needed_lead.ensures raw in
    switch-reads plan c.args.added c.args.lead c.args.at _ _ _ _ reads more last

pub returns-in_err-audio-clause-reach : goal.returns-in_err-audio-clause-reach
returns-in_err-audio-clause-reach g c =
    let plain = to_z-of_z c.ranges.at in
    λ octets told stands index.
    let plan = plan_for octets c.args.cursor.now in
    let first = c.near.new.cursor in
    let moves = c.near.ensures.moves in
    let st = c.near.ensures.stands octets told stands index in
    let told' = told-on _ _ _ _ _ _ c.args.cursor.now first octets c.near.ensures.kept moves told in
    let reads = rw plain at (c.near.ensures.reach octets told stands index) in
    let more = rw plain at (reads-moved octets c.args.cursor.now first c.args.added.audio _ _ _ moves (c.near-2.ensures.reach octets told' st.0 st.1)) in
    switch-second_reads plan c.args.added c.args.lead c.args.at _ _ _ reads more
