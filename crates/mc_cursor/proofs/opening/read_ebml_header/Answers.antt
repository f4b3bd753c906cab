use Rattle.std.proofs.Common.{◌≡◌, ◌∙◌, ◌≤◌, length, take, arith, length-take}
use Rattle.std.proofs.lemmas.Result.{IfOk-weaker}
use Rattle.mc_tracks.specs.Header.{ebml_header_of}
use Rattle.mc_cursor.proofs.Fronts.{header_cut, header_read, header_near}
use Rattle.mc_cursor.proofs.Stepping.{content_kept}
use Rattle.mc_cursor.proofs.opening.read_ebml_header.Goals as goal

pub returns-then-branch-clause-value : goal.returns-then-branch-clause-value
returns-then-branch-clause-value g c = λ octets told.
    let told' = content_kept _ _ _ _ _ _ _ c.args.file.0 c.read_found.ensures.kept ∙ told in
    header_cut octets c.header_size-size.result c.in_ok-found.found c.header_size-size.ensures (c.in_ok-found.ensures.value octets told (omega arith))
    (c.in_ok-read_lacks.ensures.large c.if-branch.true) (c.in_ok-read_lacks.ensures.value octets told' (omega arith) c.if-branch.true)

pub returns-clause-value : goal.returns-clause-value
returns-clause-value g c = λ octets told.
    let told' = content_kept _ _ _ _ _ _ _ c.args.file.0 c.read_found.ensures.kept ∙ told in
    let told'' = content_kept _ _ _ _ _ _ _ c.args.file.0 c.read_lacks.ensures.kept ∙ told' in
    let same : ebml_header_of c.as_slice.result.now ≡ ebml_header_of octets =
    header_read octets c.as_slice.result.now c.header_size-size.result c.in_ok-found.found c.header_size-size.ensures (c.in_ok-found.ensures.value octets told (omega arith))
    (c.as_slice.ensures.value ∙ c.in_ok-front.ensures.value octets told'') in
    rw same at c.header_in.ensures.value

pub returns-clause-within : goal.returns-clause-within
returns-clause-within g c = λ octets told.
    let told' = content_kept _ _ _ _ _ _ _ c.args.file.0 c.read_found.ensures.kept ∙ told in
    let told'' = content_kept _ _ _ _ _ _ _ c.args.file.0 c.read_lacks.ensures.kept ∙ told' in
    let read : c.as_slice.result.now ≡ take c.header_size-size.result octets = c.as_slice.ensures.value ∙ c.in_ok-front.ensures.value octets told'' in
    let le : length c.as_slice.result.now ≤ length octets = rw read (omega (arith, length-take c.header_size-size.result octets)) in
    IfOk-weaker c.header_in.result _ _ (λ n h. omega (arith, h, le)) c.header_in.ensures.within

pub returns-clause-near : goal.returns-clause-near
returns-clause-near g c =
    header_near _ c.header_in.result c.in_ok-found.found c.header_size-size.result _ _ _ (returns-clause-value g c) (λ octets told. c.in_ok-found.ensures.value octets told (omega arith))
    c.read_found.ensures.kept.within c.header_size-size.ensures (omega (arith, c.read_lacks.ensures.kept.within, c.read_front.ensures.kept.within))
