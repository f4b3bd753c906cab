use Rattle.mc_cursor.proofs.Chunks.{told_later}
use Rattle.mc_cursor.proofs.Beginning.{begins_by, opened_by, refused_at_header, refused_at_segment, refused_at_children}
use Rattle.mc_cursor.proofs.cursor.Cursor.begin.Goals as goal

pub returns-in_err-from-clause-value : goal.returns-in_err-from-clause-value
returns-in_err-from-clause-value g c = λ octets told.
    begins_by octets c.in_err-from.field-0.0 c.from_residual.result c.from_residual.ensures (refused_at_header octets c.in_err-from.field-0.0 (c.in_err-from.ensures.value octets told))

pub returns-in_err-segment-clause-value : goal.returns-in_err-segment-clause-value
returns-in_err-segment-clause-value g c = λ octets told.
    let first = c.in_ok-from.ensures.value octets told in
    let from_in = c.in_ok-from.ensures.within octets told in
    let told' = told_later _ _ _ _ _ _ c.args.file.0 octets c.read_ebml_header.ensures.kept told in
    let fails = c.in_err-segment.ensures.value octets told' from_in in
    begins_by octets c.in_err-segment.field-0.0 c.from_residual-in_err-segment.result c.from_residual-in_err-segment.ensures
    (refused_at_segment octets c.in_ok-from.from c.in_err-segment.field-0.0 first fails)

pub returns-in_err-header-clause-value : goal.returns-in_err-header-clause-value
returns-in_err-header-clause-value g c = λ octets told.
    let first = c.in_ok-from.ensures.value octets told in
    let from_in = c.in_ok-from.ensures.within octets told in
    let told' = told_later _ _ _ _ _ _ c.args.file.0 octets c.read_ebml_header.ensures.kept told in
    let second = c.in_ok-segment.ensures.value octets told' from_in in
    let within = c.in_ok-segment.ensures.within octets told' from_in in
    let told'' = told_later _ _ _ _ _ _ c.args.file.0 octets c.find_segment.ensures.kept told' in
    let fails = c.in_err-header.ensures.value octets told'' within in
    begins_by octets c.in_err-header.field-0.0 c.from_residual-in_err-header.result c.from_residual-in_err-header.ensures
    (refused_at_children octets c.in_ok-from.from c.in_ok-segment.segment c.in_err-header.field-0.0 first second fails)

pub returns-clause-value : goal.returns-clause-value
returns-clause-value g c = λ octets told.
    let first = c.in_ok-from.ensures.value octets told in
    let from_in = c.in_ok-from.ensures.within octets told in
    let told' = told_later _ _ _ _ _ _ c.args.file.0 octets c.read_ebml_header.ensures.kept told in
    let second = c.in_ok-segment.ensures.value octets told' from_in in
    let within = c.in_ok-segment.ensures.within octets told' from_in in
    let told'' = told_later _ _ _ _ _ _ c.args.file.0 octets c.find_segment.ensures.kept told' in
    let third = c.in_ok-header.ensures.value octets told'' within in
    record { opened = opened_by octets c.in_ok-from.from c.in_ok-segment.segment c.in_ok-header.header first second third; within = within }
