use Rattle.std.proofs.Common.{◌≡◌, rules}
use Rattle.mc_film.proofs.Reopening.{has_header, has_segment, opened_again}
use Rattle.mc_film.proofs.chunk.reopen.Goals as goal

pub unreachable-requires : goal.unreachable-requires
unreachable-requires c =
    let none = rw c.as_slice-bytes.ensures at c.in_default.ensures.value in
    has_header c.args.octets.now c.args.film.now c.in_default.field-0 c.requires none

pub unreachable-requires-in_default-find_segment : goal.unreachable-requires-in_default-find_segment
unreachable-requires-in_default-find_segment c =
    let header = rw c.as_slice-bytes.ensures at c.in-Ok.ensures.value in
    let none = rw c.as_slice-bytes.ensures at c.in_default-find_segment.ensures.value in
    has_segment c.args.octets.now c.args.film.now c.in-Ok.from c.in_default-find_segment.field-0 c.requires header none

pub returns-clause-value : goal.returns-clause-value
returns-clause-value c =
    let header = rw c.as_slice-bytes.ensures at c.in-Ok.ensures.value in
    let found = rw c.as_slice-bytes.ensures at c.in-Ok-find_segment.ensures.value in
    let shared : c.in_ok-clone.field-0 ≡ c.args.octets.now = search rules in
    rw (shared, c.in_ok-copy.ensures) (opened_again c.args.octets.now c.args.film.now c.in-Ok.from c.in-Ok-find_segment.segment c.requires header found)
