use Rattle.std.proofs.Common.{◌≡◌, ◌∙◌, ap, map, [], ◌∷◌}
use Rattle.std.specs.Prelude.{codes, pos, string_bytes}
use Rattle.mc_outside.specs.CleanShelf.{told_by}
use Rattle.mc_packet.specs.declared.cache.Limits.{Limits}
use Rattle.mc_play.proofs.InMemory.{drained}
use Rattle.mc_play.proofs.summing.drain.Goals as goal

pub returns-in-Ok : goal.returns-in-Ok
returns-in-Ok c =
    let limits : Limits = record { forward = 157286400; back = 52428800; readahead = pos 1000000000 } in
    let words : map string_bytes c.as_slice.result.now ≡ codes "film" ∷ [] = ap (map string_bytes) c.as_slice.ensures.value ∙ c.in_ok-words.ensures in
    let played = c.in-Ok.played in
    drained c.args.octets.now (codes "film") (told_by c.in_ok-shelf.shelf) (map string_bytes c.as_slice.result.now) limits played.halt played.hd c.in_ok-shelf.ensures words c.in-Ok.ensures.played
