use Rattle.std.proofs.Common.{◌≡◌, ◌≤◌, ◌+◌, ◌∷◌, [], ◌++◌, List, Option, length, get_or, ap, sym, subst, ◌∙◌, arith, length-append}
use Rattle.std.proofs.Math.ListN.{set}
use Rattle.std.proofs.lemmas.List.{length-set}
use Rattle.mc_props.specs.declared.reading.Reading.{Reading}
use Rattle.mc_playlist.specs.Watches.{given, noted}
use Rattle.mc_playlist.specs.declared.watched.Watched.{Watched}
use Rattle.mc_playlist.proofs.Watching.{given_at, noted_more}
use Rattle.mc_playlist.proofs.news.note.Goals as goal

pub loop-reading-preserved : goal.loop-reading-preserved
loop-reading-preserved c =
    let rs : List (Option Reading) = c.loop-reading.readings in
    let rest : List (Option Reading) = c.pop.new.self in
    let ws : List Watched = c.loop-reading.watches in
    let d : Watched = c.index-watches-len.result in
    let last : rs ≡ rest ++ c.in-Some.reading ∷ [] = c.in-Some.ensures in
    let more : length rs ≡ length rest + 1 = ap length last ∙ length-append rest (c.in-Some.reading ∷ []) in
    let written : set ws c.len.result c.give.new.watched ≡ given_at ws (length rest) c.in-Some.reading d =
    ap (λ n. set ws n c.give.new.watched) c.len.ensures
    ∙ ap (λ (w : Watched). set ws (length rest) w) (c.give.ensures ∙ ap (λ n. given (get_or ws n d) c.in-Some.reading) c.len.ensures) in
    let long : length (set ws c.len.result c.give.new.watched) ≡ length ws = length-set ws c.len.result c.give.new.watched in
    let within : length rs ≤ length ws = c.loop-reading.invariant.within in
    record {
      within = omega (arith, more, long, within);
      same = ap (λ (xs : List Watched). noted rest xs) written
          ∙ noted_more rs rest c.in-Some.reading ws (noted c.args.readings c.args.watches.now) d last within c.loop-reading.invariant.same;
    }
