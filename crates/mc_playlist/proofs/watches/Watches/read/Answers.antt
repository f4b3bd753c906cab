use Rattle.std.proofs.Common.{◌≡◌, ◌∙◌, List, Option, ap, map}
use Rattle.mc_props.specs.declared.reading.Reading.{Reading}
use Rattle.mc_playlist.specs.Watches.{news_of, noted}
use Rattle.mc_playlist.specs.declared.watched.Watched.{Watched}
use Rattle.mc_playlist.proofs.Watching.{noted_is}
use Rattle.mc_playlist.proofs.watches.Watches.read.Goals as goal

pub returns-clause-after : goal.returns-clause-after
returns-clause-after g c =
    let ws : List Watched = c.args.self.now in
    let news = news_of g.M.ListMeaning.value c.args.facts.now in
    let items : c.deref.result.now ≡ ws = c.deref.ensures.value ∙ c.self.view_is in
    let readings : c.in_ok-news.news.readings ≡ map news ws = c.in_ok-news.ensures.readings ∙ ap (λ (xs : List Watched). map news xs) items in
    let given : c.note.new.self ≡ noted (map news ws) ws = c.note.ensures ∙ ap (λ (rs : List (Option Reading)). noted rs ws) readings in
    given ∙ noted_is g.M.ListMeaning.value c.args.facts.now ws
