use Rattle.std.proofs.Common.{◌≡◌, map, take}
use Rattle.mc_playlist.specs.Watches.{changes_of, news_of}
use Rattle.mc_playlist.proofs.news.read_due.Given as goal

abbrev pub invariant-loop-watched : goal.invariant-loop-watched
invariant-loop-watched g l = record {
  readings : l.news.readings ≡ map (news_of g.M.ListMeaning.value l.facts) (take l.watched-index l.watches);
  changes : l.news.changes ≡ changes_of g.M.ListMeaning.value l.facts (take l.watched-index l.watches);
}
