use Rattle.std.proofs.Common.{◌≡◌, ◌++◌, drop, string_bytes}
use Rattle.mc_playlist.specs.Telling.{told_of}
use Rattle.mc_playlist.specs.Text.{list_text, text_from}
use Rattle.mc_playlist.specs.Watches.{Current}
use Rattle.mc_playlist.proofs.text.list_text.Given as goal

abbrev pub invariant-loop-record : goal.invariant-loop-record
invariant-loop-record g l = record {
  current : Current g.M.ListMeaning.value l.table l.telling.playlist l.telling.watches;
  same : string_bytes l.telling.text ++ text_from g.M.ListMeaning.value l.table (told_of l.telling) (drop l.record-index l.record-items)
      ≡ list_text g.M.ListMeaning.value l.table l.steps l.runs;
}
